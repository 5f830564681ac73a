-- What a simulation says of its files, over other files that hold the same.
use Rattle.std.proofs.Common.{◌≡◌, ℕ, List, Option, Some, None, subst}
use Rattle.std.specs.Prelude.{IfSome}
use Rattle.io_edge.specs.View.{Files}
use Rattle.job_run.specs.Inputs.{InputsFit, told_all}
use Rattle.job_run.specs.Plan.{Plan}
use Rattle.command_words.specs.declared.sim.SimWords.{SimWords}
use Rattle.sim_run.specs.Ends.{PrintsServed, WhereTold}
use Rattle.sim_run.specs.Jobs.{IsTextJob}
use Rattle.sim_run.specs.Simulated.{IsServed, SimulatesTo}
use Rattle.sim_run.specs.Texts.{lines_of}

if_told : {A : Type 0} (o : Option A) (P Q : Type 0) → (P → Q) → IfSome o (λ x. P) → IfSome o (λ x. Q)
if_told None P Q f told = tt
if_told (Some x) P Q f told = f told

module _ (p : Plan) (s : SimWords) (old mid : Files) (held : mid.held ≡ old.held) (fit : InputsFit p mid → InputsFit p old) where
  simulates_over : (P : _) → SimulatesTo (IsTextJob p mid s) s P → SimulatesTo (IsTextJob p old s) s P
  simulates_over P to = record {
    job = to.job;
    wanted = to.wanted;
    is = record {
      small = to.is.small;
      inputs = fit to.is.inputs;
      named = to.is.named;
      runs = to.is.runs;
      wants = to.is.wants;
      told = rw (← held) to.is.told;
    };
    ends = to.ends;
  }

  pub told_over : (P : _) → WhereTold p mid (SimulatesTo (IsTextJob p mid s) s P) → WhereTold p old (SimulatesTo (IsTextJob p old s) s P)
  told_over P told =
      let T : (List ℕ → Option (List ℕ)) → Type 0 = λ f. IfSome (told_all f p.inputs) (λ contents. SimulatesTo (IsTextJob p mid s) s P) in
      if_told (told_all old.held p.inputs) (SimulatesTo (IsTextJob p mid s) s P) (SimulatesTo (IsTextJob p old s) s P) (simulates_over P) (subst T held told)

  -- and with another fact of the lines
  pub prints_over : (P Q : List ℕ → Type 0) → ((lines : List ℕ) → P lines → Q lines) → PrintsServed p s mid P → PrintsServed p s old Q
  prints_over P Q printed prints = record {
    report = prints.report;
    turns = prints.turns;
    served = told_over (λ job wanted s. IsServed job wanted s prints.report prints.turns) prints.served;
    printed = printed (lines_of p prints.report prints.turns) prints.printed;
  }
