-- A simulation of a cluster on a job, whose text was read before it and whose end was told after it.
use Rattle.std.proofs.Common.{◌≡◌, ℕ, ◌≤◌, List, ◌++◌, refl, ap, sym, ◌∙◌, subst, inl, inr, Some, Ok}
use Rattle.std.specs.Prelude.{IsSomeAnd, map}
use Rattle.io_edge.specs.Content.{followed_by}
use Rattle.io_edge.proofs.GivenLaws.{given_later, more_same, more_then}
use Rattle.io_edge.specs.View.{View, Files, Opens, OnlyReads, OnlyErr, raised_by}
use Rattle.job_run.specs.declared.ends.Ended.{Ended}
use Rattle.job_run.specs.declared.ends.Ended.TheVariants as RunEnds
use Rattle.job_run.specs.Inputs.{FirstRefusal}
use Rattle.job_run.specs.Plan.{Plan, names_saved}
use Rattle.job_run.specs.Runs.{Looked, PrintsFront}
use Rattle.job_run.proofs.Counting.{none_raised}
use Rattle.command_words.specs.declared.sim.SimWords.{SimWords}
use Rattle.sim_run.specs.declared.ends.SimEnded.{SimEnded}
use Rattle.sim_run.specs.declared.ends.SimEnded.TheVariants as SimEnds
use Rattle.sim_run.specs.Ends.{Cause as SimCause, Saves as SimSaves, RanSaves, Opened as SimOpens, Created as SimCreated, Prints as SimPrints, SimulatesPlan}
use Rattle.sim_run.specs.Simulated.{IsKilled, IsOutOfEvents}
use Rattle.dask_top.specs.declared.answer.End.{End}
use Rattle.dask_top.specs.Answers.{Performs}
use Rattle.dask_top.specs.Commands.{Simulation}
use Rattle.dask_top.specs.Ends.{Notes, sim_end}
use Rattle.dask_top.specs.Opening.{TextRead, JobRead}
use Rattle.dask_top.specs.Telling.{IsRefusal, Told, end_of, sim_end_of}
use Rattle.dask_top.specs.Works.{SimOpened, Simulates, WorkDoes}
use Rattle.dask_top.proofs.Evaluating.{all_before, cause_before, fit_before, front_before, front_told, looked_before, opened_before, refusal_opened, right_before, saves_before, values_before}
use Rattle.dask_top.proofs.Over.{prints_over, told_over}
use Rattle.dask_top.proofs.Reading.{is_given, is_read}
use Rattle.dask_top.proofs.Unread.{notes_before}
use Rattle.job_run.proofs.Running.{left_alone}

-- ## After it, only standard error got its line

cause_told : (p : Plan) (said : SimWords) (old mid new : View) (end : SimEnded) → OnlyErr mid new → SimCause p said old mid end → SimCause p said old new end
cause_told p said old mid new SimEnds.Events only cause = cause
cause_told p said old mid new (SimEnds.Ran RunEnds.Done) only cause = cause
cause_told p said old mid new (SimEnds.Ran (RunEnds.Limit quantity)) only cause = cause
cause_told p said old mid new (SimEnds.Ran (RunEnds.File place error)) only cause = (cause.0, cause.1, given_later old.gave mid.gave new.gave (λ holds. FirstRefusal p (map holds p.inputs) place error) cause.2 (more_same mid.gave new.gave only.gave))
cause_told p said old mid new (SimEnds.Ran (RunEnds.Zero node block)) only cause = cause
cause_told p said old mid new (SimEnds.Ran (RunEnds.Killed key losses)) only cause = cause
cause_told p said old mid new (SimEnds.Ran RunEnds.ReadFault) only cause = rw only.read_faults cause
cause_told p said old mid new (SimEnds.Ran RunEnds.WriteFault) only cause = rw (only.write_faults, only.print_faults) cause
cause_told p said old mid new (SimEnds.Ran RunEnds.OutOfMemory) only cause = tt

prints_told : (p : Plan) (said : SimWords) (old mid new : View) (end : SimEnded) → OnlyErr mid new → SimPrints p said old mid end → SimPrints p said old new end
prints_told p said old mid new SimEnds.Events only prints = only.out ∙ prints
prints_told p said old mid new (SimEnds.Ran RunEnds.Done) only prints =
    prints_over p said old.files old.files refl (λ fit. fit) (λ lines. mid.out ≡ followed_by old.out lines) (λ lines. new.out ≡ followed_by old.out lines) (λ lines printed. only.out ∙ printed) prints
prints_told p said old mid new (SimEnds.Ran RunEnds.WriteFault) only prints =
    prints_over p said old.files old.files refl (λ fit. fit) (PrintsFront p old mid) (PrintsFront p old new) (λ lines printed. front_told p old mid new lines only printed) prints
prints_told p said old mid new (SimEnds.Ran (RunEnds.Limit quantity)) only prints = only.out ∙ prints
prints_told p said old mid new (SimEnds.Ran (RunEnds.File place error)) only prints = only.out ∙ prints
prints_told p said old mid new (SimEnds.Ran (RunEnds.Zero node block)) only prints = only.out ∙ prints
prints_told p said old mid new (SimEnds.Ran (RunEnds.Killed key losses)) only prints = only.out ∙ prints
prints_told p said old mid new (SimEnds.Ran RunEnds.ReadFault) only prints = only.out ∙ prints
prints_told p said old mid new (SimEnds.Ran RunEnds.OutOfMemory) only prints = only.out ∙ prints

simulates_told : (sources : List (List ℕ)) (p : Plan) (said : SimWords) (old mid new : View) (end : SimEnded) → OnlyErr mid new → Simulates sources p said old mid end → Simulates sources p said old new end
simulates_told sources p said old mid new end only e =
    let S : Files → Type 0 = λ x. SimSaves p old.files x end in
    let L : Files → Type 0 = λ x. Looked p (sources ++ p.inputs) old.files x in
    let O : Files → Type 0 = λ x. SimOpened sources p.inputs old.files.opened x.opened end in
    let C : Files → Type 0 = λ x. SimCreated (names_saved p) old.files.created x.created end in
    record {
      cause = cause_told p said old mid new end only e.cause;
      saves = subst S (sym only.files) e.saves;
      looked = subst L (sym only.files) e.looked;
      others = λ n none. ap (λ (x : Files). x.held n) only.files ∙ e.others n none;
      opened = subst O (sym only.files) e.opened;
      created = subst C (sym only.files) e.created;
      prints = prints_told p said old mid new end only e.prints;
    }

-- ## Memory was wanted for a refusal's line

starved : (sources : List (List ℕ)) (p : Plan) (said : SimWords) (old new : View) (end : Ended) → IsRefusal (end_of end) → new.files.held ≡ old.files.held → new.files.created ≡ old.files.created → new.out ≡ old.out →
    Simulates sources p said old new (SimEnds.Ran end) → Simulates sources p said old new (SimEnds.Ran RunEnds.OutOfMemory)
starved sources p said old new end is held created prints e = record {
  cause = tt;
  saves = left_alone p old.files new.files held;
  looked = e.looked;
  others = e.others;
  opened = refusal_opened sources p.inputs old.files.opened new.files.opened end is e.opened;
  created = none_raised (names_saved p) old.files.created new.files.created created;
  prints = prints;
}

simulates_starved : (sources : List (List ℕ)) (p : Plan) (said : SimWords) (old new : View) (end : SimEnded) → IsRefusal (sim_end_of end) → Simulates sources p said old new end → Simulates sources p said old new (SimEnds.Ran RunEnds.OutOfMemory)
simulates_starved sources p said old new (SimEnds.Ran (RunEnds.File place error)) is e = starved sources p said old new (RunEnds.File place error) is e.saves e.created e.prints e
simulates_starved sources p said old new (SimEnds.Ran (RunEnds.Limit quantity)) is e = starved sources p said old new (RunEnds.Limit quantity) is e.saves e.created e.prints e
simulates_starved sources p said old new (SimEnds.Ran (RunEnds.Zero node block)) is e = starved sources p said old new (RunEnds.Zero node block) is e.saves e.created e.prints e
simulates_starved sources p said old new (SimEnds.Ran (RunEnds.Killed key losses)) is e = starved sources p said old new (RunEnds.Killed key losses) is e.saves e.created e.prints e
simulates_starved sources p said old new (SimEnds.Ran RunEnds.Done) is e = absurd is
simulates_starved sources p said old new (SimEnds.Ran RunEnds.ReadFault) is e = absurd is
simulates_starved sources p said old new (SimEnds.Ran RunEnds.WriteFault) is e = absurd is
simulates_starved sources p said old new (SimEnds.Ran RunEnds.OutOfMemory) is e = absurd is
simulates_starved sources p said old new SimEnds.Events is e = absurd is

-- ## Its end as an end of the program

sim_is : (P : SimEnded → Type 0) (end : SimEnded) → P end → IsSomeAnd (sim_end (sim_end_of end)) P
sim_is P SimEnds.Events holds = holds
sim_is P (SimEnds.Ran RunEnds.Done) holds = holds
sim_is P (SimEnds.Ran (RunEnds.Limit quantity)) holds = holds
sim_is P (SimEnds.Ran (RunEnds.File place error)) holds = holds
sim_is P (SimEnds.Ran (RunEnds.Zero node block)) holds = holds
sim_is P (SimEnds.Ran (RunEnds.Killed key losses)) holds = holds
sim_is P (SimEnds.Ran RunEnds.ReadFault) holds = holds
sim_is P (SimEnds.Ran RunEnds.WriteFault) holds = holds
sim_is P (SimEnds.Ran RunEnds.OutOfMemory) holds = holds

simulated : (sources : List (List ℕ)) (p : Plan) (said : SimWords) (old mid new : View) (end : SimEnded) (now : End) → Told (sim_end_of end) now → OnlyErr mid new → Simulates sources p said old mid end → WorkDoes (Simulation said) sources p old new now
simulated sources p said old mid new end now told only e =
    let W : End → Type 0 = λ x. WorkDoes (Simulation said) sources p old new x in
    elim told [
      | inl same ↦ subst W (sym same) (sim_is (Simulates sources p said old new) end (simulates_told sources p said old mid new end only e))
      | inr refused ↦ subst W (sym refused.1) (simulates_told sources p said old mid new (SimEnds.Ran RunEnds.OutOfMemory) only (simulates_starved sources p said old mid end refused.0 e))
    ]

-- ## Before it, only the text was read

sim_cause_before : (p : Plan) (said : SimWords) (old mid new : View) (end : SimEnded) → mid.files.held ≡ old.files.held → mid.files.tells ≡ old.files.tells → OnlyReads old mid → old.read_faults ≤ mid.read_faults →
    SimCause p said mid new end → SimCause p said old new end
sim_cause_before p said old mid new SimEnds.Events held tells only later cause = (cause.0, fit_before p old.files mid.files held tells cause.1, told_over p said old.files mid.files held (fit_before p old.files mid.files held tells) IsOutOfEvents cause.2)
sim_cause_before p said old mid new (SimEnds.Ran RunEnds.Done) held tells only later cause = (cause.0, values_before p old.files mid.files held tells cause.1)
sim_cause_before p said old mid new (SimEnds.Ran (RunEnds.Limit quantity)) held tells only later cause = cause
sim_cause_before p said old mid new (SimEnds.Ran (RunEnds.File place error)) held tells only later cause = cause_before p old mid new (RunEnds.File place error) held tells only later cause
sim_cause_before p said old mid new (SimEnds.Ran (RunEnds.Zero node block)) held tells only later cause = (cause.0, record { inputs = fit_before p old.files mid.files held tells cause.1.inputs; zero_at = rw (← held) cause.1.zero_at })
sim_cause_before p said old mid new (SimEnds.Ran (RunEnds.Killed key losses)) held tells only later cause = (
  cause.0,
  fit_before p old.files mid.files held tells cause.1,
  cause.2,
  told_over p said old.files mid.files held (fit_before p old.files mid.files held tells) (λ job wanted s. IsKilled job wanted s key) cause.3,
)
sim_cause_before p said old mid new (SimEnds.Ran RunEnds.ReadFault) held tells only later cause = cause_before p old mid new RunEnds.ReadFault held tells only later cause
sim_cause_before p said old mid new (SimEnds.Ran RunEnds.WriteFault) held tells only later cause = (cause.0, values_before p old.files mid.files held tells cause.1, rw (← only.write_faults, ← only.print_faults) cause.2)
sim_cause_before p said old mid new (SimEnds.Ran RunEnds.OutOfMemory) held tells only later cause = tt

ran_saves_before : (p : Plan) (old mid new : Files) (end : Ended) → mid.held ≡ old.held → mid.tells ≡ old.tells → RanSaves p mid new end → RanSaves p old new end
ran_saves_before p old mid new (RunEnds.Zero node block) held tells saves = saves ∙ held
ran_saves_before p old mid new (RunEnds.Killed key losses) held tells saves = saves ∙ held
ran_saves_before p old mid new (RunEnds.Limit quantity) held tells saves = saves ∙ held
ran_saves_before p old mid new (RunEnds.File place error) held tells saves = saves ∙ held
ran_saves_before p old mid new RunEnds.Done held tells saves = saves_before p old mid new RunEnds.Done held tells saves
ran_saves_before p old mid new RunEnds.ReadFault held tells saves = right_before p old mid new held tells saves
ran_saves_before p old mid new RunEnds.WriteFault held tells saves = right_before p old mid new held tells saves
ran_saves_before p old mid new RunEnds.OutOfMemory held tells saves = right_before p old mid new held tells saves

sim_saves_before : (p : Plan) (old mid new : Files) (end : SimEnded) → mid.held ≡ old.held → mid.tells ≡ old.tells → SimSaves p mid new end → SimSaves p old new end
sim_saves_before p old mid new SimEnds.Events held tells saves = saves ∙ held
sim_saves_before p old mid new (SimEnds.Ran end) held tells saves = ran_saves_before p old mid new end held tells saves

sim_opened_before : (names inputs : List (List ℕ)) (old mid : Files) (new : List ℕ → ℕ) (end : SimEnded) → Opens names old mid → mid.opened ≡ raised_by names old.opened → SimOpens inputs mid.opened new end → SimOpened names inputs old.opened new end
sim_opened_before names inputs old mid new SimEnds.Events opens first opened = all_before names inputs old.opened mid.opened new first opened
sim_opened_before names inputs old mid new (SimEnds.Ran end) opens first opened = opened_before names inputs old mid new end opens first opened

sim_created_before : (names : List (List ℕ)) (old mid new : List ℕ → ℕ) (end : SimEnded) → mid ≡ old → SimCreated names mid new end → SimCreated names old new end
sim_created_before names old mid new end same created = let C : (List ℕ → ℕ) → Type 0 = λ f. SimCreated names f new end in subst C same created

sim_prints_before : (p : Plan) (said : SimWords) (old mid new : View) (end : SimEnded) → mid.files.held ≡ old.files.held → mid.files.tells ≡ old.files.tells → mid.files.created ≡ old.files.created → OnlyReads old mid → SimPrints p said mid new end → SimPrints p said old new end
sim_prints_before p said old mid new SimEnds.Events held tells created only prints = prints ∙ only.out
sim_prints_before p said old mid new (SimEnds.Ran RunEnds.Done) held tells created only prints =
    prints_over p said old.files mid.files held (fit_before p old.files mid.files held tells) (λ lines. new.out ≡ followed_by mid.out lines) (λ lines. new.out ≡ followed_by old.out lines) (λ lines printed. printed ∙ ap (λ o. followed_by o lines) only.out) prints
sim_prints_before p said old mid new (SimEnds.Ran RunEnds.WriteFault) held tells created only prints =
    prints_over p said old.files mid.files held (fit_before p old.files mid.files held tells) (PrintsFront p mid new) (PrintsFront p old new) (λ lines printed. front_before p old mid new lines held tells created only printed) prints
sim_prints_before p said old mid new (SimEnds.Ran (RunEnds.Limit quantity)) held tells created only prints = prints ∙ only.out
sim_prints_before p said old mid new (SimEnds.Ran (RunEnds.File place error)) held tells created only prints = prints ∙ only.out
sim_prints_before p said old mid new (SimEnds.Ran (RunEnds.Zero node block)) held tells created only prints = prints ∙ only.out
sim_prints_before p said old mid new (SimEnds.Ran (RunEnds.Killed key losses)) held tells created only prints = prints ∙ only.out
sim_prints_before p said old mid new (SimEnds.Ran RunEnds.ReadFault) held tells created only prints = prints ∙ only.out
sim_prints_before p said old mid new (SimEnds.Ran RunEnds.OutOfMemory) held tells created only prints = prints ∙ only.out

simulates : (names : List (List ℕ)) (p : Plan) (said : SimWords) (old mid new : View) (read : List ℕ) (end : SimEnded) → TextRead names old mid read → SimulatesPlan p said mid new end → Simulates names p said old new end
simulates names p said old mid new read end t sims =
    let opens = t.opens in
    record {
      cause = sim_cause_before p said old mid new end opens.held opens.tells t.only t.later sims.cause;
      saves = sim_saves_before p old.files mid.files new.files end opens.held opens.tells sims.saves;
      looked = looked_before names p old.files mid.files new.files opens t.opened sims.looked;
      others = λ n none. sims.others n none ∙ ap (λ f. f n) opens.held;
      opened = sim_opened_before names p.inputs old.files mid.files new.files.opened end opens t.opened sims.opened;
      created = sim_created_before (names_saved p) old.files.created mid.files.created new.files.created end opens.created sims.created;
      prints = sim_prints_before p said old mid new end opens.held opens.tells opens.created t.only sims.prints;
    }

pub sim_performs : (names : List (List ℕ)) (p : Plan) (said : SimWords) (old mid done new : View) (end : SimEnded) (now : End) → JobRead names old mid p → SimulatesPlan p said mid done end → Told (sim_end_of end) now → OnlyErr done new →
    Notes (Some (Ok p)) done new now → Performs names (Simulation said) old new now
sim_performs names p said old mid done new end now j sims told only notes = record {
  reading = Some (Ok p);
  read = is_read names old mid j.read (Ok p) j.text j.says;
  given = is_given names old mid new j.read (Ok p) j.text j.says (more_then mid.gave done.gave new.gave sims.gave (more_same done.gave new.gave only.gave));
  does = simulated names p said old done new end now told only (simulates names p said old mid done j.read end j.text sims);
  tells = ap (λ (x : Files). x.tells) only.files ∙ (sims.tells ∙ j.text.opens.tells);
  notes = notes_before (Some (Ok p)) old done new now (sims.err ∙ j.text.only.err) (sims.note_faults ∙ j.text.only.note_faults) notes;
}
