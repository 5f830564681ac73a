-- How a command ends where nothing failed: as its job's text, its inputs and its values say.
use Rattle.std.specs.Prelude.{◌≡◌, ◌⊎◌, ◌≤◌, ℕ, List, Option, Some, None, IsSomeAnd, IsTrue, Ok}
use Rattle.io_edge.specs.Cause.{Rose}
use Rattle.io_edge.specs.View.{View}
use Rattle.nd_shape.specs.Block.{Array}
use Rattle.cluster_msgs.specs.Scripts.{removes_in}
use Rattle.cluster_msgs.specs.declared.events.Item.{Item}
use Rattle.job_run.specs.Inputs.{FitInputs, HoldArrays, told_all}
use Rattle.job_run.specs.Plan.{Plan, input_shapes}
use Rattle.job_run.specs.Runs.{IsSmall}
use Rattle.job_run.specs.Values.{MeetsNone, NeedsFault}
use Rattle.plain_eval.specs.Eval.{held_in}
use Rattle.sim_run.specs.Jobs.{IsTextJob}
use Rattle.sim_run.specs.Simulated.{IsOutOfEvents, SimulatesTo}
use Rattle.command_words.specs.declared.generate.GenWords.{GenWords}
use Rattle.command_words.specs.declared.run.RunWords.{RunWords}
use Rattle.command_words.specs.declared.sim.SimWords.{SimWords}
use Rattle.thread_run.specs.Ends.{IsOutgrownRun}
use Rattle.dask_top.specs.Commands.{Command, Run, Plain, Sim, Gen, Asks, Work, Running, Evaluation, Simulation, sources_of}
use Rattle.dask_top.specs.Generating.{NeverEndsAlone}
use Rattle.dask_top.specs.Reading.{Reads}

-- files of these bytes hold arrays over which no needed block meets a zero divisor
pub record MeetNoZero (p : Plan) (contents : List (List ℕ)) : Type 0 where
  pub blocks : List Array
  pub hold : HoldArrays (input_shapes p.nodes) contents blocks
  pub none : MeetsNone p (held_in blocks)

-- files of these bytes hold arrays over which some needed block meets a zero divisor
pub record MeetZero (p : Plan) (contents : List (List ℕ)) : Type 0 where
  pub blocks : List Array
  pub hold : HoldArrays (input_shapes p.nodes) contents blocks
  pub key : ℕ
  pub fault : NeedsFault p (held_in blocks) key

-- no count of faults that a status rests on rose
pub record NoFault (old new : View) : Type 0 where
  pub read : ¬ Rose old.read_faults new.read_faults
  pub write : ¬ Rose old.write_faults new.write_faults
  pub print : ¬ Rose old.print_faults new.print_faults

-- the files of the inputs are told, and this holds of their bytes
abbrev pub Tell : Plan → View → (List (List ℕ) → Type 0) → Type 0
Tell p old P = IsSomeAnd (told_all old.files.held p.inputs) P

-- How a job ends whose inputs are told: at a limit that its graph passes, else at an input where they are not as declared, else at a zero divisor where
-- some needed block meets one, else well; or memory was wanted.
pub record EndsByInputs (p : Plan) (old : View) (status : ℕ) : Type 0 where
  pub large : ¬ IsSmall p → (status ≡ 9) ⊎ (status ≡ 8)
  pub unfit : IsSmall p → Tell p old (λ contents. ¬ FitInputs p contents) → (status ≡ 3) ⊎ (status ≡ 8)
  pub some : IsSmall p → Tell p old (FitInputs p) → Tell p old (MeetZero p) → (status ≡ 4) ⊎ (status ≡ 8)
  pub none : IsSmall p → Tell p old (FitInputs p) → Tell p old (MeetNoZero p) → (status ≡ 0) ⊎ (status ≡ 8)

-- a script takes workers away no more often than a key's worker may leave, where that is bounded
abbrev pub AllowsAll : Option ℕ → List Item → Type 0
AllowsAll None script = Unit {0}
AllowsAll (Some most) script = removes_in script ≤ most

abbrev pub AllowsRun : RunWords → Type 0
AllowsRun said = AllowsAll said.settings.allowed said.script

-- How a run by threads ends: as an evaluation of its job does, where all that the script takes away is allowed, or after 2^40 events of a node's core; else
-- a key may be killed. Its workers' blocks lie on disks of the site, too: so zero divisors decide where it tells what it holds.
pub record EndsByRun (p : Plan) (said : RunWords) (old : View) (status : ℕ) : Type 0 where
  pub large : ¬ IsSmall p → (status ≡ 9) ⊎ (status ≡ 8)
  pub unfit : IsSmall p → Tell p old (λ contents. ¬ FitInputs p contents) → (status ≡ 3) ⊎ (status ≡ 8)
  pub some : IsTrue old.files.tells → IsSmall p → Tell p old (FitInputs p) → Tell p old (MeetZero p) → AllowsRun said → (status ≡ 4) ⊎ ((status ≡ 9) ⊎ (status ≡ 8))
  pub none : IsTrue old.files.tells → IsSmall p → Tell p old (FitInputs p) → Tell p old (MeetNoZero p) → AllowsRun said → (status ≡ 0) ⊎ ((status ≡ 9) ⊎ (status ≡ 8))
  pub either : IsSmall p → Tell p old (FitInputs p) → AllowsRun said → (status ≡ 0) ⊎ ((status ≡ 4) ⊎ ((status ≡ 9) ⊎ (status ≡ 8)))
  pub some_killed : IsTrue old.files.tells → IsSmall p → Tell p old (FitInputs p) → Tell p old (MeetZero p)
      → (status ≡ 4) ⊎ ((status ≡ 11) ⊎ ((status ≡ 9) ⊎ (status ≡ 8)))
  pub none_killed : IsTrue old.files.tells → IsSmall p → Tell p old (FitInputs p) → Tell p old (MeetNoZero p)
      → (status ≡ 0) ⊎ ((status ≡ 11) ⊎ ((status ≡ 9) ⊎ (status ≡ 8)))
  pub either_killed : IsSmall p → Tell p old (FitInputs p) → (status ≡ 0) ⊎ ((status ≡ 4) ⊎ ((status ≡ 11) ⊎ ((status ≡ 9) ⊎ (status ≡ 8))))
  -- 9 comes of no other cause where no limit of the graph is passed
  pub events : IsSmall p → status ≡ 9 → IsOutgrownRun p said old.files

-- a simulation of a job by these words draws 2^40 events and comes to no end
abbrev pub NeverEnds : Plan → SimWords → View → Type 0
NeverEnds p said old = SimulatesTo (IsTextJob p old.files said) said IsOutOfEvents

abbrev pub Allows : SimWords → Type 0
Allows said = AllowsAll said.settings.allowed said.script

-- How a simulation of a job by these words ends: as an evaluation of it does, where all that the script takes away is allowed, or after 2^40 events
-- where as many are drawn without an end; else a key may be killed. At each of these memory may be wanted instead.
pub record EndsBySimulation (p : Plan) (said : SimWords) (old : View) (status : ℕ) : Type 0 where
  pub large : ¬ IsSmall p → (status ≡ 9) ⊎ (status ≡ 8)
  pub unfit : IsSmall p → Tell p old (λ contents. ¬ FitInputs p contents) → (status ≡ 3) ⊎ (status ≡ 8)
  pub some : IsSmall p → Tell p old (FitInputs p) → Tell p old (MeetZero p) → ¬ NeverEnds p said old → Allows said → (status ≡ 4) ⊎ (status ≡ 8)
  pub none : IsSmall p → Tell p old (FitInputs p) → Tell p old (MeetNoZero p) → ¬ NeverEnds p said old → Allows said → (status ≡ 0) ⊎ (status ≡ 8)
  pub some_limit : IsSmall p → Tell p old (FitInputs p) → Tell p old (MeetZero p) → Allows said → (status ≡ 4) ⊎ ((status ≡ 9) ⊎ (status ≡ 8))
  pub none_limit : IsSmall p → Tell p old (FitInputs p) → Tell p old (MeetNoZero p) → Allows said → (status ≡ 0) ⊎ ((status ≡ 9) ⊎ (status ≡ 8))
  pub some_killed : IsSmall p → Tell p old (FitInputs p) → Tell p old (MeetZero p) → (status ≡ 4) ⊎ ((status ≡ 11) ⊎ ((status ≡ 9) ⊎ (status ≡ 8)))
  pub none_killed : IsSmall p → Tell p old (FitInputs p) → Tell p old (MeetNoZero p) → (status ≡ 0) ⊎ ((status ≡ 11) ⊎ ((status ≡ 9) ⊎ (status ≡ 8)))

abbrev pub EndsByWork : Work → Plan → View → ℕ → Type 0
EndsByWork (Running said) p old status = EndsByRun p said old status
EndsByWork Evaluation p old status = EndsByInputs p old status
EndsByWork (Simulation said) p old status = EndsBySimulation p said old status

-- How a command ends whose sources are told: with a refusal where they say no job, else as the work on their job does; or memory was wanted.
pub record EndsByTexts (sources : List (List ℕ)) (work : Work) (old : View) (status : ℕ) : Type 0 where
  pub refused : IsSomeAnd (told_all old.files.held sources) (λ texts. (p : Plan) → ¬ Reads texts (Ok p)) → (status ≡ 2) ⊎ ((status ≡ 9) ⊎ (status ≡ 8))
  pub runs : (p : Plan) → IsSomeAnd (told_all old.files.held sources) (λ texts. Reads texts (Ok p)) → EndsByWork work p old status

-- How a simulation of the job that a number makes ends: well, or after 2^40 events where as many are drawn without an end; or memory was wanted.
pub record EndsByNumber (w : GenWords) (status : ℕ) : Type 0 where
  pub going : ¬ NeverEndsAlone w → (status ≡ 0) ⊎ (status ≡ 8)
  pub limit : (status ≡ 0) ⊎ ((status ≡ 9) ⊎ (status ≡ 8))

abbrev pub CommandEnds : Command → View → ℕ → Type 0
CommandEnds (Run said) old status = EndsByTexts (sources_of (Run said)) (Running said) old status
CommandEnds (Plain said) old status = EndsByTexts (sources_of (Plain said)) Evaluation old status
CommandEnds (Sim said) old status = EndsByTexts (sources_of (Sim said)) (Simulation said) old status
CommandEnds (Gen said) old status = EndsByNumber said status

-- where no count rose, a command ends as the texts of its sources say, or as its number says
abbrev pub Completes : List (List ℕ) → View → View → ℕ → Type 0
Completes words old new status = (command : Command) → Asks words command → NoFault old new → CommandEnds command old status
