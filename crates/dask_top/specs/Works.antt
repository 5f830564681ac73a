-- What each work does at each of its ends, why it ends so, and what it leaves.
use Rattle.std.specs.Prelude.{◌≡◌, ℕ, List, ◌++◌, None, Some, IsSomeAnd, Ok, Err}
use Rattle.io_edge.specs.Cause.{Rose}
use Rattle.io_edge.specs.View.{View, raised_by}
use Rattle.job_run.specs.declared.ends.Ended.{Ended}
use Rattle.job_run.specs.declared.ends.Ended.TheVariants as RunEnds
use Rattle.job_run.specs.Part.{IsNoneOf, RaisedAtMost}
use Rattle.job_run.specs.Plan.{Plan, names_saved}
use Rattle.job_run.specs.Runs.{AreUntouched, Looked, Cause as RunCause, Saves as RunSaves, Opened as RunOpened, Created as RunCreated, Prints as RunPrints}
use Rattle.job_text.specs.declared.error.JobError.{JobError}
use Rattle.job_text.specs.declared.error.JobKind.{JobKind}
use Rattle.job_text.specs.declared.error.JobKind.TheVariants as Kinds
use Rattle.sim_run.specs.declared.ends.SimEnded.{SimEnded}
use Rattle.sim_run.specs.declared.ends.SimEnded.TheVariants as SimEnds
use Rattle.sim_run.specs.Ends.{Cause as SimCause, Saves as SimSaves, Created as SimCreated, Prints as SimPrints}
use Rattle.command_words.specs.declared.run.RunWords.{RunWords}
use Rattle.command_words.specs.declared.sim.SimWords.{SimWords}
use Rattle.thread_run.specs.Ends.{Cause as ThreadCause, Saves as ThreadSaves, Looked as ThreadLooked, Opened as ThreadOpened, Prints as ThreadPrints, IsOutgrownRun, left_as, openings}
use Rattle.thread_run.specs.declared.ends.ThreadEnded.{ThreadEnded}
use Rattle.thread_run.specs.declared.ends.ThreadEnded.TheVariants as ThreadEnds
use Rattle.dask_top.specs.declared.answer.End.{End}
use Rattle.dask_top.specs.declared.answer.End.TheVariants.{Job, Limit, ReadFault, OutOfMemory}
use Rattle.dask_top.specs.Commands.{Work, Running, Evaluation, Simulation}
use Rattle.dask_top.specs.Ends.{run_end, sim_end, thread_end}
use Rattle.dask_top.specs.Reading.{Reading}

-- ## Where there is no job

abbrev pub UnreadCause : View → View → End → Type 0
UnreadCause old new ReadFault = Rose old.read_faults new.read_faults
UnreadCause old new OutOfMemory = Unit {0}
UnreadCause old new end = ⊥

-- the sources weren't read to their end
pub record StaysUnread (sources : List (List ℕ)) (old new : View) (end : End) : Type 0 where
  pub cause : UnreadCause old new end
  pub untouched : AreUntouched old.files new.files
  pub opened : RaisedAtMost sources old.files.opened new.files.opened
  pub prints : new.out ≡ old.out

-- a refusal of a text that is no limit that was passed
abbrev pub IsNoLimit : JobKind → Type 0
IsNoLimit (Kinds.Limit quantity) = ⊥
IsNoLimit kind = Unit {0}

abbrev pub RefusalCause : JobError → End → Type 0
RefusalCause refusal (Job error) = (error ≡ refusal) × IsNoLimit refusal.kind
RefusalCause refusal (Limit quantity) = refusal.kind ≡ Kinds.Limit quantity
RefusalCause refusal OutOfMemory = Unit {0}
RefusalCause refusal end = ⊥

-- the sources were read to their end and are refused
pub record RefusesSources (sources : List (List ℕ)) (refusal : JobError) (old new : View) (end : End) : Type 0 where
  pub cause : RefusalCause refusal end
  pub untouched : AreUntouched old.files new.files
  pub opened : new.files.opened ≡ raised_by sources old.files.opened
  pub prints : new.out ≡ old.out

-- ## An evaluation

-- The sources, and the inputs of a job whose graph passes no limit, were opened just so often, or at most so often.
abbrev pub JobOpened : List (List ℕ) → List (List ℕ) → (List ℕ → ℕ) → (List ℕ → ℕ) → Ended → Type 0
JobOpened sources inputs old new (RunEnds.Limit quantity) = new ≡ raised_by sources old
JobOpened sources inputs old new end = RunOpened (sources ++ inputs) old new end

-- An evaluation of this job, read of these sources, that ends so.
pub record Evaluates (sources : List (List ℕ)) (p : Plan) (old new : View) (end : Ended) : Type 0 where
  -- why it ends so
  pub cause : RunCause p old new end
  -- what the saved files hold
  pub saves : RunSaves p old.files new.files end
  -- where a file was touched, the inputs were opened, no name twice for it, and accepted
  pub looked : Looked p (sources ++ p.inputs) old.files new.files
  -- no file but the saved ones is touched
  pub others : (n : List ℕ) → IsNoneOf n (names_saved p) → new.files.held n ≡ old.files.held n
  -- each name was opened just so often, or at most so often
  pub opened : JobOpened sources p.inputs old.files.opened new.files.opened end
  -- the same of creations
  pub created : RunCreated (names_saved p) old.files.created new.files.created end
  -- the lines on standard output
  pub prints : RunPrints p old new end

-- ## A run by a cluster of threads

-- The sources, and the inputs of a job whose graph passes no limit, were opened between so often and so often, or at most so often.
abbrev pub RunningOpened : List (List ℕ) → Plan → RunWords → (List ℕ → ℕ) → (List ℕ → ℕ) → Ended → Type 0
RunningOpened sources p said old new (RunEnds.Limit quantity) = new ≡ raised_by sources old
RunningOpened sources p said old new end = ThreadOpened (sources ++ p.inputs) (sources ++ openings p said) old new end

-- A run of this job, read of these sources, by a cluster of threads as these words say, that ends so.
pub record Runs (sources : List (List ℕ)) (p : Plan) (said : RunWords) (old new : View) (end : Ended) : Type 0 where
  pub cause : ThreadCause p said old new end
  pub saves : ThreadSaves p old.files new.files end
  pub looked : ThreadLooked p (sources ++ p.inputs) (sources ++ openings p said) old.files new.files
  pub others : (n : List ℕ) → IsNoneOf n (names_saved p) → new.files.held n ≡ old.files.held n
  pub opened : RunningOpened sources p said old.files.opened new.files.opened end
  pub created : RunCreated (names_saved p) old.files.created new.files.created end
  pub prints : ThreadPrints p said old new end

-- The same, by its own end: at the events of a core it leaves what a run leaves that wants memory, and a node's history has passed its limit.
pub record RunsToEnd (sources : List (List ℕ)) (p : Plan) (said : RunWords) (old new : View) (end : ThreadEnded) : Type 0 where
  pub runs : Runs sources p said old new (left_as end)
  pub events : end ≡ ThreadEnds.Events → IsOutgrownRun p said old.files

-- ## A simulation

-- the same of a simulation
abbrev pub SimOpened : List (List ℕ) → List (List ℕ) → (List ℕ → ℕ) → (List ℕ → ℕ) → SimEnded → Type 0
SimOpened sources inputs old new SimEnds.Events = new ≡ raised_by (sources ++ inputs) old
SimOpened sources inputs old new (SimEnds.Ran end) = JobOpened sources inputs old new end

-- A simulation of a cluster by these words, on this job, read of these sources, that ends so.
pub record Simulates (sources : List (List ℕ)) (p : Plan) (said : SimWords) (old new : View) (end : SimEnded) : Type 0 where
  pub cause : SimCause p said old new end
  pub saves : SimSaves p old.files new.files end
  pub looked : Looked p (sources ++ p.inputs) old.files new.files
  pub others : (n : List ℕ) → IsNoneOf n (names_saved p) → new.files.held n ≡ old.files.held n
  pub opened : SimOpened sources p.inputs old.files.opened new.files.opened end
  pub created : SimCreated (names_saved p) old.files.created new.files.created end
  pub prints : SimPrints p said old new end

-- ## The works

-- the work on a job
abbrev pub WorkDoes : Work → List (List ℕ) → Plan → View → View → End → Type 0
WorkDoes (Running said) sources p old new end = IsSomeAnd (thread_end end) (RunsToEnd sources p said old new)
WorkDoes Evaluation sources p old new end = IsSomeAnd (run_end end) (Evaluates sources p old new)
WorkDoes (Simulation said) sources p old new end = IsSomeAnd (sim_end end) (Simulates sources p said old new)

-- the work on what was read of its sources
abbrev pub Does : Work → List (List ℕ) → Reading → View → View → End → Type 0
Does work sources None old new end = StaysUnread sources old new end
Does work sources (Some (Err refusal)) old new end = RefusesSources sources refusal old new end
Does work sources (Some (Ok p)) old new end = WorkDoes work sources p old new end
