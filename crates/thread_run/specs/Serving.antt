-- What the private functions answer of a run over open inputs.
use Rattle.std.specs.Prelude.{◌≡◌, ◌≤◌, ◌<◌, ℕ, List, Contains, IsTrue, Result, Err}
use Rattle.io_edge.specs.declared.edge.OpenFault.{OpenFault}
use Rattle.io_edge.specs.declared.edge.OpenFault.TheVariants as fault
use Rattle.io_edge.specs.Given.{GivesMore}
use Rattle.io_edge.specs.View.{View, Files, raised_by}
use Rattle.cluster_msgs.specs.Labels.{LabelFacts}
use Rattle.node_runner.specs.Runs.{HasFailed, IsAtFault}
use Rattle.node_runner.specs.declared.ends.RunStatus.{RunStatus}
use Rattle.node_runner.specs.declared.ends.RunStatus.TheVariants as status
use Rattle.job_run.specs.declared.ends.Ended.{Ended}
use Rattle.job_run.specs.declared.ends.Ended.TheVariants.{Zero, Killed, ReadFault, WriteFault, OutOfMemory}
use Rattle.job_run.specs.Evaluating.{EvaluationCreates}
use Rattle.job_run.specs.Part.{AreLeft, AreWhole, IsNoneOf, RaisedAtMost}
use Rattle.job_run.specs.Plan.{Plan, names_saved}
use Rattle.job_run.specs.Values.{Named, IsFaulty, MeetsNone, files_of}
use Rattle.job_run.specs.Wanted.{EndsAtKey}
use Rattle.thread_run.specs.Counts.{repeated}
use Rattle.thread_run.specs.Ends.{IsNeededBlock}
use Rattle.thread_run.specs.Losses.{Losses, IsKill, IsNeededKey}

-- why the cluster didn't give all blocks: a key of this label is to blame for a wanted one, since it is at fault or was killed, or feeds failed
abbrev pub IsWhy : {B : Type 0} → LabelFacts B → Losses → List ℕ → Type 0 → RunStatus → Type 0
IsWhy facts most wanted reads (status.Zero key) = IsAtFault facts wanted key
IsWhy facts most wanted reads (status.Killed key losses) = HasFailed facts wanted key × IsKill most reads losses
IsWhy facts most wanted reads status.Read = reads
IsWhy facts most wanted reads status.Events = Unit {0}
IsWhy facts most wanted reads status.Memory = Unit {0}

-- how a run is stopped, by what the cluster tells and by whether all was written: a zero divisor, a killed key or a failed feed comes before what
-- couldn't be written
abbrev pub StopsAt : {A B : Type 0} → Plan → Result A RunStatus → Result B OpenFault → Ended → Type 0
StopsAt p given written (Zero node block) = (key : ℕ) × (given ≡ Err (status.Zero key)) × EndsAtKey p key (Zero node block)
StopsAt p given written (Killed key losses) = given ≡ Err (status.Killed key losses)
StopsAt p given written ReadFault = given ≡ Err status.Read
StopsAt p given written WriteFault = written ≡ Err fault.Failed
StopsAt p given written OutOfMemory = Unit {0}
StopsAt p given written end = ⊥

-- how a run ends of which a file couldn't be created or written
abbrev pub IsUnsaved : OpenFault → Ended → Type 0
IsUnsaved fault.Failed end = end ≡ WriteFault
IsUnsaved fault.OutOfMemory end = end ≡ OutOfMemory

-- one of these lists of feeds is shorter than this
abbrev pub HasShort : List ℕ → ℕ → Type 0
HasShort lengths least = (n : ℕ) × Contains lengths n × (n < least)

-- why not all is saved; the two facts are the causes of faults
abbrev pub Stops : Plan → Losses → Named → Type 0 → Type 0 → Type 0 → Ended → Type 0
Stops p most named told reads writes (Zero node block) = IsNeededBlock p node block × (told → IsFaulty p named node block)
Stops p most named told reads writes (Killed key losses) = (told → IsNeededKey p key) × IsKill most reads losses
Stops p most named told reads writes ReadFault = reads
Stops p most named told reads writes WriteFault = writes
Stops p most named told reads writes OutOfMemory = Unit {0}
Stops p most named told reads writes end = ⊥

-- nothing but at most so many openings of the inputs, reads, creations and writes of the saved files
pub record ServesFiles (p : Plan) (most : ℕ) (old new : View) : Type 0 where
  pub others : (n : List ℕ) → IsNoneOf n (names_saved p) → new.files.held n ≡ old.files.held n
  pub tells : new.files.tells ≡ old.files.tells
  pub opened : RaisedAtMost (repeated most p.inputs) old.files.opened new.files.opened
  pub created : RaisedAtMost (names_saved p) old.files.created new.files.created
  pub gave : GivesMore old.gave new.gave
  pub out : new.out ≡ old.out
  pub err : new.err ≡ old.err
  pub note_faults : new.note_faults ≡ old.note_faults
  pub print_faults : new.print_faults ≡ old.print_faults
  pub read_later : old.read_faults ≤ new.read_faults
  pub write_later : old.write_faults ≤ new.write_faults

-- all that is wanted was saved
pub record ServesAll (p : Plan) (named : Named) (told : Type 0) (old new : Files) : Type 0 where
  pub values : told → MeetsNone p named
  pub whole : told → IsTrue old.tells → AreWhole (names_saved p) (files_of p named) new
  pub left : told → AreLeft (names_saved p) (files_of p named) old new
  pub created : new.created ≡ raised_by (names_saved p) old.created

-- it wasn't; the two facts are the causes of faults
pub record ServesPart (p : Plan) (most : Losses) (named : Named) (told reads writes : Type 0) (old new : Files) (end : Ended) : Type 0 where
  pub cause : Stops p most named told reads writes end
  pub left : told → AreLeft (names_saved p) (files_of p named) old new
  pub created : EvaluationCreates (names_saved p) old.created new.created end
