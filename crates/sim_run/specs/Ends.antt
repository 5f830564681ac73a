-- How the simulated run of a job ends, why it ends so, and what it leaves.
use Rattle.std.specs.Prelude.{◌≡◌, ◌⊎◌, ℕ, List, IfSome}
use Rattle.io_edge.specs.Cause.{Rose}
use Rattle.io_edge.specs.Content.{followed_by}
use Rattle.io_edge.specs.Given.{GivesMore}
use Rattle.io_edge.specs.View.{View, Files, raised_by}
use Rattle.cluster_msgs.specs.declared.events.Report.{Report}
use Rattle.cluster_sim.specs.Faults.{IsKill}
use Rattle.job_run.specs.declared.ends.Ended.{Ended}
use Rattle.job_run.specs.declared.ends.Ended.TheVariants.{Done, Zero, Killed, WriteFault}
use Rattle.job_run.specs.Inputs.{InputsFit, told_all}
use Rattle.job_run.specs.Part.{IsNoneOf}
use Rattle.job_run.specs.Plan.{Plan, names_saved}
use Rattle.job_run.specs.Runs.{AreRight, AreSaved, HasFault, HasValues, IsSmall, Cause as RunCause, Saves as RunSaves, Opened as RunOpened, Created as RunCreated, PrintsFront, Looked}
use Rattle.command_words.specs.declared.sim.SimWords.{SimWords}
use Rattle.sim_run.specs.declared.ends.SimEnded.{SimEnded}
use Rattle.sim_run.specs.declared.ends.SimEnded.TheVariants.{Events, Ran}
use Rattle.sim_run.specs.Jobs.{IsTextJob}
use Rattle.sim_run.specs.Simulated.{IsServed, IsKilled, IsOutOfEvents, SimulatesTo}
use Rattle.sim_run.specs.Texts.{lines_of}

-- a fact of a simulation whose inputs are told
abbrev pub WhereTold : Plan → Files → Type 0 → Type 0
WhereTold p files P = IfSome (told_all files.held p.inputs) (λ contents. P)

-- Why a run ends so, where it ends as other runs do. A zero divisor is met by some needed block: not always the first. A killed key lost its worker
-- once more than is allowed, which the script takes workers away for, and where the inputs are told, the drawn events killed it.
abbrev pub RanCause : Plan → SimWords → View → View → Ended → Type 0
RanCause p s old new Done = IsSmall p × HasValues p old.files
RanCause p s old new (Zero node block) = IsSmall p × HasFault p old.files node block
RanCause p s old new (Killed key losses) = IsSmall p × InputsFit p old.files × IsKill s.settings.allowed s.script losses
    × WhereTold p old.files (SimulatesTo (IsTextJob p old.files s) s (λ job wanted s. IsKilled job wanted s key))
RanCause p s old new WriteFault = IsSmall p × HasValues p old.files × (Rose old.write_faults new.write_faults ⊎ Rose old.print_faults new.print_faults)
RanCause p s old new end = RunCause p old new end

-- Why a simulation ends so. Where the events come to their end, the inputs are as declared, and where they are told, the drawn events do so.
abbrev pub Cause : Plan → SimWords → View → View → SimEnded → Type 0
Cause p s old new Events = IsSmall p × InputsFit p old.files × WhereTold p old.files (SimulatesTo (IsTextJob p old.files s) s IsOutOfEvents)
Cause p s old new (Ran end) = RanCause p s old new end

-- The saved files: as a run of the same job in the calling thread leaves them, and as they were where the client didn't get all.
abbrev pub RanSaves : Plan → Files → Files → Ended → Type 0
RanSaves p old new (Zero node block) = new.held ≡ old.held
RanSaves p old new (Killed key losses) = new.held ≡ old.held
RanSaves p old new end = RunSaves p old new end

abbrev pub Saves : Plan → Files → Files → SimEnded → Type 0
Saves p old new (Ran end) = RanSaves p old new end
Saves p old new end = new.held ≡ old.held

-- how often each name was opened: none before the limits are known to be kept
abbrev pub Opened : List (List ℕ) → (List ℕ → ℕ) → (List ℕ → ℕ) → SimEnded → Type 0
Opened names old new Events = new ≡ raised_by names old
Opened names old new (Ran end) = RunOpened names old new end

-- the same of creations: none before the client got all
abbrev pub RanCreated : List (List ℕ) → (List ℕ → ℕ) → (List ℕ → ℕ) → Ended → Type 0
RanCreated names old new (Zero node block) = new ≡ old
RanCreated names old new (Killed key losses) = new ≡ old
RanCreated names old new end = RunCreated names old new end

abbrev pub Created : List (List ℕ) → (List ℕ → ℕ) → (List ℕ → ℕ) → SimEnded → Type 0
Created names old new (Ran end) = RanCreated names old new end
Created names old new end = new ≡ old

-- in a simulation of the text's job the client got all, with this report and after so many turns; where the inputs are told, the drawn events are so
abbrev pub ServesPlan : Plan → SimWords → Files → Report → ℕ → Type 0
ServesPlan p s files report turns = WhereTold p files (SimulatesTo (IsTextJob p files s) s (λ job wanted s. IsServed job wanted s report turns))

-- what a simulated run of a job has done once the client got all and all files are whole, before a line is printed
pub record SavesPlan (p : Plan) (s : SimWords) (old new : View) (report : Report) (turns : ℕ) : Type 0 where
  pub small : IsSmall p
  pub values : HasValues p old.files
  pub served : ServesPlan p s old.files report turns
  pub saved : AreSaved p old.files new.files
  pub right : AreRight p old.files new.files
  pub looked : Looked p p.inputs old.files new.files
  pub others : (n : List ℕ) → IsNoneOf n (names_saved p) → new.files.held n ≡ old.files.held n
  pub tells : new.files.tells ≡ old.files.tells
  pub opened : new.files.opened ≡ raised_by p.inputs old.files.opened
  pub created : new.files.created ≡ raised_by (names_saved p) old.files.created
  pub gave : GivesMore old.gave new.gave
  pub out : new.out ≡ old.out
  pub err : new.err ≡ old.err
  pub note_faults : new.note_faults ≡ old.note_faults
  pub print_faults : new.print_faults ≡ old.print_faults

-- the lines of a simulation of the text's job in which the client got all
pub record PrintsServed (p : Plan) (s : SimWords) (files : Files) (Printed : List ℕ → Type 0) : Type 0 where
  pub report : Report
  pub turns : ℕ
  pub served : ServesPlan p s files report turns
  pub printed : Printed (lines_of p report turns)

abbrev pub RanPrints : Plan → SimWords → View → View → Ended → Type 0
RanPrints p s old new Done = PrintsServed p s old.files (λ lines. new.out ≡ followed_by old.out lines)
RanPrints p s old new WriteFault = PrintsServed p s old.files (PrintsFront p old new)
RanPrints p s old new end = new.out ≡ old.out

-- the lines on standard output
abbrev pub Prints : Plan → SimWords → View → View → SimEnded → Type 0
Prints p s old new (Ran end) = RanPrints p s old new end
Prints p s old new end = new.out ≡ old.out

-- what a simulated run of a job does
pub record SimulatesPlan (p : Plan) (s : SimWords) (old new : View) (end : SimEnded) : Type 0 where
  pub cause : Cause p s old new end
  pub saves : Saves p old.files new.files end
  pub looked : Looked p p.inputs old.files new.files
  pub others : (n : List ℕ) → IsNoneOf n (names_saved p) → new.files.held n ≡ old.files.held n
  pub tells : new.files.tells ≡ old.files.tells
  pub opened : Opened p.inputs old.files.opened new.files.opened end
  pub created : Created (names_saved p) old.files.created new.files.created end
  pub prints : Prints p s old new end
  pub gave : GivesMore old.gave new.gave
  pub err : new.err ≡ old.err
  pub note_faults : new.note_faults ≡ old.note_faults
