-- How a run of a job by threads ends, why it ends so, and what it leaves.
use Rattle.std.specs.Prelude.{◌≡◌, ◌⊎◌, ◌++◌, ℕ, List, [], codes, decimal, Bool, Option, None, Some, is_some, IsTrue}
use Rattle.io_edge.specs.Cause.{Rose}
use Rattle.io_edge.specs.Content.{followed_by}
use Rattle.io_edge.specs.Given.{GivesMore}
use Rattle.io_edge.specs.View.{View, Files}
use Rattle.plain_eval.specs.Eval.{held_in}
use Rattle.cluster_msgs.specs.declared.events.Report.{Report}
use Rattle.run_report.specs.Text.{report_text}
use Rattle.command_words.specs.declared.run.RunWords.{RunWords}
use Rattle.job_run.specs.declared.ends.Ended.{Ended}
use Rattle.job_run.specs.declared.ends.Ended.TheVariants.{Done, Limit, File, Zero, Killed, ReadFault, WriteFault, OutOfMemory}
use Rattle.job_run.specs.Inputs.{InputsFit}
use Rattle.job_run.specs.Part.{IsNoneOf, RaisedAtMost}
use Rattle.job_run.specs.Plan.{Plan, names_saved}
use Rattle.job_run.specs.Runs.{AreRight, AreUntouched, IsFitGiven, IsSmall, Cause as RunCause, Saves as RunSaves, Created as RunCreated, StopsPrinting}
use Rattle.job_run.specs.Values.{Named, OnInputs, IsFaulty, IsNeeded, MeetsNone, index_of, saved_lines, tasks_of}
use Rattle.thread_run.specs.Counts.{RaisedBetween, feeds, repeated}
use Rattle.task_graph.specs.Graphs.{shape_of}
use Rattle.thread_run.specs.Feeding.{is_told}
use Rattle.thread_run.specs.Losses.{IsKill, IsNeededKey, losses_by}
use Rattle.thread_run.specs.Reports.{IsOutgrownBy, IsToldRun, label}
use Rattle.thread_run.specs.declared.ends.ThreadEnded.{ThreadEnded}
use Rattle.thread_run.specs.declared.ends.ThreadEnded.TheVariants.{Events, Ran}
use Rattle.thread_run.specs.declared.verdict.Told.{Told}
use Rattle.thread_run.specs.declared.verdict.Verdict.{Verdict}
use Rattle.thread_run.specs.declared.verdict.Verdict.TheVariants.{Agrees, Differs, NotComplete}

-- A worker's blocks lie on disks of the site, too. So what a run says of values it says where the site tells what it holds.

-- the inputs are as declared, and there no needed block meets a zero divisor
pub record HasValues (p : Plan) (files : Files) : Type 0 where
  pub inputs : InputsFit p files
  pub values : IsTrue files.tells → OnInputs p files (λ blocks. MeetsNone p (held_in blocks))

-- the block of a node at this index is needed
pub record IsNeededBlock (p : Plan) (node : ℕ) (block : List ℕ) : Type 0 where
  pub key : ℕ
  pub number : ℕ
  pub needed : IsNeeded p key node number
  pub is_block : block ≡ index_of p node number

-- the inputs are as declared, and this is a needed block, at which a divisor is zero there
pub record HasFault (p : Plan) (files : Files) (node : ℕ) (block : List ℕ) : Type 0 where
  pub inputs : InputsFit p files
  pub needed : IsNeededBlock p node block
  pub zero_at : IsTrue files.tells → OnInputs p files (λ blocks. IsFaulty p (held_in blocks) node block)

-- a file wasn't created or written, or all values are there and a line wasn't printed
abbrev pub WritesFail : Plan → View → View → Type 0
WritesFail p old new = Rose old.write_faults new.write_faults ⊎ (HasValues p old.files × Rose old.print_faults new.print_faults)

-- the inputs are as declared, and this key was killed: it lost its worker once more than the words allow, and the script takes workers away as often, or
-- a read failed. Where the site tells the inputs, it is needed
pub record HasKilled (p : Plan) (w : RunWords) (old new : View) (key losses : ℕ) : Type 0 where
  pub inputs : InputsFit p old.files
  pub needed : IsTrue (is_told old.files p.inputs) → IsNeededKey p key
  pub kill : IsKill (losses_by w) (Rose old.read_faults new.read_faults) losses

-- Why a run ends so. A zero divisor is met by some needed block: not always the first.
abbrev pub Cause : Plan → RunWords → View → View → Ended → Type 0
Cause p w old new Done = IsSmall p × HasValues p old.files × IsFitGiven p old new
Cause p w old new (Zero node block) = IsSmall p × HasFault p old.files node block × IsFitGiven p old new
Cause p w old new (Killed key losses) = IsSmall p × HasKilled p w old new key losses × IsFitGiven p old new
Cause p w old new WriteFault = IsSmall p × InputsFit p old.files × WritesFail p old new
Cause p w old new end = RunCause p old new end

-- The saved files: as a run of the same job in the calling thread leaves them, where the site tells.
abbrev pub Saves : Plan → Files → Files → Ended → Type 0
Saves p old new (Zero node block) = IsTrue old.tells → AreRight p old new
Saves p old new (Killed key losses) = IsTrue old.tells → AreRight p old new
Saves p old new ReadFault = IsTrue old.tells → AreRight p old new
Saves p old new WriteFault = IsTrue old.tells → AreRight p old new
Saves p old new OutOfMemory = IsTrue old.tells → AreRight p old new
Saves p old new end = RunSaves p old new end

-- the names that are opened to read the heads of the inputs, and all that may be opened: these, and once more each for each feed
abbrev pub openings : Plan → RunWords → List (List ℕ)
openings p w = p.inputs ++ repeated (feeds w) p.inputs

-- How often each name was opened: at most so often as its name stands in `all`, and where the inputs were accepted at least so often as in `names`.
-- None before the limits are known to be kept, and none for a feed where an input is refused.
abbrev pub Opened : List (List ℕ) → List (List ℕ) → (List ℕ → ℕ) → (List ℕ → ℕ) → Ended → Type 0
Opened names all old new Done = RaisedBetween names all old new
Opened names all old new (Limit quantity) = new ≡ old
Opened names all old new (File place error) = RaisedAtMost names old new
Opened names all old new (Zero node block) = RaisedBetween names all old new
Opened names all old new (Killed key losses) = RaisedBetween names all old new
Opened names all old new WriteFault = RaisedBetween names all old new
Opened names all old new end = RaisedAtMost all old new

-- what is printed of a report
abbrev pub told_text : Option Report → List ℕ
told_text None = []
told_text (Some r) = report_text r

-- the line of what the audit says
abbrev pub audit_line : Verdict → List ℕ
audit_line Agrees = codes "audit: agrees\n"
audit_line (Differs stamp) = codes "audit: differs at " ++ decimal stamp ++ codes "\n"
audit_line NotComplete = codes "audit: not complete\n"

-- the lines on standard output: of each saved file, of the report where there is one, by whom the run was finished, and of its audit
abbrev pub lines_of : Plan → Told → List ℕ
lines_of p told = saved_lines p.nodes p.saves ++ told_text told.report ++ codes "finished by: cluster\n" ++ audit_line told.verdict

-- the lines of a run in which all files were written: with its report where the words ask for it, and its audit
pub record PrintsRun (p : Plan) (w : RunWords) (files : Files) (Printed : List ℕ → Type 0) : Type 0 where
  pub told : Told
  pub asked : is_some told.report ≡ w.report
  pub of_run : IsToldRun p w files told
  pub printed : Printed (lines_of p told)

abbrev pub Prints : Plan → RunWords → View → View → Ended → Type 0
Prints p w old new Done = PrintsRun p w old.files (λ lines. new.out ≡ followed_by old.out lines)
Prints p w old new WriteFault = (new.out ≡ old.out) ⊎ (HasValues p old.files × PrintsRun p w old.files (StopsPrinting p old new))
Prints p w old new end = new.out ≡ old.out

-- each name was opened between so often and so often, the inputs are as declared, and no limit is passed
pub record IsAccepted (p : Plan) (names all : List (List ℕ)) (old new : Files) : Type 0 where
  pub opened : RaisedBetween names all old.opened new.opened
  pub inputs : InputsFit p old
  pub small : IsSmall p

-- whatever the end: where a file was touched, all of these names were opened, and the inputs are accepted
abbrev pub Looked : Plan → List (List ℕ) → List (List ℕ) → Files → Files → Type 0
Looked p names all old new = AreUntouched old new ⊎ IsAccepted p names all old new

-- what a run of a job by threads does, by the end as which it leaves the rest
pub record LeavesAs (p : Plan) (w : RunWords) (old new : View) (end : Ended) : Type 0 where
  pub cause : Cause p w old new end
  pub saves : Saves p old.files new.files end
  pub looked : Looked p p.inputs (openings p w) old.files new.files
  pub others : (n : List ℕ) → IsNoneOf n (names_saved p) → new.files.held n ≡ old.files.held n
  pub tells : new.files.tells ≡ old.files.tells
  pub opened : Opened p.inputs (openings p w) old.files.opened new.files.opened end
  pub created : RunCreated (names_saved p) old.files.created new.files.created end
  pub prints : Prints p w old new end
  pub gave : GivesMore old.gave new.gave
  pub err : new.err ≡ old.err
  pub note_faults : new.note_faults ≡ old.note_faults

-- an end for the events of a core leaves what one for want of memory leaves
abbrev pub left_as : ThreadEnded → Ended
left_as Events = OutOfMemory
left_as (Ran end) = end

-- The graph passes no limit, the inputs are as declared, and in a run of this graph by these words, over files that hold what the site tells, the history of
-- a node has passed its limit. So it does long before the node's core has taken 2^40 events.
pub record IsOutgrownRun (p : Plan) (w : RunWords) (files : Files) : Type 0 where
  pub small : IsSmall p
  pub inputs : InputsFit p files
  pub named : Named
  pub told : Bool
  pub told_is : told ≡ is_told files p.inputs
  pub held : OnInputs p files (λ blocks. held_in blocks ≡ named)
  pub run : IsOutgrownBy (label told w.settings.allowed named (tasks_of p)) (shape_of (tasks_of p)) w

-- what a run of a job by threads does
pub record RunsByThreads (p : Plan) (w : RunWords) (old new : View) (end : ThreadEnded) : Type 0 where
  pub leaves : LeavesAs p w old new (left_as end)
  pub events : end ≡ Events → IsOutgrownRun p w old.files
