-- How a run of a job ends, why it ends so, and what it leaves.
use Rattle.std.specs.Prelude.{◌≡◌, ◌⊎◌, ℕ, List, ◌++◌, codes, map, IsTrue, None, Some}
use Rattle.io_edge.specs.Cause.{Rose}
use Rattle.io_edge.specs.Content.{followed_by, PrintsPart}
use Rattle.io_edge.specs.Given.{Gives, GivesMore}
use Rattle.io_edge.specs.View.{View, Files, raised_by}
use Rattle.plain_eval.specs.Eval.{held_in}
use Rattle.lowering_laws.specs.Lowered.{limit_of}
use Rattle.job_run.specs.declared.ends.Ended.{Ended}
use Rattle.job_run.specs.declared.ends.Ended.TheVariants.{Done, Limit, File, Zero, Killed, ReadFault, WriteFault, OutOfMemory}
use Rattle.job_run.specs.declared.ends.FileError.{FileError}
use Rattle.job_run.specs.Inputs.{FirstRefusal, FitInputs, InputsFit, InputRefused}
use Rattle.job_run.specs.Part.{AreWhole, AreLeft, IsNoneOf, RaisedAtMost}
use Rattle.job_run.specs.Plan.{Plan, names_saved}
use Rattle.job_run.specs.Values.{OfGiven, OnInputs, IsFaulty, MeetsZero, MeetsNone, files_of, saved_lines}

-- the graph of the job's blocks passes no limit
abbrev pub IsSmall : Plan → Type 0
IsSmall p = limit_of p.nodes ≡ None

-- the inputs are as declared, and no needed block meets a zero divisor
pub record HasValues (p : Plan) (files : Files) : Type 0 where
  pub inputs : InputsFit p files
  pub values : OnInputs p files (λ blocks. MeetsNone p (held_in blocks))

-- the inputs are as declared, and this is the first needed block at which a divisor is zero
pub record HasZero (p : Plan) (files : Files) (node : ℕ) (block : List ℕ) : Type 0 where
  pub inputs : InputsFit p files
  pub zero_at : OnInputs p files (λ blocks. MeetsZero p (held_in blocks) node block)

-- the inputs are as declared, and this is a needed block at which a divisor is zero
pub record HasFault (p : Plan) (files : Files) (node : ℕ) (block : List ℕ) : Type 0 where
  pub inputs : InputsFit p files
  pub zero_at : OnInputs p files (λ blocks. IsFaulty p (held_in blocks) node block)

-- a file wasn't created or written, or all values are there and a line wasn't printed
abbrev pub WritesFail : Plan → View → View → Type 0
WritesFail p old new = Rose old.write_faults new.write_faults ⊎ (HasValues p old.files × Rose old.print_faults new.print_faults)

-- Told or not: of whatever the files hold that gave what was read, the one at this place is the first that is not as declared, for this reason.
abbrev pub IsRefusedGiven : Plan → View → View → ℕ → FileError → Type 0
IsRefusedGiven p old new place error = Gives old.gave new.gave (λ holds. FirstRefusal p (map holds p.inputs) place error)

-- Told or not: whatever the files hold that gave what was read, the inputs are as declared.
abbrev pub IsFitGiven : Plan → View → View → Type 0
IsFitGiven p old new = Gives old.gave new.gave (λ holds. FitInputs p (map holds p.inputs))

-- why a run ends so. No key is killed where there are no workers
abbrev pub Cause : Plan → View → View → Ended → Type 0
Cause p old new Done = IsSmall p × HasValues p old.files × OfGiven p old new (MeetsNone p)
Cause p old new (Limit quantity) = limit_of p.nodes ≡ Some quantity
Cause p old new (File place error) = IsSmall p × InputRefused p old.files place error × IsRefusedGiven p old new place error
Cause p old new (Zero node block) = IsSmall p × HasZero p old.files node block × OfGiven p old new (λ named. MeetsZero p named node block)
Cause p old new (Killed key losses) = ⊥
Cause p old new ReadFault = IsSmall p × Rose old.read_faults new.read_faults
Cause p old new WriteFault = IsSmall p × InputsFit p old.files × WritesFail p old new
Cause p old new OutOfMemory = Unit {0}

-- why the inputs weren't opened, or one of them is refused
abbrev pub ReadCause : Plan → View → View → Ended → Type 0
ReadCause p old new (File place error) = InputRefused p old.files place error × IsRefusedGiven p old new place error
ReadCause p old new ReadFault = Rose old.read_faults new.read_faults
ReadCause p old new OutOfMemory = Unit {0}
ReadCause p old new end = ⊥

-- all saved files are whole, where a site tells
abbrev pub AreSaved : Plan → Files → Files → Type 0
AreSaved p old new = OnInputs p old (λ blocks. IsTrue old.tells → AreWhole (names_saved p) (files_of p (held_in blocks)) new)

-- in each saved file each byte is the right one or 0, or the file is as it was
abbrev pub AreRight : Plan → Files → Files → Type 0
AreRight p old new = OnInputs p old (λ blocks. AreLeft (names_saved p) (files_of p (held_in blocks)) old new)

-- The saved files: whole after Done; as they were where a limit is passed or an input is refused; else right as far as they were written.
abbrev pub Saves : Plan → Files → Files → Ended → Type 0
Saves p old new Done = AreSaved p old new
Saves p old new (Limit quantity) = new.held ≡ old.held
Saves p old new (File place error) = new.held ≡ old.held
Saves p old new end = AreRight p old new

-- each name was opened just so often, or at most so often; none before the limits are known to be kept
abbrev pub Opened : List (List ℕ) → (List ℕ → ℕ) → (List ℕ → ℕ) → Ended → Type 0
Opened names old new Done = new ≡ raised_by names old
Opened names old new (Limit quantity) = new ≡ old
Opened names old new (Zero node block) = new ≡ raised_by names old
Opened names old new (Killed key losses) = new ≡ raised_by names old
Opened names old new end = RaisedAtMost names old new

-- the same of creations, of which there are none before the inputs are accepted
abbrev pub Created : List (List ℕ) → (List ℕ → ℕ) → (List ℕ → ℕ) → Ended → Type 0
Created names old new Done = new ≡ raised_by names old
Created names old new (Limit quantity) = new ≡ old
Created names old new (File place error) = new ≡ old
Created names old new (Zero node block) = new ≡ raised_by names old
Created names old new (Killed key losses) = new ≡ raised_by names old
Created names old new end = RaisedAtMost names old new

-- the lines on standard output
abbrev pub lines_of : Plan → List ℕ
lines_of p = saved_lines p.nodes p.saves ++ codes "finished by: plain\n"

-- all files were created and are whole, and a front of these lines was printed before a print failed
pub record StopsPrinting (p : Plan) (old new : View) (lines : List ℕ) : Type 0 where
  pub saved : AreSaved p old.files new.files
  pub created : new.files.created ≡ raised_by (names_saved p) old.files.created
  pub fault : Rose old.print_faults new.print_faults
  pub front : PrintsPart old.out new.out lines

-- what is printed of these lines where a creation, a write or a print failed: nothing unless all values are there and all files are whole
abbrev pub PrintsFront : Plan → View → View → List ℕ → Type 0
PrintsFront p old new lines = (new.out ≡ old.out) ⊎ (HasValues p old.files × StopsPrinting p old new lines)

abbrev pub Prints : Plan → View → View → Ended → Type 0
Prints p old new Done = new.out ≡ followed_by old.out (lines_of p)
Prints p old new WriteFault = PrintsFront p old new (lines_of p)
Prints p old new end = new.out ≡ old.out

-- no file was created, and each of them holds what it held
pub record AreUntouched (old new : Files) : Type 0 where
  pub held : new.held ≡ old.held
  pub created : new.created ≡ old.created

-- each of these names was opened just so often, the inputs are as declared, and no limit is passed
pub record IsAccepted (p : Plan) (names : List (List ℕ)) (old new : Files) : Type 0 where
  pub opened : new.opened ≡ raised_by names old.opened
  pub inputs : InputsFit p old
  pub small : IsSmall p

-- Whatever the end of a work: where a file was touched, all of these names were opened, once each, and the inputs are accepted.
abbrev pub Looked : Plan → List (List ℕ) → Files → Files → Type 0
Looked p names old new = AreUntouched old new ⊎ IsAccepted p names old new

-- what a run of a job does
pub record RunsPlan (p : Plan) (old new : View) (end : Ended) : Type 0 where
  pub cause : Cause p old new end
  pub saves : Saves p old.files new.files end
  pub looked : Looked p p.inputs old.files new.files
  pub others : (n : List ℕ) → IsNoneOf n (names_saved p) → new.files.held n ≡ old.files.held n
  pub tells : new.files.tells ≡ old.files.tells
  pub opened : Opened p.inputs old.files.opened new.files.opened end
  pub created : Created (names_saved p) old.files.created new.files.created end
  pub prints : Prints p old new end
  pub gave : GivesMore old.gave new.gave
  pub err : new.err ≡ old.err
  pub note_faults : new.note_faults ≡ old.note_faults
