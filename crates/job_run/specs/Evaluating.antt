-- Files of a plan while its blocks are made, key by key: what the private functions answer.
use Rattle.std.specs.Prelude.{◌≡◌, ◌≤◌, ◌<◌, ℕ, List, [], ◌∷◌, cond, nat_eq, length, take, slice_index_or, Option, Some, None, Bool, IsTrue, IsSome}
use Rattle.io_edge.specs.Cause.{Rose}
use Rattle.io_edge.specs.Content.{OnTold, told_bytes}
use Rattle.io_edge.specs.Given.{Agree, GivesMore, Piece}
use Rattle.npy_codec.specs.declared.head.Head.{Head}
use Rattle.block_lowering.specs.Jobs.{HaveNamed}
use Rattle.io_edge.specs.View.{View, Files, raised_by}
use Rattle.nd_shape.specs.Block.{Array}
use Rattle.nd_shape.specs.Region.{Box}
use Rattle.array_expr.specs.Node.{shape_at, IsExpression}
use Rattle.chunk_layout.specs.Layouts.{region}
use Rattle.task_graph.specs.Graphs.{value}
use Rattle.lowering_laws.specs.Lowered.{lowered}
use Rattle.lowering_laws.specs.Named.{layout_of, box_of, LawOfNames, LawOfNamed}
use Rattle.lowering_laws.specs.Named.{IsName as NamesBlock}
use Rattle.lowering_laws.specs.Faults.{LawOfFaults}
use Rattle.lowering_laws.specs.Whole.{LawOfOrder}
use Rattle.saved_files.specs.Filling.{IsFilling, IsPart, HoldsBox, file_of as bytes_of}
use Rattle.saved_files.specs.Saving.{Saving, saving_at, IsFresh, IsOf, IsLeft}
use Rattle.job_run.specs.declared.ends.Ended.{Ended}
use Rattle.job_run.specs.declared.ends.Ended.TheVariants.{Done, Zero, Killed, ReadFault, WriteFault, OutOfMemory}
use Rattle.job_run.specs.declared.blocks.Halt.{Halt}
use Rattle.job_run.specs.declared.blocks.Halt.TheVariants as halts
use Rattle.job_run.specs.Part.{AreWhole, AreLeft, IsNoneOf, RaisedAtMost}
use Rattle.job_run.specs.Plan.{Plan, names_saved, nodes_saved, name_at}
use Rattle.job_run.specs.Values.{Named, OfGiven, MeetsZero, MeetsNone, arrays_saved, files_of, index_of, tasks_of}

abbrev pub node_at : Plan → ℕ → ℕ
node_at p k = slice_index_or (nodes_saved p) k 0

abbrev pub array_at : Plan → Named → ℕ → Array
array_at p named k = slice_index_or (arrays_saved p named) k (record { shape = []; cells = [] })

-- ## The open files of a plan

pub record AreOpenFor (p : Plan) (files : List Saving) : Type 0 where
  pub count : length files ≡ length p.saves
  pub names : (k : ℕ) → k < length p.saves → (saving_at files k).name ≡ name_at (names_saved p) k
  pub dims : (k : ℕ) → k < length p.saves → (saving_at files k).dims ≡ shape_at p.nodes (node_at p k)

-- each was just created, with its header alone
abbrev pub AreFresh : Plan → Bool → List Saving → Type 0
AreFresh p tells files = (k : ℕ) → k < length p.saves → IsFresh tells (name_at (names_saved p) k) (shape_at p.nodes (node_at p k)) (saving_at files k)

-- each, where it tells its bytes, has its header and these boxes of its node's array
abbrev pub FilesHold : Plan → Named → (ℕ → List Box) → List Saving → Type 0
FilesHold p named boxes files = (k : ℕ) → k < length p.saves → OnTold (saving_at files k).content (IsFilling (array_at p named k) (boxes k))

abbrev pub FilesRight : Plan → Named → List Saving → Type 0
FilesRight p named files = (k : ℕ) → k < length p.saves → OnTold (saving_at files k).content (λ bytes. IsPart bytes (bytes_of (array_at p named k)))

abbrev pub FilesWhole : Plan → Named → List Saving → Type 0
FilesWhole p named files = (k : ℕ) → k < length p.saves → OnTold (saving_at files k).content (λ bytes. bytes ≡ bytes_of (array_at p named k))

-- the files have the names and the lengths that they had, and tell their bytes where they did
pub record AreSameFiles (old new : List Saving) : Type 0 where
  pub count : length new ≡ length old
  pub names : (k : ℕ) → k < length old → (saving_at new k).name ≡ (saving_at old k).name
  pub dims : (k : ℕ) → k < length old → (saving_at new k).dims ≡ (saving_at old k).dims
  pub told : (k : ℕ) → k < length old → IsSome (told_bytes (saving_at old k).content) → IsSome (told_bytes (saving_at new k).content)

-- one of the files has failed
pub record HasFailed (files : List Saving) : Type 0 where
  pub place : ℕ
  pub there : place < length files
  pub failed : 0 < (saving_at files place).faults

-- none of the files has failed
abbrev pub HasNotFailed : List Saving → Type 0
HasNotFailed files = (k : ℕ) → k < length files → (saving_at files k).faults ≡ 0

-- whatever arrays of the saved nodes' lengths were to be saved, each file is as it was, or right as far as it was written
abbrev pub LeavesAll : Plan → Files → Files → Type 0
LeavesAll p old new = (k : ℕ) (a : Array) → k < length p.saves → IsOf (shape_at p.nodes (node_at p k)) a → IsLeft (name_at (names_saved p) k) (bytes_of a) old new

-- ## The boxes of the keys that were run

-- those of the blocks of node n under these names
abbrev pub boxes_in : List (List ℕ) → ℕ → List (Option (ℕ × ℕ)) → List Box
boxes_in layout n [] = []
boxes_in layout n (None ∷ names) = boxes_in layout n names
boxes_in layout n (Some x ∷ names) = cond (nat_eq x.0 n) (region layout x.1 ∷ boxes_in layout n names) (boxes_in layout n names)

-- those of the node of save k, of the first keys
abbrev pub boxes_made : Plan → ℕ → ℕ → List Box
boxes_made p keys k = boxes_in (layout_of p.nodes (node_at p k)) (node_at p k) (take keys (lowered p.nodes (nodes_saved p)).names)

-- ## The next key

-- the name is one of the plan's graph, and the block has its lengths
abbrev pub IsBlockNamed : Plan → Option (ℕ × ℕ) → Array → Type 0
IsBlockNamed p None block = Unit {0}
IsBlockNamed p (Some x) block = (key : ℕ) × NamesBlock p.nodes (nodes_saved p) key x.0 x.1 × (block.shape ≡ (box_of p.nodes x.0 x.1).lengths)

-- what the laws of lowering say of a plan, where the inputs hold these elements
pub record HasLaws (p : Plan) (named : Named) : Type 0 where
  pub expression : IsExpression p.nodes
  pub order : LawOfOrder p.nodes (nodes_saved p)
  pub names : LawOfNames p.nodes (nodes_saved p)
  pub named_is : LawOfNamed named p.nodes (nodes_saved p)
  pub faults : LawOfFaults named p.nodes (nodes_saved p)

-- all keys before this one have values
abbrev pub HaveAll : Plan → Named → ℕ → Type 0
HaveAll p named key = (k : ℕ) → k < key → IsSome (value named (tasks_of p) k)

-- the block under this name holds the elements of each saved array of its node
abbrev pub HoldsNamed : Plan → Named → Option (ℕ × ℕ) → Array → Type 0
HoldsNamed p named None block = Unit {0}
HoldsNamed p named (Some x) block = (k : ℕ) → k < length p.saves → node_at p k ≡ x.0 → HoldsBox (array_at p named k) (box_of p.nodes x.0 x.1) block

-- a zero divisor in the block under this name, or want of memory
abbrev pub IsZeroOf : Plan → Option (ℕ × ℕ) → Halt → Type 0
IsZeroOf p (Some x) (halts.Zero node block) = (node ≡ x.0) × (block ≡ index_of p x.0 x.1)
IsZeroOf p name halts.OutOfMemory = Unit {0}
IsZeroOf p name halt = ⊥

-- ## All keys

-- why not all blocks were made; the two numbers are the feed's counts of faults
abbrev pub HaltCause : Plan → Named → Type 0 → List Saving → ℕ → ℕ → Halt → Type 0
HaltCause p named told files before now (halts.Zero node block) = told → MeetsZero p named node block
HaltCause p named told files before now halts.ReadFault = Rose before now
HaltCause p named told files before now halts.WriteFault = HasFailed files
HaltCause p named told files before now halts.OutOfMemory = Unit {0}

-- this holds of the elements that files of these names have, with these heads, whatever they hold that gave these pieces
abbrev pub GivenOver : List Head → List (List ℕ) → List Piece → (Named → Type 0) → Type 0
GivenOver heads names pieces P = (holds : List ℕ → List ℕ) (named : Named) → Agree holds pieces → HaveNamed heads names holds named → P named

-- so the block that is named is the first that meets a zero divisor
abbrev pub HaltGiven : Plan → List Head → List (List ℕ) → List Piece → Halt → Type 0
HaltGiven p heads names pieces (halts.Zero node block) = GivenOver heads names pieces (λ named. MeetsZero p named node block)
HaltGiven p heads names pieces halt = Unit {0}

-- no file has failed before a halt that isn't a write's: one that wants memory may be
abbrev pub HaltKeeps : List Saving → Halt → Type 0
HaltKeeps files halts.WriteFault = Unit {0}
HaltKeeps files halts.OutOfMemory = Unit {0}
HaltKeeps files halt = HasNotFailed files

-- ## The whole evaluation over open inputs

abbrev pub EvaluationCause : Plan → Named → Type 0 → View → View → Ended → Type 0
EvaluationCause p named told old new Done = told → MeetsNone p named
EvaluationCause p named told old new (Zero node block) = told → MeetsZero p named node block
EvaluationCause p named told old new ReadFault = Rose old.read_faults new.read_faults
EvaluationCause p named told old new WriteFault = Rose old.write_faults new.write_faults
EvaluationCause p named told old new OutOfMemory = Unit {0}
EvaluationCause p named told old new end = ⊥

-- the same of whatever the inputs hold that gave what was read, told or not
abbrev pub EvaluationGiven : Plan → View → View → Ended → Type 0
EvaluationGiven p old new Done = OfGiven p old new (MeetsNone p)
EvaluationGiven p old new (Zero node block) = OfGiven p old new (λ named. MeetsZero p named node block)
EvaluationGiven p old new end = Unit {0}

-- all files are whole at the end, where the site tells
abbrev pub EvaluationSaves : Plan → Named → Type 0 → Files → Files → Ended → Type 0
EvaluationSaves p named told old new Done = told → IsTrue old.tells → AreWhole (names_saved p) (files_of p named) new
EvaluationSaves p named told old new end = Unit {0}

abbrev pub EvaluationCreates : List (List ℕ) → (List ℕ → ℕ) → (List ℕ → ℕ) → Ended → Type 0
EvaluationCreates names old new Done = new ≡ raised_by names old
EvaluationCreates names old new (Zero node block) = new ≡ raised_by names old
EvaluationCreates names old new (Killed key losses) = new ≡ raised_by names old
EvaluationCreates names old new end = RaisedAtMost names old new

pub record EvaluatesInputs (p : Plan) (named : Named) (told : Type 0) (old new : View) (end : Ended) : Type 0 where
  pub cause : EvaluationCause p named told old new end
  pub given : EvaluationGiven p old new end
  pub saves : EvaluationSaves p named told old.files new.files end
  pub left : told → AreLeft (names_saved p) (files_of p named) old.files new.files
  pub others : (n : List ℕ) → IsNoneOf n (names_saved p) → new.files.held n ≡ old.files.held n
  pub tells : new.files.tells ≡ old.files.tells
  pub opened : new.files.opened ≡ old.files.opened
  pub created : EvaluationCreates (names_saved p) old.files.created new.files.created end
  pub gave : GivesMore old.gave new.gave
  pub out : new.out ≡ old.out
  pub err : new.err ≡ old.err
  pub note_faults : new.note_faults ≡ old.note_faults
  pub print_faults : new.print_faults ≡ old.print_faults
  pub read_later : old.read_faults ≤ new.read_faults
  pub write_later : old.write_faults ≤ new.write_faults
