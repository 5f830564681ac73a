-- Saved blocks, each written at all its places as it comes: what is held of them, and what stays of it.
use Rattle.std.specs.Prelude.{◌≡◌, ◌<◌, ℕ, List, length, slice_index_or, Bool, true, false, Option, Some, None, IsSome}
use Rattle.io_edge.specs.declared.edge.OpenFault.{OpenFault}
use Rattle.io_edge.specs.declared.edge.OpenFault.TheVariants.{Failed}
use Rattle.io_edge.specs.Content.{OnTold}
use Rattle.nd_shape.specs.Block.{Array}
use Rattle.nd_shape.specs.Region.{Box}
use Rattle.chunk_layout.specs.Layouts.{blocks, lengths, region}
use Rattle.cluster_msgs.specs.Labels.{BlockFits, LabelFacts}
use Rattle.saved_files.specs.Filling.{HoldsBox, IsFilling, box_of}
use Rattle.saved_files.specs.Saving.{IsOf, Saving, saving_at}
use Rattle.job_run.specs.declared.wanted.Wanted.{Wanted}
use Rattle.job_run.specs.Evaluating.{AreSameFiles, HasFailed}
use Rattle.job_run.specs.Filling.{keys_at, layout_at}
use Rattle.job_run.specs.Plan.{Plan}
use Rattle.job_run.specs.Values.{Named, tasks_of}
use Rattle.thread_run.specs.Reports.{label}

-- ## What contracts see

-- the open files of the saves, whether a block of each key was had, why the first write that failed did, and what is wanted
pub record Saves : Type 0 where
  pub files : List Saving
  pub had : List Bool
  pub fault : Option OpenFault
  pub wanted : Wanted

-- whether a block of the key was had; what is no key of the graph counts as had
abbrev pub had_in : List Bool → ℕ → Bool
had_in had key = slice_index_or had key true

-- what a label says is what the label of a run of the plan does, told or not, whatever losses are allowed, over some inputs
pub record IsLabelOf (p : Plan) (facts : LabelFacts Array) : Type 0 where
  pub told : Bool
  pub allowed : Option ℕ
  pub named : Named
  pub is : facts ≡ label told allowed named (tasks_of p)

-- nothing was had of so many keys, and nothing has failed
pub record HasNone (keys : ℕ) (wanted : Wanted) (s : Saves) : Type 0 where
  pub wanted_is : s.wanted ≡ wanted
  pub keys_are : length s.had ≡ keys
  pub none : (key : ℕ) → key < keys → had_in s.had key ≡ false
  pub sound : s.fault ≡ None

-- the files are the same ones, and tell their bytes where they did; what was had still is; and once something has failed it still has, and nothing is
-- written any more
pub record SavesOn (old new : Saves) : Type 0 where
  pub wanted_is : new.wanted ≡ old.wanted
  pub same : AreSameFiles old.files new.files
  pub keys_are : length new.had ≡ length old.had
  pub had_still : (key : ℕ) → had_in old.had key ≡ true → had_in new.had key ≡ true
  pub failed_still : IsSome old.fault → (new.fault ≡ old.fault) × (new.files ≡ old.files)

-- ## What always holds

-- a key has a name, with this number of a block
pub record IsNumbered (names : List (Option (ℕ × ℕ))) (key number : ℕ) : Type 0 where
  pub node : ℕ
  pub name_is : slice_index_or names key None ≡ Some (node, number)

-- what is known of the saved keys of what is wanted: those of each save are of the blocks of its layout, in row-major order, and their names have
-- these numbers; what fits one of them has its block's lengths
pub record AreSavedKeys (facts : LabelFacts Array) (w : Wanted) : Type 0 where
  pub layouts_are : length w.layouts ≡ length w.saved
  pub blocks_are : (k : ℕ) → k < length w.saved → length (keys_at w.saved k) ≡ blocks (layout_at w.layouts k)
  pub named : (k c : ℕ) → k < length w.saved → c < length (keys_at w.saved k) → IsNumbered w.names (slice_index_or (keys_at w.saved k) c 0) c
  pub shapes : (k c : ℕ) (b : Array) → k < length w.saved → c < length (keys_at w.saved k) → BlockFits facts (slice_index_or (keys_at w.saved k) c 0) b
      → b.shape ≡ (region (layout_at w.layouts k) c).lengths

-- an array of the layout's lengths, of which all that fits the keys of its blocks are the blocks
pub record IsMadeOf (facts : LabelFacts Array) (layout : List (List ℕ)) (keys : List ℕ) (a : Array) : Type 0 where
  pub lengths_are : IsOf (lengths layout) a
  pub each : (c : ℕ) (b : Array) → c < length keys → BlockFits facts (slice_index_or keys c 0) b → HoldsBox a (region layout c) b

-- the box stands in the list
pub record IsAmong (boxes : List Box) (box : Box) : Type 0 where
  pub place : ℕ
  pub there : place < length boxes
  pub is : box_of boxes place ≡ box

-- the file of an array has its header, boxes of its blocks and no wrong byte; where nothing has failed, it has the boxes of all keys that were had
pub record HasBoxes (layout : List (List ℕ)) (keys : List ℕ) (had : List Bool) (fault : Option OpenFault) (a : Array) (bytes : List ℕ) : Type 0 where
  pub boxes : List Box
  pub filling : IsFilling a boxes bytes
  pub all : fault ≡ None → (c : ℕ) → c < length keys → had_in had (slice_index_or keys c 0) ≡ true → IsAmong boxes (region layout c)

-- a block of a key that fits it
pub record IsFitted (facts : LabelFacts Array) (key : ℕ) : Type 0 where
  pub block : Array
  pub fits : BlockFits facts key block

-- Each key that was had has a block that fits it; and the file of each save, whatever array is made of such blocks, has what was had of it. A fault
-- is one of a file. No saved key is beyond those that are told of.
pub record AreSaved (facts : LabelFacts Array) (s : Saves) : Type 0 where
  pub keys_are : AreSavedKeys facts s.wanted
  pub small : (k c : ℕ) → k < length s.wanted.saved → c < length (keys_at s.wanted.saved k) → slice_index_or (keys_at s.wanted.saved k) c 0 < length s.had
  pub count : length s.files ≡ length s.wanted.saved
  pub dims : (k : ℕ) → k < length s.files → (saving_at s.files k).dims ≡ lengths (layout_at s.wanted.layouts k)
  pub fit : (key : ℕ) → key < length s.had → had_in s.had key ≡ true → IsFitted facts key
  pub filled : (k : ℕ) → k < length s.files → OnTold (saving_at s.files k).content (λ bytes. (a : Array)
      → IsMadeOf facts (layout_at s.wanted.layouts k) (keys_at s.wanted.saved k) a
      → HasBoxes (layout_at s.wanted.layouts k) (keys_at s.wanted.saved k) s.had s.fault a bytes)
  pub failed : s.fault ≡ Some Failed → HasFailed s.files
