-- One block, written at all its places: what the private functions of a saver answer.
use Rattle.std.specs.Prelude.{◌≡◌, ◌≢◌, ◌≤◌, ◌<◌, ℕ, List, length, slice_index_or, Bool, true, Option, Some, None, IsSome}
use Rattle.io_edge.specs.declared.edge.OpenFault.{OpenFault}
use Rattle.io_edge.specs.declared.edge.OpenFault.TheVariants.{Failed}
use Rattle.io_edge.specs.Content.{Content}
use Rattle.nd_shape.specs.Block.{Array}
use Rattle.nd_shape.specs.Region.{Box}
use Rattle.chunk_layout.specs.Layouts.{lengths, region}
use Rattle.cluster_msgs.specs.Labels.{LabelFacts}
use Rattle.npy_region.specs.Writing.{Turns}
use Rattle.saved_files.specs.Filling.{IsFilling}
use Rattle.saved_files.specs.Saving.{ChangesAt, Saving, saving_at}
use Rattle.job_run.specs.declared.wanted.Wanted.{Wanted}
use Rattle.job_run.specs.Evaluating.{AreSameFiles, HasFailed}
use Rattle.job_run.specs.Filling.{keys_at, layout_at}
use Rattle.thread_run.specs.Saver.{IsAmong, IsMadeOf, had_in}

-- the key stands among those of a save at no other place than this number
abbrev pub StandsAt : List ℕ → ℕ → ℕ → Type 0
StandsAt keys key number = (c : ℕ) → c < length keys → slice_index_or keys c 0 ≡ key → c ≡ number

-- the open files of what is wanted: one for each save, of its layout's lengths
pub record AreFilesOf (w : Wanted) (files : List Saving) : Type 0 where
  pub count : length files ≡ length w.saved
  pub dims : (k : ℕ) → k < length files → (saving_at files k).dims ≡ lengths (layout_at w.layouts k)

-- an array's file that had these boxes, and where a block of a key was written then: it has them still, and the box at each place of the key
-- too; where something has failed, it has only the header for certain
pub record HasMore (layout : List (List ℕ)) (keys : List ℕ) (key : ℕ) (fault : Option OpenFault) (a : Array) (old : List Box) (bytes : List ℕ) : Type 0 where
  pub boxes : List Box
  pub filling : IsFilling a boxes bytes
  pub still : fault ≡ None → (box : Box) → IsAmong old box → IsAmong boxes box
  pub here : fault ≡ None → (c : ℕ) → c < length keys → slice_index_or keys c 0 ≡ key → IsAmong boxes (region layout c)

-- a file before and after a block of a key was written at its places, whatever array is made of fitting blocks
pub record Writes (facts : LabelFacts Array) (layout : List (List ℕ)) (keys : List ℕ) (key : ℕ) (fault : Option OpenFault) (old new : Content) : Type 0 where
  pub turns : Turns (λ before after. (a : Array) (boxes : List Box)
      → IsMadeOf facts layout keys a → IsFilling a boxes before → HasMore layout keys key fault a boxes after) old new

-- the same of the file of one save, where something had failed before or hadn't
pub record WritesAt (facts : LabelFacts Array) (layout : List (List ℕ)) (keys : List ℕ) (key place : ℕ)
    (before after : Option OpenFault) (old new : List Saving) : Type 0 where
  pub changes : ChangesAt place old new
  pub writes : Writes facts layout keys key after (saving_at old place).content (saving_at new place).content
  pub stays : IsSome before → (after ≡ before) × (new ≡ old)
  pub failed : before ≡ None → after ≡ Some Failed → 0 < (saving_at new place).faults

-- the same of the files of all saves before this place; those from it on are as they were
pub record WrittenBelow (facts : LabelFacts Array) (w : Wanted) (key place : ℕ) (before after : Option OpenFault) (old new : List Saving) : Type 0 where
  pub same : AreSameFiles old new
  pub below : (k : ℕ) → k < place → k < length old
      → Writes facts (layout_at w.layouts k) (keys_at w.saved k) key after (saving_at old k).content (saving_at new k).content
  pub above : (k : ℕ) → place ≤ k → saving_at new k ≡ saving_at old k
  pub stays : IsSome before → (after ≡ before) × (new ≡ old)
  pub failed : (before ≡ Some Failed → HasFailed old) → after ≡ Some Failed → HasFailed new

-- the same of the files of all saves
pub record WritesAll (facts : LabelFacts Array) (w : Wanted) (key : ℕ) (before after : Option OpenFault) (old new : List Saving) : Type 0 where
  pub same : AreSameFiles old new
  pub each : (k : ℕ) → k < length old → Writes facts (layout_at w.layouts k) (keys_at w.saved k) key after (saving_at old k).content (saving_at new k).content
  pub stays : IsSome before → (after ≡ before) × (new ≡ old)
  pub failed : (before ≡ Some Failed → HasFailed old) → after ≡ Some Failed → HasFailed new

-- one more key is had
pub record Marks (key : ℕ) (old new : List Bool) : Type 0 where
  pub count : length new ≡ length old
  pub here : had_in new key ≡ true
  pub others : (k : ℕ) → k ≢ key → had_in new k ≡ had_in old k
