-- What a client got of arrays, block by block, and the files that it is written into: what the private functions answer.
use Rattle.std.specs.Prelude.{◌≡◌, ◌<◌, ◌≤◌, ℕ, List, [], map, length, slice_index, slice_index_or, Option, Some}
use Rattle.std.specs.List.{range_with_len}
use Rattle.io_edge.specs.Content.{Content}
use Rattle.nd_shape.specs.Block.{Array}
use Rattle.nd_shape.specs.Region.{Box}
use Rattle.chunk_layout.specs.Layouts.{blocks, lengths, region}
use Rattle.npy_region.specs.Writing.{Turns}
use Rattle.saved_files.specs.Filling.{HoldsBox, IsFilling}
use Rattle.saved_files.specs.Saving.{Saving, saving_at}

-- the keys of an array's blocks, in row-major order, and its layout
abbrev pub keys_at : List (List ℕ) → ℕ → List ℕ
keys_at saved k = slice_index_or saved k []

abbrev pub layout_at : List (List (List ℕ)) → ℕ → List (List ℕ)
layout_at layouts k = slice_index_or layouts k []

-- ## One array

-- the client has a block of each of these keys, one for each block of the layout, and with its lengths
pub record HasBlocks (layout : List (List ℕ)) (keys : List ℕ) (has : ℕ → List ℕ → Type 0) : Type 0 where
  pub count : length keys ≡ blocks layout
  pub there : (c : ℕ) → c < length keys → has (slice_index keys c) (region layout c).lengths

-- what the client got of these keys are an array's blocks
pub record AreBlocksOf (a : Array) (layout : List (List ℕ)) (keys : List ℕ) (got : ℕ → Option Array) : Type 0 where
  pub shape : a.shape ≡ lengths layout
  pub each : (c : ℕ) (b : Array) → c < length keys → got (slice_index keys c) ≡ Some b → HoldsBox a (region layout c) b

-- the boxes of the first blocks of a layout
abbrev pub boxes_to : List (List ℕ) → ℕ → List Box
boxes_to layout n = map (region layout) (range_with_len 0 n)

-- a file that had the header of an array has its first blocks too
pub record FillsFirst (layout : List (List ℕ)) (keys : List ℕ) (got : ℕ → Option Array) (n : ℕ) (old new : Content) : Type 0 where
  pub turns : Turns (λ before after. (a : Array) → AreBlocksOf a layout keys got → IsFilling a [] before → IsFilling a (boxes_to layout n) after) old new

-- ## All arrays

-- open files, one for each list of keys
pub record FitFiles (files : List Saving) (saved : List (List ℕ)) (layouts : List (List (List ℕ))) (has : ℕ → List ℕ → Type 0) : Type 0 where
  pub keys : length saved ≡ length files
  pub layouts_are : length layouts ≡ length files
  pub shapes : (k : ℕ) → k < length files → (saving_at files k).dims ≡ lengths (layout_at layouts k)
  pub blocks_are : (k : ℕ) → k < length files → HasBlocks (layout_at layouts k) (keys_at saved k) has

-- the files have the names that they had
pub record KeepNames (old new : List Saving) : Type 0 where
  pub count : length new ≡ length old
  pub names : (k : ℕ) → k < length old → (saving_at new k).name ≡ (saving_at old k).name

-- each file has all of its array's blocks
abbrev pub FillsAll : List (List ℕ) → List (List (List ℕ)) → (ℕ → Option Array) → List Saving → List Saving → Type 0
FillsAll saved layouts got old new = (k : ℕ) → k < length old
    → FillsFirst (layout_at layouts k) (keys_at saved k) got (length (keys_at saved k)) (saving_at old k).content (saving_at new k).content

-- each has its header at least
abbrev pub FillsSome : List (List ℕ) → List (List (List ℕ)) → (ℕ → Option Array) → List Saving → List Saving → Type 0
FillsSome saved layouts got old new =
    (k : ℕ) → k < length old → FillsFirst (layout_at layouts k) (keys_at saved k) got 0 (saving_at old k).content (saving_at new k).content

-- the files before this place have all blocks, and those from it on are as they were
pub record FilledBelow (saved : List (List ℕ)) (layouts : List (List (List ℕ))) (got : ℕ → Option Array) (place : ℕ) (old new : List Saving) : Type 0 where
  pub same : KeepNames old new
  pub below : (k : ℕ) → k < place → k < length old
      → FillsFirst (layout_at layouts k) (keys_at saved k) got (length (keys_at saved k)) (saving_at old k).content (saving_at new k).content
  pub above : (k : ℕ) → place ≤ k → saving_at new k ≡ saving_at old k
