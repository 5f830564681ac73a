-- Parts of blocks that are put into a block: how their elements lie, and what is written.
use Rattle.std.specs.Prelude.{◌≡◌, ℕ, ◌+◌, ◌*◌, ◌<◌, ◌≤◌, Bool, true, false, List, slice_index_or, ℤ, pos, Some}
use Rattle.nd_shape.specs.Block.{Array}
use Rattle.nd_shape.specs.Shape.{elements}
use Rattle.nd_shape.specs.Index.{IsIn, place, index_at}
use Rattle.nd_shape.specs.Region.{Box, moved}
use Rattle.nd_shape.specs.declared.region.Piece.{Piece}
use Rattle.nd_grid.specs.Grid.{Grid}
use Rattle.block_kernels.specs.Kernels.{is_within, in_pieces}

-- the elements of a box in an array lie side by side in runs of so many
pub record Runs (dims starts lengths : List ℕ) (run : ℕ) : Type 0 where
  pub count : ℕ
  pub size : elements lengths ≡ count * run
  pub at : (r t : ℕ) → t < run → r * run + t < elements lengths → place dims (moved starts (index_at lengths (r * run + t))) ≡ place dims (moved starts (index_at lengths (r * run))) + t

-- the box is the whole array
pub record IsWhole (dims starts lengths : List ℕ) (run : ℕ) : Type 0 where
  pub size : elements lengths ≡ run
  pub all : elements dims ≡ run
  pub at : (q : ℕ) → q < run → place dims (moved starts (index_at lengths q)) ≡ q

-- what is known of a box, if so many of its elements lie side by side
pub record Lies (dims starts lengths : List ℕ) (run : ℕ) (whole : Bool) : Type 0 where
  pub runs : Runs dims starts lengths run
  pub is_whole : whole ≡ true → IsWhole dims starts lengths run

-- two boxes of the same length along an axis are whole there, and were so before
pub record StaysWhole (was : Bool) (start origin len here there : ℕ) : Type 0 where
  pub before : was ≡ true
  pub start_is : start ≡ 0
  pub origin_is : origin ≡ 0
  pub here_is : len ≡ here
  pub there_is : len ≡ there

-- cells from a place on are copied to a place
pub record Copied (place : ℕ) (cells : List ℤ) (from count : ℕ) (old new : List ℤ) : Type 0 where
  pub at : (i : ℕ) → i < count → slice_index_or new (place + i) (pos 0) ≡ slice_index_or cells (from + i) (pos 0)
  pub before : (j : ℕ) → j < place → slice_index_or new j (pos 0) ≡ slice_index_or old j (pos 0)
  pub after : (j : ℕ) → place + count ≤ j → slice_index_or new j (pos 0) ≡ slice_index_or old j (pos 0)

-- the first `done` elements of the box hold those of the source from `origin` on, and what lies outside the box is kept
pub record Paints (origin : List ℕ) (to : Box) (shape : List ℕ) (source : Array) (done : ℕ) (old new : List ℤ) : Type 0 where
  pub at : (q : ℕ) → q < done → slice_index_or new (place shape (moved to.start (index_at to.lengths q))) (pos 0) ≡ slice_index_or source.cells (place source.shape (moved origin (index_at to.lengths q))) (pos 0)
  pub kept : (i : List ℕ) → IsIn shape i → is_within to.start to.lengths i ≡ false → slice_index_or new (place shape i) (pos 0) ≡ slice_index_or old (place shape i) (pos 0)

-- the cells hold what the pieces have
pub record Painted (ps : List Piece) (gs : List Grid) (shape : List ℕ) (cells : List ℤ) : Type 0 where
  pub at : (i : List ℕ) (v : ℤ) → IsIn shape i → in_pieces ps gs i ≡ Some v → slice_index_or cells (place shape i) (pos 0) ≡ v
