-- What one more block leaves of the totals of a reduction.
use Rattle.std.specs.Prelude.{◌≡◌, ℕ, ◌+◌, ◌*◌, ◌<◌, ◌≤◌, List, [], map, slice_index_or, ℤ, pos, Option, Some}
use Rattle.std.specs.List.{range_with_len}
use Rattle.nd_shape.specs.Block.{Array}
use Rattle.nd_shape.specs.Shape.{elements}
use Rattle.nd_shape.specs.Index.{index_at}
use Rattle.nd_grid.specs.declared.operation.Fold.{Fold}
use Rattle.nd_grid.specs.Operation.{neutral, combine_two, folded, folded_from, fold_two}
use Rattle.nd_grid.specs.Grid.{Grid, grid_of, reduced, kept_shape}
use Rattle.block_kernels.specs.Kernels.{reduced_all, elements_at}
use Rattle.block_kernels.specs.Inputs.{grids_of, shapes_of}

-- the reduction of the blocks, within each and then over all in order
abbrev pub reduced_blocks : Fold → List ℕ → List Array → Grid
reduced_blocks fold axes blocks = reduced_all fold axes (slice_index_or (shapes_of blocks) 0 []) (grids_of blocks)

-- the shape that it leaves
abbrev pub reduced_dims : List ℕ → List Array → List ℕ
reduced_dims axes blocks = kept_shape 0 (slice_index_or (shapes_of blocks) 0 []) axes

-- the totals are what the blocks leave at each place
abbrev pub AreTotals : Fold → List ℕ → List ℕ → List Array → List ℤ → Type 0
AreTotals fold axes shape blocks totals =
    (p : ℕ) → p < elements shape → folded fold (elements_at (map (reduced fold axes) (grids_of blocks)) (index_at shape p)) ≡ Some (slice_index_or totals p (pos 0))

-- so many cells from a place on
abbrev pub line_of : List ℤ → ℕ → ℕ → List (Option ℤ)
line_of cells from count = map (λ q. Some (slice_index_or cells (from + q) (pos 0))) (range_with_len 0 count)

-- each total has gone on by what the block leaves at its place, if it was made by the fold
pub record TakesBlock (fold : Fold) (axes shape : List ℕ) (block : Array) (old new : List ℤ) : Type 0 where
  pub at : (p : ℕ) → p < elements shape → combine_two fold (Some (slice_index_or old p (pos 0))) (Some (neutral fold)) ≡ Some (slice_index_or old p (pos 0))
      → combine_two fold (Some (slice_index_or old p (pos 0))) ((reduced fold axes (grid_of block)).at (index_at shape p)) ≡ Some (slice_index_or new p (pos 0))

-- the totals from a place on have gone on by the cells from a place on, one by one; the others are as they were
pub record TakesRow (fold : Fold) (place : ℕ) (cells : List ℤ) (from count : ℕ) (old new : List ℤ) : Type 0 where
  pub at : (i : ℕ) → i < count → fold_two fold (slice_index_or old (place + i) (pos 0)) (slice_index_or cells (from + i) (pos 0)) ≡ slice_index_or new (place + i) (pos 0)
  pub before : (j : ℕ) → j < place → slice_index_or new j (pos 0) ≡ slice_index_or old j (pos 0)
  pub after : (j : ℕ) → place + count ≤ j → slice_index_or new j (pos 0) ≡ slice_index_or old j (pos 0)

-- the same by so many rows of cells, one after another
pub record TakesRows (fold : Fold) (place : ℕ) (cells : List ℤ) (from rows count : ℕ) (old new : List ℤ) : Type 0 where
  pub at : (i : ℕ) → i < count
      → folded_from fold (Some (slice_index_or old (place + i) (pos 0))) (map (λ q. Some (slice_index_or cells ((from + q * count) + i) (pos 0))) (range_with_len 0 rows)) ≡ Some (slice_index_or new (place + i) (pos 0))
  pub before : (j : ℕ) → j < place → slice_index_or new j (pos 0) ≡ slice_index_or old j (pos 0)
  pub after : (j : ℕ) → place + count ≤ j → slice_index_or new j (pos 0) ≡ slice_index_or old j (pos 0)
