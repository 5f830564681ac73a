-- Products over paired axes as products of matrices.
use Rattle.std.specs.Prelude.{◌≡◌, ℕ, ◌+◌, ◌*◌, ◌/◌, ◌%◌, ◌<◌, ◌≤◌, ◌++◌, List, [], map, slice_index_or, ℤ, pos, ◌*ℤ◌, Option, Some, Ok}
use Rattle.std.specs.List.{range_with_len}
use Rattle.nd_shape.specs.Block.{Array}
use Rattle.nd_shape.specs.Shape.{elements}
use Rattle.nd_shape.specs.Index.{index_at}
use Rattle.nd_grid.specs.Int64.{wrap}
use Rattle.nd_grid.specs.declared.operation.Fold.TheVariants.{Sum}
use Rattle.nd_grid.specs.Operation.{folded_from, fold_two}
use Rattle.nd_grid.specs.Grid.{Grid, grid_of, block_of, kept_shape, woven, contracted}
use Rattle.block_kernels.specs.Kernels.{nth}
use Rattle.block_kernels.specs.Inputs.{grids_of, shapes_of}

-- the element at a place of the kept axes and a place of the paired ones
abbrev pub woven_at : List ℕ → Array → List ℕ → List ℕ → ℕ → ℕ → Option ℤ
woven_at axes a kept paired i p = (grid_of a).at (woven 0 a.shape axes (index_at kept i) (index_at paired p))

-- the elements of a block, a row for each place of its kept axes, and for each place of its paired axes
abbrev pub AreKeptRows : List ℕ → Array → List ℕ → List ℕ → List ℤ → Type 0
AreKeptRows axes a kept paired cells =
    (x : ℕ) → x < elements kept * elements paired → Some (slice_index_or cells x (pos 0)) ≡ woven_at axes a kept paired (x / elements paired) (x % elements paired)

abbrev pub ArePairedRows : List ℕ → Array → List ℕ → List ℕ → List ℤ → Type 0
ArePairedRows axes a kept paired cells =
    (x : ℕ) → x < elements paired * elements kept → Some (slice_index_or cells x (pos 0)) ≡ woven_at axes a kept paired (x % elements kept) (x / elements kept)

-- the contraction of two blocks has this shape and these cells
abbrev pub IsContraction : List ℕ → List ℕ → Array → Array → List ℕ → List ℤ → Type 0
IsContraction left_axes right_axes a b shape cells = block_of (contracted left_axes right_axes (grid_of a) (grid_of b)) ≡ Ok (record { shape = shape; cells = cells })

-- the contraction of two blocks of a list, and its shape
abbrev pub contracted_at : List ℕ → List ℕ → ℕ → ℕ → List Array → Grid
contracted_at left_axes right_axes left right blocks = contracted left_axes right_axes (nth (grids_of blocks) left) (nth (grids_of blocks) right)

abbrev pub contracted_dims : List ℕ → List ℕ → ℕ → ℕ → List Array → List ℕ
contracted_dims left_axes right_axes left right blocks = kept_shape 0 (slice_index_or (shapes_of blocks) left []) left_axes ++ kept_shape 0 (slice_index_or (shapes_of blocks) right []) right_axes

-- an element of the product of a row and a column
abbrev pub product_of : List ℤ → ℕ → List ℤ → ℕ → ℕ → ℕ → ℤ
product_of left first right count p j = wrap (slice_index_or left (first + p) (pos 0) *ℤ slice_index_or right (p * count + j) (pos 0))

-- so many elements from a place on have the multiples of a row added
pub record AddsRow (place : ℕ) (factor : ℤ) (cells : List ℤ) (from count : ℕ) (old new : List ℤ) : Type 0 where
  pub at : (j : ℕ) → j < count → fold_two Sum (slice_index_or old (place + j) (pos 0)) (wrap (factor *ℤ slice_index_or cells (from + j) (pos 0))) ≡ slice_index_or new (place + j) (pos 0)
  pub before : (j : ℕ) → j < place → slice_index_or new j (pos 0) ≡ slice_index_or old j (pos 0)
  pub after : (j : ℕ) → place + count ≤ j → slice_index_or new j (pos 0) ≡ slice_index_or old j (pos 0)

-- so many elements from a place on have so many products of a row and a column added
pub record AddsProducts (place : ℕ) (left : List ℤ) (first : ℕ) (right : List ℤ) (rows count : ℕ) (old new : List ℤ) : Type 0 where
  pub at : (j : ℕ) → j < count → folded_from Sum (Some (slice_index_or old (place + j) (pos 0))) (map (λ p. Some (product_of left first right count p j)) (range_with_len 0 rows)) ≡ Some (slice_index_or new (place + j) (pos 0))
  pub before : (j : ℕ) → j < place → slice_index_or new j (pos 0) ≡ slice_index_or old j (pos 0)
  pub after : (j : ℕ) → place + count ≤ j → slice_index_or new j (pos 0) ≡ slice_index_or old j (pos 0)

-- the first rows of a product of matrices
pub record IsProduct (left right : List ℤ) (height depth count : ℕ) (cells : List ℤ) : Type 0 where
  pub at : (i j : ℕ) → i < height → j < count → folded_from Sum (Some (pos 0)) (map (λ p. Some (product_of left (i * depth) right count p j)) (range_with_len 0 depth)) ≡ Some (slice_index_or cells (i * count + j) (pos 0))
