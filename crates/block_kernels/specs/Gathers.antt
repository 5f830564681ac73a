-- Places at equal distances.
use Rattle.std.specs.Prelude.{◌≡◌, ℕ, ◌<◌, ◌+◌, ◌-◌, ◌*◌, List, length, map, get_or, ℤ, pos, Some}
use Rattle.nd_grid.specs.Grid.{Grid, SlicesFit, sliced_shape, IsTranspose}
use Rattle.nd_shape.specs.declared.slice.Steps.{Steps}
use Rattle.block_kernels.specs.Rows.{at_place}

-- the place with number i of a row whose first two places are these
abbrev pub IsSpot : ℕ → ℕ → ℕ → ℕ → Type 0
IsSpot first second i p = p + i * first ≡ first + i * second

-- each of n such places lies below a length
pub record IsRow (len first second n : ℕ) : Type 0 where
  pub place : ℕ → ℕ
  pub below : (i : ℕ) → i < n → place i < len
  pub spot : (i : ℕ) → i < n → IsSpot first second i (place i)

-- what stands in a row of a grid is what the operand has at such places
pub record IsLine (g : Grid) (cells : List ℤ) (start n first second : ℕ) : Type 0 where
  pub row : IsRow (length cells) first second n
  pub each : (r p : ℕ) → r < n → IsSpot first second r p → at_place g (start + r) ≡ Some (get_or cells p (pos 0))

-- the element i of the row k is there, where each row has so many
pub record HasTaken (cells : List ℤ) (first second run k i : ℕ) (out : List ℤ) : Type 0 where
  pub at : (p : ℕ) → IsSpot first second i p → get_or out (k * run + i) (pos 0) ≡ get_or cells p (pos 0)

-- n numbers at equal distances: the first two give all
abbrev pub IsEven : ℕ → (ℕ → ℕ) → Type 0
IsEven n f = (r : ℕ) → r < n → 1 < n → IsSpot (f 0) (f 1) r (f r)

-- a slice, or a transpose, with a row along its last axis
pub record CanTake (steps : List Steps) (dropped dims shape : List ℕ) (outer : ℕ) : Type 0 where
  pub fits : SlicesFit 0 steps dims dropped
  pub shape_is : sliced_shape 0 steps dropped ≡ shape
  pub outer_is : outer ≡ length shape - 1

pub record CanTurn (axes dims shape : List ℕ) (outer : ℕ) : Type 0 where
  pub fits : IsTranspose axes (length dims)
  pub shape_is : map (λ a. get_or dims a 0) axes ≡ shape
  pub outer_is : outer ≡ length shape - 1
