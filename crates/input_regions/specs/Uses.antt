-- Which elements of its operands an element of an operation is made of, by the index formula of each operation.
use Rattle.std.specs.Prelude.{◌≡◌, ◌+◌, ◌-◌, ◌<◌, ◌≤◌, ◌⊎◌, ℕ, List, length, take, drop, map, slice_index, slice_set}
use Rattle.nd_shape.specs.declared.slice.Steps.{Steps}
use Rattle.nd_shape.specs.Index.{IsIn}
use Rattle.nd_grid.specs.Grid.{under, sliced_from, turned, kept_shape}
use Rattle.array_expr.specs.declared.op.Op.{Op}
use Rattle.array_expr.specs.declared.op.Op.TheVariants.{Input, Full, Ramp, Negate, Elementwise, Where, Slice, Transpose, Rechunk, Concatenate, Reduce, Tensordot}
use Rattle.array_expr.specs.Node.{dropped, folded_axes, length_on_axis}

-- the element of node k at index j is that of this operand at this index
abbrev pub IsAt : ℕ → List ℕ → ℕ → List ℕ → Type 0
IsAt of at k j = (k ≡ of) × (j ≡ at)

-- the elements of an operand whose coordinates on the axes that aren't listed are these: all along the listed axes
pub record IsAlong (of : ℕ) (dims axes kept : List ℕ) (k : ℕ) (j : List ℕ) : Type 0 where
  pub operand : k ≡ of
  pub inside : IsIn dims j
  pub same : kept_shape 0 j axes ≡ kept

-- the elements along an axis before this operand of a concatenation
abbrev pub before_operand : (ℕ → List ℕ) → ℕ → List ℕ → ℕ → ℕ
before_operand shape axis of branch = length_on_axis axis (map shape (take branch of))

-- the element of this operand of a concatenation, where the index along the axis is one of its own
pub record IsInBranch (shape : ℕ → List ℕ) (axis : ℕ) (of : List ℕ) (branch : ℕ) (i : List ℕ) (k : ℕ) (j : List ℕ) : Type 0 where
  pub operand : k ≡ slice_index of branch
  pub low : before_operand shape axis of branch ≤ slice_index i axis
  pub high : slice_index i axis < before_operand shape axis of branch + slice_index (shape k) axis
  pub same : j ≡ slice_set i axis (slice_index i axis - before_operand shape axis of branch)

-- the element of one of the first so many operands of a concatenation
pub record IsInBranches (shape : ℕ → List ℕ) (axis : ℕ) (of : List ℕ) (count : ℕ) (i : List ℕ) (k : ℕ) (j : List ℕ) : Type 0 where
  pub branch : ℕ
  pub there : branch < count
  pub is : IsInBranch shape axis of branch i k j

-- how many axes of an operand are left where these are taken away
abbrev pub kept_number : List ℕ → List ℕ → ℕ
kept_number dims axes = length (kept_shape 0 dims axes)

-- The element at index i of what an operation makes uses the element of node k at index j; `shape` has the shapes of the
-- nodes, and `taken` what a slice takes of each axis. `where` uses all three operands, whatever its condition is.
abbrev pub Uses : Op → List Steps → (ℕ → List ℕ) → List ℕ → ℕ → List ℕ → Type 0
Uses (Input dims chunks) taken shape i k j = ⊥
Uses (Full dims value chunks) taken shape i k j = ⊥
Uses (Ramp dims start step chunks) taken shape i k j = ⊥
Uses (Negate of) taken shape i k j = IsAt of i k j
Uses (Elementwise op left right) taken shape i k j = IsAt left (under (shape left) i) k j ⊎ IsAt right (under (shape right) i) k j
Uses (Where condition first second) taken shape i k j =
    IsAt condition (under (shape condition) i) k j ⊎ (IsAt first (under (shape first) i) k j ⊎ IsAt second (under (shape second) i) k j)
Uses (Slice of parts) taken shape i k j = IsAt of (sliced_from 0 taken (dropped parts) i) k j
Uses (Transpose of axes) taken shape i k j = IsAt of (turned axes i) k j
Uses (Rechunk of chunks) taken shape i k j = IsAt of i k j
Uses (Concatenate of axis) taken shape i k j = IsInBranches shape axis of (length of) i k j
Uses (Reduce fold of axes split) taken shape i k j = IsAlong of (shape of) (folded_axes axes (length (shape of))) i k j
Uses (Tensordot left right left_axes right_axes) taken shape i k j =
    let number = kept_number (shape left) left_axes in
    IsAlong left (shape left) left_axes (take number i) k j ⊎ IsAlong right (shape right) right_axes (drop number i) k j
