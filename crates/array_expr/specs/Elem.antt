-- What a node holds at an index: one formula for each operation, over the arrays of the nodes that it names.
use Rattle.std.specs.Prelude.{ℕ, suc, List, [], ◌∷◌, ◌++◌, length, map, slice_index_or, ℤ, Bool, true, false, cond, Option, Some, None}
use Rattle.std.specs.List.{range_with_len}
use Rattle.nd_shape.specs.declared.slice.Steps.{Steps}
use Rattle.nd_shape.specs.Shape.{elements}
use Rattle.nd_shape.specs.Index.{place, index_at}
use Rattle.nd_grid.specs.Grid.{Grid, filled, ramp, negated, elementwise, chosen, sliced, transposed, concatenated, reduced, contracted}
use Rattle.array_expr.specs.declared.op.Op.{Op}
use Rattle.array_expr.specs.declared.op.Op.TheVariants.{Input, Full, Ramp, Negate, Elementwise, Where, Slice, Transpose, Rechunk, Concatenate, Reduce, Tensordot}
use Rattle.array_expr.specs.declared.expr.Node.{Node}
use Rattle.array_expr.specs.Node.{dropped, folded_axes}

-- an array of which elements may be missing: its lengths, and in row-major order an int64 or nothing
pub record Cells : Type 0 where
  pub shape : List ℕ
  pub cells : List (Option ℤ)

abbrev pub grid_of_cells : Cells → Grid
grid_of_cells a = record { shape = a.shape; at = λ i. slice_index_or a.cells (place a.shape i) None }

-- what a grid has at each place
abbrev pub cells_of : Grid → Cells
cells_of g = record { shape = g.shape; cells = map (λ p. g.at (index_at g.shape p)) (range_with_len 0 (elements g.shape)) }

-- the array of node k, among those that are known
abbrev pub array_at : List Cells → ℕ → Grid
array_at known k = grid_of_cells (slice_index_or known k (record { shape = []; cells = [] }))

-- what an operation makes of earlier arrays. `input` has the element of an input at each index, and `taken` what a slice
-- takes of each axis. Nothing stands where a divisor is 0, and where a formula uses an element at which nothing stands.
abbrev pub formula : Op → List Steps → (List ℕ → ℤ) → (ℕ → Grid) → Grid
formula (Input dims chunks) taken input array = record { shape = dims; at = λ i. Some (input i) }
formula (Full dims value chunks) taken input array = filled dims value
formula (Ramp dims start step chunks) taken input array = ramp dims start step
formula (Negate of) taken input array = negated (array of)
formula (Elementwise op left right) taken input array = elementwise op (array left) (array right)
formula (Where condition first second) taken input array = chosen (array condition) (array first) (array second)
formula (Slice of parts) taken input array = sliced taken (dropped parts) (array of)
formula (Transpose of axes) taken input array = transposed axes (array of)
formula (Rechunk of chunks) taken input array = array of
formula (Concatenate of axis) taken input array = concatenated axis (map array of)
formula (Reduce fold of axes split) taken input array = reduced fold (folded_axes axes (length (array of).shape)) (array of)
formula (Tensordot left right left_axes right_axes) taken input array = contracted left_axes right_axes (array left) (array right)

abbrev pub is_input : Op → Bool
is_input (Input dims chunks) = true
is_input op = false

abbrev pub next_input : Op → ℕ → ℕ
next_input op j = cond (is_input op) (suc j) j

-- The arrays of nodes that come after those that are known, in order. Inputs are numbered as their nodes stand, and j is
-- the number of the next one.
unfoldable pub arrays_after : (ℕ → List ℕ → ℤ) → ℕ → List Cells → List Node → List Cells
arrays_after inputs j known [] = known
arrays_after inputs j known (n ∷ nodes) =
    arrays_after inputs (next_input n.op j) (known ++ cells_of (formula n.op n.taken (inputs j) (array_at known)) ∷ []) nodes

-- the array of each node; `inputs` has the elements of each input
abbrev pub arrays : (ℕ → List ℕ → ℤ) → List Node → List Cells
arrays inputs nodes = arrays_after inputs 0 [] nodes

-- the element of node n at index i, or nothing where it meets a zero divisor
abbrev pub elem : (ℕ → List ℕ → ℤ) → List Node → ℕ → List ℕ → Option ℤ
elem inputs nodes n i = (array_at (arrays inputs nodes) n).at i
