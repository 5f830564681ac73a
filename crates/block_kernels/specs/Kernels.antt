-- What an operation makes of its inputs, each by one formula on grids: those by which the elements of whole arrays are
-- defined.
use Rattle.std.specs.Prelude.{ℕ, ◌+◌, ◌-◌, ◌&&◌, Bool, true, cond, nat_lt, not, List, [], ◌∷◌, ◌++◌, map, get_or, ℤ, Option, Some, None, Result, Ok, Err, slice_index_or}
use Rattle.nd_shape.specs.Block.{Array}
use Rattle.nd_shape.specs.Region.{Box, moved}
use Rattle.nd_shape.specs.declared.region.Piece.{Piece}
use Rattle.nd_grid.specs.declared.operation.Fold.{Fold}
use Rattle.nd_grid.specs.Operation.{folded}
use Rattle.nd_grid.specs.Grid.{Grid, grid_of, block_of, elementwise, chosen, sliced, sliced_shape, transposed, reduced, kept_shape, contracted, filled, ramp, part}
use Rattle.block_kernels.specs.declared.spec.Operand.{Operand}
use Rattle.block_kernels.specs.declared.spec.Operand.TheVariants.{Input, Number}
use Rattle.block_kernels.specs.declared.spec.Spec.{Spec}
use Rattle.block_kernels.specs.declared.spec.Spec.TheVariants.{Elementwise, Where, Slice, Transpose, Assemble, Reduce, Contract, Fill, Load}

abbrev pub no_grid : Grid
no_grid = record { shape = []; at = λ i. None }

-- the input at a place
abbrev pub nth : List Grid → ℕ → Grid
nth gs p = slice_index_or gs p no_grid

-- an input, or a number as an array without axes
abbrev pub operand : Operand → List Grid → Grid
operand (Input p) gs = nth gs p
operand (Number v) gs = filled [] v

-- ---- parts put together

-- an index counted from the first index of a box
abbrev pub counted : List ℕ → List ℕ → List ℕ
counted [] is = []
counted (s ∷ ss) [] = []
counted (s ∷ ss) (i ∷ is) = (i - s) ∷ counted ss is

-- the index lies in the box
abbrev pub is_within : List ℕ → List ℕ → List ℕ → Bool
is_within [] ls is = true
is_within (s ∷ ss) [] is = true
is_within (s ∷ ss) (l ∷ ls) [] = true
is_within (s ∷ ss) (l ∷ ls) (i ∷ is) = (not (nat_lt i s) && nat_lt i (s + l)) && is_within ss ls is

-- what the first piece has that covers the index
abbrev pub in_pieces : List Piece → List Grid → List ℕ → Option ℤ
in_pieces [] gs i = None
in_pieces (p ∷ ps) gs i =
    cond (is_within p.to.start p.to.lengths i) ((nth gs p.source).at (moved p.from.start (counted p.to.start i))) (in_pieces ps gs i)

abbrev pub assembled : List Piece → List ℕ → List Grid → Grid
assembled pieces shape gs = record { shape = shape; at = in_pieces pieces gs }

-- ---- folds

abbrev pub elements_at : List Grid → List ℕ → List (Option ℤ)
elements_at gs i = map (λ (g : Grid). g.at i) gs

-- within each input, then over the inputs in order; `dims` are the lengths of the first
abbrev pub reduced_all : Fold → List ℕ → List ℕ → List Grid → Grid
reduced_all fold axes dims gs = record {
  shape = kept_shape 0 dims axes;
  at = λ i. folded fold (elements_at (map (reduced fold axes) gs) i);
}

-- ---- the operations

-- a region of an input array of the job; `files` has the element of each input at each index
abbrev pub loaded : (ℕ → List ℕ → ℤ) → ℕ → Box → Grid
loaded files input box = record { shape = box.lengths; at = λ i. Some (files input (moved box.start i)) }

abbrev pub kernel : (ℕ → List ℕ → ℤ) → Spec → List Grid → Grid
kernel files (Elementwise op left right inputs shape) gs = elementwise op (operand left gs) (operand right gs)
kernel files (Where condition first second inputs shape) gs = chosen (operand condition gs) (operand first gs) (operand second gs)
kernel files (Slice steps dropped input) gs = sliced steps dropped (nth gs 0)
kernel files (Transpose axes input) gs = transposed axes (nth gs 0)
kernel files (Assemble pieces inputs shape) gs = assembled pieces shape gs
kernel files (Reduce fold axes inputs) gs = reduced_all fold axes (slice_index_or inputs 0 []) gs
kernel files (Contract left right left_axes right_axes inputs) gs = contracted left_axes right_axes (nth gs left) (nth gs right)
kernel files (Fill dims region start step) gs = part region (ramp dims start step)
kernel files (Load input region) gs = loaded files input region

-- the block, if no zero divisor is met
abbrev pub if_ok : Result Array ℕ → Option Array
if_ok (Ok a) = Some a
if_ok (Err p) = None

abbrev pub made : (ℕ → List ℕ → ℤ) → Spec → List Array → Option Array
made files spec blocks = if_ok (block_of (kernel files spec (map grid_of blocks)))

-- ---- shapes

abbrev pub input_shapes : Spec → List (List ℕ)
input_shapes (Elementwise op left right inputs shape) = inputs
input_shapes (Where condition first second inputs shape) = inputs
input_shapes (Slice steps dropped input) = input ∷ []
input_shapes (Transpose axes input) = input ∷ []
input_shapes (Assemble pieces inputs shape) = inputs
input_shapes (Reduce fold axes inputs) = inputs
input_shapes (Contract left right left_axes right_axes inputs) = inputs
input_shapes (Fill dims region start step) = []
input_shapes (Load input region) = []

abbrev pub result_shape : Spec → List ℕ
result_shape (Elementwise op left right inputs shape) = shape
result_shape (Where condition first second inputs shape) = shape
result_shape (Slice steps dropped input) = sliced_shape 0 steps dropped
result_shape (Transpose axes input) = map (λ a. get_or input a 0) axes
result_shape (Assemble pieces inputs shape) = shape
result_shape (Reduce fold axes inputs) = kept_shape 0 (slice_index_or inputs 0 []) axes
result_shape (Contract left right left_axes right_axes inputs) = kept_shape 0 (slice_index_or inputs left []) left_axes ++ kept_shape 0 (slice_index_or inputs right []) right_axes
result_shape (Fill dims region start step) = region.lengths
result_shape (Load input region) = region.lengths
