-- What each node of an expression is: its operation fits its operands, and its shape is made of theirs, by NumPy's pages
-- on broadcasting, indexing and the manipulation of arrays, and by Dask's page on arrays.
use Rattle.std.specs.Prelude.{◌≡◌, ◌≢◌, ℕ, suc, ◌+◌, ◌<◌, ◌≤◌, Bool, true, false, cond, List, [], ◌∷◌, ◌++◌, length, map, take, slice_index, slice_index_or, slice_set, slice_get, All, Option, Some, None}
use Rattle.std.specs.List.{range_with_len}
use Rattle.nd_shape.specs.declared.slice.Part.{Part}
use Rattle.nd_shape.specs.declared.slice.Part.TheVariants.{At, Range}
use Rattle.nd_shape.specs.declared.slice.Steps.{Steps}
use Rattle.nd_shape.specs.Shape.{IsShape}
use Rattle.nd_shape.specs.Broadcast.{broadcast, Agree}
use Rattle.nd_shape.specs.Slice.{Resolves, StepsFitAxis}
use Rattle.nd_grid.specs.declared.operation.Fold.{Fold}
use Rattle.nd_grid.specs.declared.operation.Fold.TheVariants.{Sum, Prod, Min, Max}
use Rattle.nd_grid.specs.Grid.{sliced_shape, kept_shape}
use Rattle.array_expr.specs.declared.op.Op.{Op}
use Rattle.array_expr.specs.declared.op.Op.TheVariants.{Input, Full, Ramp, Negate, Elementwise, Where, Slice, Transpose, Rechunk, Concatenate, Reduce, Tensordot}
use Rattle.array_expr.specs.declared.expr.Node.{Node}
use Rattle.array_expr.specs.Axes.{AreAxes, AreCut}

-- the nodes that an operation names are among the first so many
abbrev pub NamesEarlier : Op → ℕ → Type 0
NamesEarlier (Input dims chunks) count = Unit {0}
NamesEarlier (Full dims value chunks) count = Unit {0}
NamesEarlier (Ramp dims start step chunks) count = Unit {0}
NamesEarlier (Negate of) count = of < count
NamesEarlier (Elementwise op left right) count = (left < count) × (right < count)
NamesEarlier (Where condition first second) count = (condition < count) × (first < count) × (second < count)
NamesEarlier (Slice of parts) count = of < count
NamesEarlier (Transpose of axes) count = of < count
NamesEarlier (Rechunk of chunks) count = of < count
NamesEarlier (Concatenate of axis) count = All (λ k. k < count) of
NamesEarlier (Reduce fold of axes split) count = of < count
NamesEarlier (Tensordot left right left_axes right_axes) count = (left < count) × (right < count)

abbrev pub HasOperand : Op → Type 0
HasOperand (Concatenate of axis) = 0 < length of
HasOperand op = Unit {0}

-- an operation over so many nodes: it names nodes that are there, and a concatenation at least one
pub record NamesNodes (op : Op) (count : ℕ) : Type 0 where
  pub there : NamesEarlier op count
  pub some : HasOperand op

abbrev pub shapes_of : List Node → List (List ℕ)
shapes_of nodes = map (λ n. n.shape) nodes

-- the shape of node k
abbrev pub shape_at : List Node → ℕ → List ℕ
shape_at nodes k = slice_index_or (shapes_of nodes) k []

-- ---- slices

-- a part for each axis: those that are left out take the whole
abbrev pub part_on : List Part → ℕ → Part
part_on parts k = slice_index_or parts k (Range None None None)

-- what a slice takes of the first axes, each index inside its axis
pub record TakesFirst (dims : List ℕ) (parts : List Part) (taken : List Steps) : Type 0 where
  pub each : (k : ℕ) (steps : Steps) → slice_get taken k ≡ Some steps → Resolves (slice_index dims k) (part_on parts k) steps
  pub inside : (k : ℕ) (steps : Steps) → slice_get taken k ≡ Some steps → StepsFitAxis steps (slice_index dims k)

-- what a slice takes of each axis
pub record Takes (dims : List ℕ) (parts : List Part) (taken : List Steps) : Type 0 where
  pub parts_fit : length parts ≤ length dims
  pub axes : length taken ≡ length dims
  pub first : TakesFirst dims parts taken

abbrev pub is_index : Part → Bool
is_index (At index) = true
is_index (Range start stop step) = false

-- from axis k on
abbrev pub dropped_from : ℕ → List Part → List ℕ
dropped_from k [] = []
dropped_from k (part ∷ parts) = cond (is_index part) (k ∷ dropped_from (suc k) parts) (dropped_from (suc k) parts)

-- the axes for which an index was given
abbrev pub dropped : List Part → List ℕ
dropped parts = dropped_from 0 parts

-- ---- concatenations

abbrev pub first_shape : List (List ℕ) → List ℕ
first_shape shapes = slice_index_or shapes 0 []

-- the shapes are equal but for one axis, which they have
pub record AreJoinable (shapes : List (List ℕ)) (axis : ℕ) : Type 0 where
  pub axes : All (λ dims. length dims ≡ length (first_shape shapes)) shapes
  pub there : axis < length (first_shape shapes)
  pub others : (k : ℕ) → k ≢ axis → All (λ dims. slice_index dims k ≡ slice_index (first_shape shapes) k) shapes

-- the sum of their lengths on an axis
abbrev pub length_on_axis : ℕ → List (List ℕ) → ℕ
length_on_axis axis [] = 0
length_on_axis axis (dims ∷ shapes) = slice_index dims axis + length_on_axis axis shapes

abbrev pub joined : List (List ℕ) → ℕ → List ℕ
joined shapes axis = slice_set (first_shape shapes) axis (length_on_axis axis shapes)

-- ---- reductions and products

-- the axes that a reduction folds: all where none are listed
abbrev pub folded_axes : Option (List ℕ) → ℕ → List ℕ
folded_axes (Some axes) n = axes
folded_axes None n = range_with_len 0 n

abbrev pub NeedsElements : Fold → Type 0
NeedsElements Sum = ⊥
NeedsElements Prod = ⊥
NeedsElements Min = Unit {0}
NeedsElements Max = Unit {0}

-- a reduction fits: a least or greatest element is asked of axes that aren't empty, whatever the others are
pub record CanReduce (fold : Fold) (dims axes : List ℕ) (split : ℕ) : Type 0 where
  pub axes_fit : AreAxes (length dims) axes
  pub filled : NeedsElements fold → All (λ axis. slice_index dims axis ≢ 0) axes
  pub split_fits : 2 ≤ split

-- the paired axes of a product fit
pub record CanContract (left right left_axes right_axes : List ℕ) : Type 0 where
  pub left_fit : AreAxes (length left) left_axes
  pub right_fit : AreAxes (length right) right_axes
  pub number : length left_axes ≡ length right_axes
  pub pairs : (k : ℕ) → k < length left_axes → slice_index left (slice_index left_axes k) ≡ slice_index right (slice_index right_axes k)

-- ---- nodes

-- The operation fits the nodes before it, and makes this shape of theirs; `taken` is what a slice takes of each axis.
abbrev pub Makes : List Node → Op → List Steps → List ℕ → Type 0
Makes nodes (Input dims chunks) taken shape = AreCut dims chunks × (shape ≡ dims) × (taken ≡ [])
Makes nodes (Full dims value chunks) taken shape = AreCut dims chunks × (shape ≡ dims) × (taken ≡ [])
Makes nodes (Ramp dims start step chunks) taken shape = AreCut dims chunks × (shape ≡ dims) × (taken ≡ [])
Makes nodes (Negate of) taken shape = (shape ≡ shape_at nodes of) × (taken ≡ [])
Makes nodes (Elementwise op left right) taken shape =
    let shapes = shape_at nodes left ∷ shape_at nodes right ∷ [] in Agree shapes × (shape ≡ broadcast shapes) × (taken ≡ [])
Makes nodes (Where condition first second) taken shape =
    let shapes = shape_at nodes condition ∷ shape_at nodes first ∷ shape_at nodes second ∷ [] in Agree shapes × (shape ≡ broadcast shapes) × (taken ≡ [])
Makes nodes (Slice of parts) taken shape = Takes (shape_at nodes of) parts taken × (shape ≡ sliced_shape 0 taken (dropped parts))
Makes nodes (Transpose of axes) taken shape =
    AreAxes (length (shape_at nodes of)) axes × (length axes ≡ length (shape_at nodes of)) × (shape ≡ map (λ a. slice_index (shape_at nodes of) a) axes) × (taken ≡ [])
Makes nodes (Rechunk of chunks) taken shape = AreCut (shape_at nodes of) chunks × (shape ≡ shape_at nodes of) × (taken ≡ [])
Makes nodes (Concatenate of axis) taken shape =
    let shapes = map (shape_at nodes) of in AreJoinable shapes axis × (shape ≡ joined shapes axis) × (taken ≡ [])
Makes nodes (Reduce fold of axes split) taken shape =
    let dims = shape_at nodes of in CanReduce fold dims (folded_axes axes (length dims)) split × (shape ≡ kept_shape 0 dims (folded_axes axes (length dims))) × (taken ≡ [])
Makes nodes (Tensordot left right left_axes right_axes) taken shape =
    CanContract (shape_at nodes left) (shape_at nodes right) left_axes right_axes
    × (shape ≡ kept_shape 0 (shape_at nodes left) left_axes ++ kept_shape 0 (shape_at nodes right) right_axes) × (taken ≡ [])

-- what a slice takes of its operand, and nothing for other operations
abbrev pub TakesOf : List Node → Op → List Steps → Type 0
TakesOf nodes (Slice of parts) taken = Takes (shape_at nodes of) parts taken
TakesOf nodes op taken = taken ≡ []

-- a node that may follow these
pub record IsNode (nodes : List Node) (node : Node) : Type 0 where
  pub names : NamesNodes node.op (length nodes)
  pub makes : Makes nodes node.op node.taken node.shape
  pub limits : IsShape node.shape

-- each node may follow those before it
pub record IsExpression (nodes : List Node) : Type 0 where
  pub count : length nodes ≤ 65536
  pub each : (k : ℕ) (node : Node) → slice_get nodes k ≡ Some node → IsNode (take k nodes) node

-- one more node, with this operation
pub record Adds (nodes : List Node) (op : Op) (more : List Node) : Type 0 where
  pub node : Node
  pub op_is : node.op ≡ op
  pub fits : IsNode nodes node
  pub more_is : more ≡ nodes ++ node ∷ []
