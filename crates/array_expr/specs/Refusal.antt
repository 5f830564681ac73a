-- Why an operation isn't taken as a node, in the order in which the causes are looked at.
use Rattle.std.specs.Prelude.{◌≡◌, ◌≢◌, ℕ, ◌<◌, ◌⊎◌, min, ◌≤◌, ◌^◌, List, [], ◌∷◌, ◌++◌, length, map, take, slice_index, slice_get, All, Some}
use Rattle.nd_shape.specs.declared.slice.Part.{Part}
use Rattle.nd_shape.specs.declared.slice.Steps.{Steps}
use Rattle.nd_shape.specs.declared.chunk.ChunkSpec.{ChunkSpec}
use Rattle.nd_shape.specs.declared.error.ShapeError.{ShapeError}
use Rattle.nd_shape.specs.declared.error.ShapeError.TheVariants.{Misfit, BadAxis, EmptyReduce, TooManyParts, BadSplit}
use Rattle.nd_shape.specs.declared.shape.ShapeLimit.TheVariants.{Axes as AxesLimit, Elements as ElementsLimit}
use Rattle.nd_shape.specs.Shape.{IsShape, elements}
use Rattle.nd_shape.specs.Limits.{IsPassed}
use Rattle.nd_shape.specs.Broadcast.{broadcast, Agree, IsMisfit}
use Rattle.nd_shape.specs.Slice.{RefusesPart}
use Rattle.nd_grid.specs.declared.operation.Fold.{Fold}
use Rattle.nd_grid.specs.Grid.{sliced_shape, kept_shape}
use Rattle.array_expr.specs.declared.op.Op.{Op}
use Rattle.array_expr.specs.declared.op.Op.TheVariants.{Input, Full, Ramp, Negate, Elementwise, Where, Slice, Transpose, Rechunk, Concatenate, Reduce, Tensordot}
use Rattle.array_expr.specs.declared.expr.Node.{Node}
use Rattle.array_expr.specs.declared.error.Quantity.{Quantity}
use Rattle.array_expr.specs.declared.error.Quantity.TheVariants.{Nodes, Axes, Elements}
use Rattle.array_expr.specs.declared.error.NodeError.{NodeError}
use Rattle.array_expr.specs.declared.error.NodeError.TheVariants.{Shape, Chunks, Limit, OutOfMemory}
use Rattle.array_expr.specs.Axes.{AreAxes, IsFirstBadAxis, IsLeastIn, RefusesCut}
use Rattle.array_expr.specs.Node.{shape_at, part_on, TakesFirst, Takes, dropped, first_shape, AreJoinable, joined, folded_axes, NeedsElements, CanReduce, CanContract}

-- a list of lengths passes a limit; the axes are looked at first
abbrev pub PassesLimit : Quantity → List ℕ → Type 0
PassesLimit Nodes dims = ⊥
PassesLimit Axes dims = IsPassed AxesLimit dims
PassesLimit Elements dims = IsPassed ElementsLimit dims

-- ---- arrays without operands: their limits, then their chunks

abbrev pub RefusesLeaf : List ℕ → List ChunkSpec → NodeError → Type 0
RefusesLeaf dims chunks (Shape e) = ⊥
RefusesLeaf dims chunks (Chunks e) = IsShape dims × RefusesCut dims chunks e
RefusesLeaf dims chunks (Limit quantity) = PassesLimit quantity dims
RefusesLeaf dims chunks OutOfMemory = Unit {0}

abbrev pub RefusesRechunk : List ℕ → List ChunkSpec → NodeError → Type 0
RefusesRechunk dims chunks (Shape e) = ⊥
RefusesRechunk dims chunks (Chunks e) = RefusesCut dims chunks e
RefusesRechunk dims chunks (Limit quantity) = ⊥
RefusesRechunk dims chunks OutOfMemory = Unit {0}

abbrev pub RefusesNothing : NodeError → Type 0
RefusesNothing OutOfMemory = Unit {0}
RefusesNothing e = ⊥

-- ---- element by element

abbrev pub IsMisfitOf : List (List ℕ) → ShapeError → Type 0
IsMisfitOf shapes (Misfit axis left right) = IsMisfit shapes axis left right
IsMisfitOf shapes e = ⊥

abbrev pub RefusesPairing : List (List ℕ) → NodeError → Type 0
RefusesPairing shapes (Shape e) = IsMisfitOf shapes e
RefusesPairing shapes (Limit Elements) = Agree shapes × (2 ^ 31 < elements (broadcast shapes))
RefusesPairing shapes (Limit Axes) = ⊥
RefusesPairing shapes (Limit Nodes) = ⊥
RefusesPairing shapes (Chunks e) = ⊥
RefusesPairing shapes OutOfMemory = Unit {0}

-- ---- slices: the number of parts, then the parts from the left

-- the first part that Python refuses, after what the earlier ones take
pub record IsFirstBadPart (dims : List ℕ) (parts : List Part) (e : ShapeError) : Type 0 where
  pub taken : List Steps
  pub enough : length parts ≤ length dims
  pub inside : length taken < length parts
  pub before : TakesFirst dims parts taken
  pub here : RefusesPart (slice_index dims (length taken)) (part_on parts (length taken)) e

abbrev pub RefusesParts : List ℕ → List Part → ShapeError → Type 0
RefusesParts dims parts (TooManyParts given axes) = (given ≡ length parts) × (axes ≡ length dims) × (axes < given)
RefusesParts dims parts e = IsFirstBadPart dims parts e

pub record PassesSliced (dims : List ℕ) (parts : List Part) (quantity : Quantity) : Type 0 where
  pub taken : List Steps
  pub takes : Takes dims parts taken
  pub passed : PassesLimit quantity (sliced_shape 0 taken (dropped parts))

abbrev pub RefusesSlice : List ℕ → List Part → NodeError → Type 0
RefusesSlice dims parts (Shape e) = RefusesParts dims parts e
RefusesSlice dims parts (Limit quantity) = PassesSliced dims parts quantity
RefusesSlice dims parts (Chunks e) = ⊥
RefusesSlice dims parts OutOfMemory = Unit {0}

-- ---- transposes: the first axis at fault, or the number of those that are listed

abbrev pub RefusesOrder : List ℕ → List ℕ → ShapeError → Type 0
RefusesOrder dims axes (BadAxis axis) =
    IsFirstBadAxis (length dims) axes axis ⊎ (AreAxes (length dims) axes × (length axes ≢ length dims) × (axis ≡ length axes))
RefusesOrder dims axes e = ⊥

abbrev pub RefusesTranspose : List ℕ → List ℕ → NodeError → Type 0
RefusesTranspose dims axes (Shape e) = RefusesOrder dims axes e
RefusesTranspose dims axes (Limit quantity) = AreAxes (length dims) axes × (length axes ≡ length dims) × PassesLimit quantity (map (λ a. slice_index dims a) axes)
RefusesTranspose dims axes (Chunks e) = ⊥
RefusesTranspose dims axes OutOfMemory = Unit {0}

-- ---- concatenations: the numbers of axes, the axis, the lengths

-- the first shape of which something else is seen than this
pub record IsFirstOther (see : List ℕ → ℕ) (shapes : List (List ℕ)) (left right : ℕ) : Type 0 where
  pub at : ℕ
  pub other : List ℕ
  pub is : slice_get shapes at ≡ Some other
  pub right_is : right ≡ see other
  pub differs : right ≢ left
  pub before : All (λ dims. see dims ≡ left) (take at shapes)

-- the first operand with another number of axes than the first one
pub record IsOtherNumber (shapes : List (List ℕ)) (left right : ℕ) : Type 0 where
  pub left_is : left ≡ length (first_shape shapes)
  pub first : IsFirstOther (λ dims. length dims) shapes left right

-- the first other axis on which an operand differs from the first one, and the first that does there
pub record IsOtherLength (shapes : List (List ℕ)) (axis bad left right : ℕ) : Type 0 where
  pub axes : All (λ dims. length dims ≡ length (first_shape shapes)) shapes
  pub there : axis < length (first_shape shapes)
  pub other_axis : bad ≢ axis
  pub bad_there : bad < length (first_shape shapes)
  pub axes_before : (k : ℕ) → k < bad → k ≢ axis → All (λ dims. slice_index dims k ≡ slice_index (first_shape shapes) k) shapes
  pub left_is : left ≡ slice_index (first_shape shapes) bad
  pub first : IsFirstOther (λ dims. slice_index dims bad) shapes left right

pub record IsNoCommonAxis (shapes : List (List ℕ)) (axis : ℕ) : Type 0 where
  pub axes : All (λ dims. length dims ≡ length (first_shape shapes)) shapes
  pub outside : length (first_shape shapes) ≤ axis

abbrev pub RefusesJoin : List (List ℕ) → ℕ → ShapeError → Type 0
RefusesJoin shapes axis (Misfit bad left right) = ((bad ≡ 0) × IsOtherNumber shapes left right) ⊎ IsOtherLength shapes axis bad left right
RefusesJoin shapes axis (BadAxis bad) = (bad ≡ axis) × IsNoCommonAxis shapes axis
RefusesJoin shapes axis e = ⊥

abbrev pub RefusesConcatenate : List (List ℕ) → ℕ → NodeError → Type 0
RefusesConcatenate shapes axis (Shape e) = RefusesJoin shapes axis e
RefusesConcatenate shapes axis (Limit quantity) = AreJoinable shapes axis × PassesLimit quantity (joined shapes axis)
RefusesConcatenate shapes axis (Chunks e) = ⊥
RefusesConcatenate shapes axis OutOfMemory = Unit {0}

-- ---- reductions: the axes, the least empty one, the split

pub record IsLeastEmpty (fold : Fold) (dims axes : List ℕ) (axis : ℕ) : Type 0 where
  pub axes_fit : AreAxes (length dims) axes
  pub needs : NeedsElements fold
  pub least : IsLeastIn dims axes axis

pub record IsBadSplit (fold : Fold) (dims axes : List ℕ) (split : ℕ) : Type 0 where
  pub axes_fit : AreAxes (length dims) axes
  pub filled : NeedsElements fold → All (λ axis. slice_index dims axis ≢ 0) axes
  pub small : split < 2

abbrev pub RefusesFold : Fold → List ℕ → List ℕ → ℕ → ShapeError → Type 0
RefusesFold fold dims axes split (BadAxis axis) = IsFirstBadAxis (length dims) axes axis
RefusesFold fold dims axes split (EmptyReduce axis) = IsLeastEmpty fold dims axes axis
RefusesFold fold dims axes split (BadSplit given) = (given ≡ split) × IsBadSplit fold dims axes split
RefusesFold fold dims axes split e = ⊥

abbrev pub RefusesReduce : Fold → List ℕ → List ℕ → ℕ → NodeError → Type 0
RefusesReduce fold dims axes split (Shape e) = RefusesFold fold dims axes split e
RefusesReduce fold dims axes split (Limit quantity) = CanReduce fold dims axes split × PassesLimit quantity (kept_shape 0 dims axes)
RefusesReduce fold dims axes split (Chunks e) = ⊥
RefusesReduce fold dims axes split OutOfMemory = Unit {0}

-- ---- products: the first list, the second, their numbers, then the lengths pair by pair

-- the lists have axes of their operands, and different numbers of them
pub record IsOtherCount (left right left_axes right_axes : List ℕ) (axis : ℕ) : Type 0 where
  pub left_fit : AreAxes (length left) left_axes
  pub right_fit : AreAxes (length right) right_axes
  pub differs : length left_axes ≢ length right_axes
  pub axis_is : axis ≡ min (length left_axes) (length right_axes)

-- the first pair of different lengths
pub record IsUnequalPair (left right left_axes right_axes : List ℕ) (place here there : ℕ) : Type 0 where
  pub left_fit : AreAxes (length left) left_axes
  pub right_fit : AreAxes (length right) right_axes
  pub number : length left_axes ≡ length right_axes
  pub inside : place < length left_axes
  pub before : (k : ℕ) → k < place → slice_index left (slice_index left_axes k) ≡ slice_index right (slice_index right_axes k)
  pub here_is : here ≡ slice_index left (slice_index left_axes place)
  pub there_is : there ≡ slice_index right (slice_index right_axes place)
  pub differs : here ≢ there

pub record IsBadRight (left right left_axes right_axes : List ℕ) (axis : ℕ) : Type 0 where
  pub left_fit : AreAxes (length left) left_axes
  pub right_bad : IsFirstBadAxis (length right) right_axes axis

abbrev pub RefusesContraction : List ℕ → List ℕ → List ℕ → List ℕ → ShapeError → Type 0
RefusesContraction left right left_axes right_axes (BadAxis axis) =
    IsFirstBadAxis (length left) left_axes axis ⊎ (IsBadRight left right left_axes right_axes axis ⊎ IsOtherCount left right left_axes right_axes axis)
RefusesContraction left right left_axes right_axes (Misfit place here there) = IsUnequalPair left right left_axes right_axes place here there
RefusesContraction left right left_axes right_axes e = ⊥

abbrev pub RefusesTensordot : List ℕ → List ℕ → List ℕ → List ℕ → NodeError → Type 0
RefusesTensordot left right left_axes right_axes (Shape e) = RefusesContraction left right left_axes right_axes e
RefusesTensordot left right left_axes right_axes (Limit quantity) =
    CanContract left right left_axes right_axes × PassesLimit quantity (kept_shape 0 left left_axes ++ kept_shape 0 right right_axes)
RefusesTensordot left right left_axes right_axes (Chunks e) = ⊥
RefusesTensordot left right left_axes right_axes OutOfMemory = Unit {0}

-- ---- nodes

abbrev pub RefusesOp : List Node → Op → NodeError → Type 0
RefusesOp nodes (Input dims chunks) e = RefusesLeaf dims chunks e
RefusesOp nodes (Full dims value chunks) e = RefusesLeaf dims chunks e
RefusesOp nodes (Ramp dims start step chunks) e = RefusesLeaf dims chunks e
RefusesOp nodes (Negate of) e = RefusesNothing e
RefusesOp nodes (Elementwise op left right) e = RefusesPairing (shape_at nodes left ∷ shape_at nodes right ∷ []) e
RefusesOp nodes (Where condition first second) e = RefusesPairing (shape_at nodes condition ∷ shape_at nodes first ∷ shape_at nodes second ∷ []) e
RefusesOp nodes (Slice of parts) e = RefusesSlice (shape_at nodes of) parts e
RefusesOp nodes (Transpose of axes) e = RefusesTranspose (shape_at nodes of) axes e
RefusesOp nodes (Rechunk of chunks) e = RefusesRechunk (shape_at nodes of) chunks e
RefusesOp nodes (Concatenate of axis) e = RefusesConcatenate (map (shape_at nodes) of) axis e
RefusesOp nodes (Reduce fold of axes split) e = RefusesReduce fold (shape_at nodes of) (folded_axes axes (length (shape_at nodes of))) split e
RefusesOp nodes (Tensordot left right left_axes right_axes) e = RefusesTensordot (shape_at nodes left) (shape_at nodes right) left_axes right_axes e

-- there is room for one more node, and the operation doesn't fit
pub record IsRefused (nodes : List Node) (op : Op) (e : NodeError) : Type 0 where
  pub room : length nodes < 65536
  pub cause : RefusesOp nodes op e

-- the number of nodes is looked at first
abbrev pub Refuses : List Node → Op → NodeError → Type 0
Refuses nodes op (Shape e) = IsRefused nodes op (Shape e)
Refuses nodes op (Chunks e) = IsRefused nodes op (Chunks e)
Refuses nodes op (Limit Nodes) = 65536 ≤ length nodes
Refuses nodes op (Limit Axes) = IsRefused nodes op (Limit Axes)
Refuses nodes op (Limit Elements) = IsRefused nodes op (Limit Elements)
Refuses nodes op OutOfMemory = Unit {0}
