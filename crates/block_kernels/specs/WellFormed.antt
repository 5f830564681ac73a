-- When an operation is well formed: what it asks of its own fields.
use Rattle.std.specs.Prelude.{◌≡◌, ◌≢◌, ℕ, ◌+◌, ◌<◌, List, [], ◌∷◌, length, map, cond, get_or, slice_index_or, All}
use Rattle.nd_shape.specs.Shape.{IsShape}
use Rattle.nd_shape.specs.Index.{IsIn}
use Rattle.nd_shape.specs.Region.{IsPart}
use Rattle.nd_shape.specs.Broadcast.{broadcast, Agree}
use Rattle.nd_shape.specs.declared.region.Piece.{Piece}
use Rattle.nd_shape.specs.declared.slice.Steps.{Steps}
use Rattle.nd_grid.specs.Grid.{SlicesFit, IsTranspose, kept_shape}
use Rattle.nd_grid.specs.declared.operation.Fold.{Fold}
use Rattle.nd_grid.specs.declared.operation.Fold.TheVariants.{Sum, Prod, Min, Max}
use Rattle.block_kernels.specs.declared.spec.Operand.{Operand}
use Rattle.block_kernels.specs.declared.spec.Spec.{Spec}
use Rattle.block_kernels.specs.declared.spec.Spec.TheVariants.{Elementwise, Where, Slice, Transpose, Assemble, Reduce, Contract, Fill, Load}
use Rattle.block_kernels.specs.Kernels.{result_shape, is_within}
use Rattle.block_kernels.specs.Inputs.{IsPlace, operand_shape}

-- the axes are among so many, none of them twice
pub record AreAxes (axes : List ℕ) (n : ℕ) : Type 0 where
  pub inside : All (λ a. a < n) axes
  pub once : (j k : ℕ) → j < k → k < length axes → slice_index_or axes j 0 ≢ slice_index_or axes k 0

-- the operands are inputs that are there, or numbers, and broadcast to the shape
pub record FitsPair (left right : Operand) (inputs : List (List ℕ)) (shape : List ℕ) : Type 0 where
  pub left_in : IsPlace left (length inputs)
  pub right_in : IsPlace right (length inputs)
  pub agree : Agree (operand_shape left inputs ∷ operand_shape right inputs ∷ [])
  pub shape_is : broadcast (operand_shape left inputs ∷ operand_shape right inputs ∷ []) ≡ shape

pub record FitsWhere (condition first second : Operand) (inputs : List (List ℕ)) (shape : List ℕ) : Type 0 where
  pub condition_in : IsPlace condition (length inputs)
  pub first_in : IsPlace first (length inputs)
  pub second_in : IsPlace second (length inputs)
  pub agree : Agree (operand_shape condition inputs ∷ operand_shape first inputs ∷ operand_shape second inputs ∷ [])
  pub shape_is : broadcast (operand_shape condition inputs ∷ operand_shape first inputs ∷ operand_shape second inputs ∷ []) ≡ shape

-- one Steps per axis, whose indexes lie in that axis; the dropped axes ascend, and each has one index
pub record FitsSlice (steps : List Steps) (dropped input : List ℕ) : Type 0 where
  pub fits : SlicesFit 0 steps input dropped
  pub dropped_in : All (λ a. a < length input) dropped
  pub ascending : (j k : ℕ) → j < k → k < length dropped → slice_index_or dropped j 0 < slice_index_or dropped k 0

-- a piece lies in its source and in the result
pub record FitsPiece (piece : Piece) (inputs : List (List ℕ)) (shape : List ℕ) : Type 0 where
  pub source_in : piece.source < length inputs
  pub source : IsPart piece.from (slice_index_or inputs piece.source [])
  pub result : IsPart piece.to shape
  pub same : piece.from.lengths ≡ piece.to.lengths

-- how many pieces cover an index of the result
abbrev pub covered : List Piece → List ℕ → ℕ
covered [] i = 0
covered (p ∷ ps) i = cond (is_within p.to.start p.to.lengths i) 1 0 + covered ps i

-- each index of the result is covered once
pub record FitsAssemble (pieces : List Piece) (inputs : List (List ℕ)) (shape : List ℕ) : Type 0 where
  pub each : All (λ p. FitsPiece p inputs shape) pieces
  pub once : (i : List ℕ) → IsIn shape i → covered pieces i ≡ 1

-- the least and the greatest of nothing isn't there
abbrev pub IsFoldable : Fold → List ℕ → List ℕ → Type 0
IsFoldable Sum axes dims = Unit {0}
IsFoldable Prod axes dims = Unit {0}
IsFoldable Min axes dims = All (λ a. slice_index_or dims a 0 ≢ 0) axes
IsFoldable Max axes dims = All (λ a. slice_index_or dims a 0 ≢ 0) axes

-- every input has the axes, and leaves the same shape as the first
pub record FitsReduce (fold : Fold) (axes : List ℕ) (inputs : List (List ℕ)) : Type 0 where
  pub some : 0 < length inputs
  pub axes_in : All (λ ns. AreAxes axes (length ns)) inputs
  pub same : All (λ ns. kept_shape 0 ns axes ≡ kept_shape 0 (slice_index_or inputs 0 []) axes) inputs
  pub foldable : All (IsFoldable fold axes) inputs

-- the axes are paired in order
pub record FitsContract (left right : ℕ) (left_axes right_axes : List ℕ) (inputs : List (List ℕ)) : Type 0 where
  pub left_in : left < length inputs
  pub right_in : right < length inputs
  pub left_axes_in : AreAxes left_axes (length (slice_index_or inputs left []))
  pub right_axes_in : AreAxes right_axes (length (slice_index_or inputs right []))
  pub paired : map (λ a. get_or (slice_index_or inputs left []) a 0) left_axes ≡ map (λ a. get_or (slice_index_or inputs right []) a 0) right_axes

abbrev pub Fits : Spec → Type 0
Fits (Elementwise op left right inputs shape) = FitsPair left right inputs shape
Fits (Where condition first second inputs shape) = FitsWhere condition first second inputs shape
Fits (Slice steps dropped input) = FitsSlice steps dropped input
Fits (Transpose axes input) = IsTranspose axes (length input)
Fits (Assemble pieces inputs shape) = FitsAssemble pieces inputs shape
Fits (Reduce fold axes inputs) = FitsReduce fold axes inputs
Fits (Contract left right left_axes right_axes inputs) = FitsContract left right left_axes right_axes inputs
Fits (Fill dims region start step) = IsPart region dims
Fits (Load input region) = Unit {0}

-- the rules of its kind, and a result that is a shape
pub record IsWellFormed (spec : Spec) : Type 0 where
  pub rules : Fits spec
  pub shape : IsShape (result_shape spec)

-- the operations that `run` makes: all but a load, which has no inputs
abbrev pub IsMade : Spec → Type 0
IsMade (Elementwise op left right inputs shape) = Unit {0}
IsMade (Where condition first second inputs shape) = Unit {0}
IsMade (Slice steps dropped input) = Unit {0}
IsMade (Transpose axes input) = Unit {0}
IsMade (Assemble pieces inputs shape) = Unit {0}
IsMade (Reduce fold axes inputs) = Unit {0}
IsMade (Contract left right left_axes right_axes inputs) = Unit {0}
IsMade (Fill dims region start step) = Unit {0}
IsMade (Load input region) = ⊥
