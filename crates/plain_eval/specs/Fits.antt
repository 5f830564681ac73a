-- What each formula asks of the arrays that it is made of.
use Rattle.std.specs.Prelude.{◌≡◌, ℕ, ◌<◌, ◌≤◌, List, [], ◌∷◌, length, map, slice_index, drop, All, ℤ, Option}
use Rattle.nd_shape.specs.declared.slice.Steps.{Steps}
use Rattle.nd_shape.specs.Broadcast.{Agree}
use Rattle.nd_shape.specs.Region.{Box, IsPart}
use Rattle.nd_grid.specs.declared.operation.Binary.TheVariants.{Mul}
use Rattle.nd_grid.specs.Operation.{combine}
use Rattle.nd_grid.specs.Grid.{Grid, SlicesFit, IsTranspose, kept_shape, folded_shape, woven}
use Rattle.array_expr.specs.Elem.{Cells, array_at}
use Rattle.array_expr.specs.Node.{AreJoinable, first_shape, CanContract}

pub record CanPair (known : List Cells) (left right : ℕ) : Type 0 where
  pub left_there : left < length known
  pub right_there : right < length known
  pub agree : Agree ((array_at known left).shape ∷ (array_at known right).shape ∷ [])

pub record CanChoose (known : List Cells) (condition first second : ℕ) : Type 0 where
  pub condition_there : condition < length known
  pub first_there : first < length known
  pub second_there : second < length known
  pub agree : Agree ((array_at known condition).shape ∷ (array_at known first).shape ∷ (array_at known second).shape ∷ [])

pub record CanTake (known : List Cells) (of : ℕ) (steps : List Steps) (dropped : List ℕ) : Type 0 where
  pub there : of < length known
  pub fits : SlicesFit 0 steps (array_at known of).shape dropped

pub record CanTurn (known : List Cells) (of : ℕ) (axes : List ℕ) : Type 0 where
  pub there : of < length known
  pub order : IsTranspose axes (length (array_at known of).shape)

pub record CanFold (known : List Cells) (of : ℕ) (axes folded : List ℕ) : Type 0 where
  pub there : of < length known
  pub folded_is : folded ≡ folded_shape 0 (array_at known of).shape axes

abbrev pub shapes_known : List Cells → List ℕ → List (List ℕ)
shapes_known known of = map (λ k. (array_at known k).shape) of

pub record CanJoin (known : List Cells) (of : List ℕ) (axis : ℕ) : Type 0 where
  pub there : All (λ k. k < length known) of
  pub joinable : AreJoinable (shapes_known known of) axis
  pub few : length (first_shape (shapes_known known of)) ≤ 8

pub record CanMultiply (known : List Cells) (left right : ℕ) (left_axes right_axes paired : List ℕ) : Type 0 where
  pub left_there : left < length known
  pub right_there : right < length known
  pub fits : CanContract (array_at known left).shape (array_at known right).shape left_axes right_axes
  pub paired_is : paired ≡ map (λ a. slice_index (array_at known left).shape a) left_axes

-- the product at an index of the result and one of the paired axes
abbrev pub product_at : List ℕ → List ℕ → Grid → Grid → List ℕ → List ℕ → Option ℤ
product_at left_axes right_axes g h i rs =
    combine Mul (g.at (woven 0 g.shape left_axes i rs)) (h.at (woven 0 h.shape right_axes (drop (length (kept_shape 0 g.shape left_axes)) i) rs))

pub record CanContractKnown (known : List Cells) (left right : ℕ) (left_axes right_axes : List ℕ) : Type 0 where
  pub left_there : left < length known
  pub right_there : right < length known
  pub fits : CanContract (array_at known left).shape (array_at known right).shape left_axes right_axes

pub record CanCut (known : List Cells) (of : ℕ) (region : Box) : Type 0 where
  pub there : of < length known
  pub inside : IsPart region (array_at known of).shape
