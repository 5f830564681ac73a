-- Operands that are broadcast to a shape, whose rows go along all but its first axes.
use Rattle.std.specs.Prelude.{◌≡◌, ℕ, ◌-◌, ◌≤◌, List, [], ◌∷◌, length}
use Rattle.nd_shape.specs.Broadcast.{broadcast, Agree}
use Rattle.nd_shape.specs.Region.{Box, IsPart}
use Rattle.nd_grid.specs.Grid.{Grid, elementwise, chosen}
use Rattle.nd_grid.specs.declared.operation.Binary.{Binary}
use Rattle.nd_shape.specs.Block.{Array}
use Rattle.block_kernels.specs.declared.spec.Operand.{Operand}
use Rattle.block_kernels.specs.Kernels.{operand}
use Rattle.block_kernels.specs.Inputs.{grids_of}
use Rattle.block_kernels.specs.Rows.{FitsRun}

-- an operation on two operands, and the choice between two, by the blocks of a list
abbrev pub paired_at : Binary → Operand → Operand → List Array → Grid
paired_at op left right blocks = elementwise op (operand left (grids_of blocks)) (operand right (grids_of blocks))

abbrev pub chosen_at : Operand → Operand → Operand → List Array → Grid
chosen_at condition first second blocks = chosen (operand condition (grids_of blocks)) (operand first (grids_of blocks)) (operand second (grids_of blocks))

pub record CanPair (left right shape : List ℕ) (outer : ℕ) : Type 0 where
  pub agree : Agree (left ∷ right ∷ [])
  pub shape_is : broadcast (left ∷ right ∷ []) ≡ shape
  pub inside : outer ≤ length shape
  pub left_fits : FitsRun left shape outer
  pub right_fits : FitsRun right shape outer

pub record CanChoose (condition first second shape : List ℕ) (outer : ℕ) : Type 0 where
  pub agree : Agree (condition ∷ first ∷ second ∷ [])
  pub shape_is : broadcast (condition ∷ first ∷ second ∷ []) ≡ shape
  pub inside : outer ≤ length shape
  pub condition_fits : FitsRun condition shape outer
  pub first_fits : FitsRun first shape outer
  pub second_fits : FitsRun second shape outer

-- a part of a whole, a row along its last axis
pub record CanRamp (box : Box) (whole shape : List ℕ) (outer : ℕ) : Type 0 where
  pub part : IsPart box whole
  pub shape_is : box.lengths ≡ shape
  pub outer_is : outer ≡ length shape - 1
