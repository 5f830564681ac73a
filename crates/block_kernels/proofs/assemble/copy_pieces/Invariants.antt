use Rattle.std.proofs.Common.{◌≡◌, ◌≤◌, length, drop}
use Rattle.nd_shape.specs.Shape.{elements}
use Rattle.block_kernels.specs.Inputs.{blocks_of, grids_of}
use Rattle.block_kernels.specs.Assembling.{Painted}
use Rattle.block_kernels.proofs.assemble.copy_pieces.Given as goal

abbrev pub invariant-loop-left : goal.invariant-loop-left
invariant-loop-left l = record {
  inside : l.left ≤ length l.pieces;
  room : length l.cells ≡ elements l.shape;
  painted : Painted (drop l.left l.pieces) (grids_of (blocks_of l.inputs)) l.shape l.cells;
}

abbrev pub decreases-loop-left : goal.decreases-loop-left
decreases-loop-left l = l.left
