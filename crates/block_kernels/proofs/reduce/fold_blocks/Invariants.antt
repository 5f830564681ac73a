use Rattle.std.proofs.Common.{◌≡◌, ℕ, ◌<◌, length, take, map, get_or, pos, Some}
use Rattle.nd_shape.specs.Shape.{elements}
use Rattle.nd_shape.specs.Index.{index_at}
use Rattle.nd_grid.specs.Operation.{folded}
use Rattle.nd_grid.specs.Grid.{grid_of, reduced}
use Rattle.block_kernels.specs.Kernels.{elements_at}
use Rattle.block_kernels.specs.Inputs.{blocks_of}
use Rattle.block_kernels.proofs.reduce.fold_blocks.Given as goal

abbrev pub invariant-loop-block : goal.invariant-loop-block
invariant-loop-block l = record {
  room : length l.totals ≡ elements l.shape;
  at : (p : ℕ) → p < elements l.shape → folded l.fold (elements_at (map (reduced l.fold l.axes) (map grid_of (blocks_of (take l.block-index l.blocks)))) (index_at l.shape p)) ≡ Some (get_or l.totals p (pos 0));
}
