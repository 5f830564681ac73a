use Rattle.std.proofs.Common.{◌≡◌, ◌*◌, length}
use Rattle.nd_shape.specs.Shape.{elements}
use Rattle.block_kernels.specs.Assembling.{Paints}
use Rattle.block_kernels.proofs.assemble.copy_runs.Given as goal

abbrev pub invariant-loop-r : goal.invariant-loop-r
invariant-loop-r l = record {
  room : length l.cells ≡ elements l.shape;
  painted : Paints l.from.start l.to l.shape l.source (l.r * l.run) l.initial.cells l.cells;
}
