use Rattle.std.proofs.Common.{◌≡◌, ◌+◌, ◌++◌, take}
use Rattle.nd_shape.specs.Chunk.{total}
use Rattle.lowering_laws.specs.Stages.{group_tasks}
use Rattle.block_lowering.proofs.folds.push_level.Given as goal

abbrev pub invariant-loop-size : goal.invariant-loop-size
invariant-loop-size l = record {
  at_is : l.at ≡ l.first + total (take l.size-index l.sizes);
  tasks : l.graph ≡ l.initial.graph ++ group_tasks l.fold l.dims l.first (take l.size-index l.sizes);
}
