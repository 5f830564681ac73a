use Rattle.std.proofs.Common.{◌≡◌, ◌+◌, ◌++◌, take}
use Rattle.lowering_laws.specs.Stages.{level_tasks}
use Rattle.block_lowering.proofs.FoldedTrees.{keys_below}
use Rattle.block_lowering.proofs.folds.push_levels.Given as goal

abbrev pub invariant-loop-sizes : goal.invariant-loop-sizes
invariant-loop-sizes l = record {
  at_is : l.at ≡ l.first + keys_below (take l.sizes-index l.levels);
  tasks : l.graph ≡ l.initial.graph ++ level_tasks l.fold l.dims l.first (take l.sizes-index l.levels);
}
