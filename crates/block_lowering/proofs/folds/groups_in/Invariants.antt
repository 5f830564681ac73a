use Rattle.std.proofs.Common.{◌≡◌, ◌≤◌, take}
use Rattle.block_lowering.proofs.FoldedTrees.{groups_of}
use Rattle.block_lowering.proofs.folds.groups_in.Given as goal

abbrev pub invariant-loop-sizes : goal.invariant-loop-sizes
invariant-loop-sizes l = record {
  few : l.count ≤ 32768;
  counted : l.count ≡ groups_of (take l.sizes-index l.levels);
}
