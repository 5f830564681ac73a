use Rattle.std.proofs.Common.{arith}
use Rattle.block_lowering.proofs.FoldedTrees.{groups-step}
use Rattle.block_lowering.proofs.folds.groups_in.Goals as goal

pub loop-sizes-preserved : goal.loop-sizes-preserved
loop-sizes-preserved c = record {
  few = omega arith;
  counted = groups-step c.args.levels.now c.loop-sizes.sizes-index c.as_slice.result.now c.sizes-item.result c.loop-sizes.count c.loop-sizes-test.true c.sizes-item.is c.as_slice.ensures c.loop-sizes.invariant.counted;
}
