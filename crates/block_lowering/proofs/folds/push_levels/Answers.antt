use Rattle.std.proofs.lemmas.Result.{err_from_is_err_and}
use Rattle.block_lowering.proofs.FoldedTrees.{level-refused, level-pushed, level-start}
use Rattle.block_lowering.proofs.folds.push_levels.Goals as goal

pub returns-in_err-at-clause-err : goal.returns-in_err-at-clause-err
returns-in_err-at-clause-err c =
    let p = err_from_is_err_and c.from_residual.result c.from_residual.ensures.1 in
    rw (p.1, p.2)
    (level-refused c.args.graph.now c.loop-sizes.graph c.args.fold c.args.dims.now c.args.first c.loop-sizes.at c.args.levels.now c.loop-sizes.sizes-index c.as_slice.result.now c.sizes-item.result c.in_err-at.field-0.0 c.loop-sizes-test.true c.loop-sizes.invariant.at_is c.loop-sizes.invariant.tasks c.sizes-item.is c.as_slice.ensures c.in_err-at.ensures.err)

pub loop-sizes-preserved : goal.loop-sizes-preserved
loop-sizes-preserved c = record {
  at_is = level-start c.args.first c.loop-sizes.at c.in_ok-at.at c.args.levels.now c.loop-sizes.sizes-index c.as_slice.result.now c.sizes-item.result c.loop-sizes-test.true c.loop-sizes.invariant.at_is c.sizes-item.is c.as_slice.ensures c.in_ok-at.ensures.end;
  tasks = level-pushed c.args.graph.now c.loop-sizes.graph c.push_level.new.graph c.args.fold c.args.dims.now c.args.first c.loop-sizes.at c.args.levels.now c.loop-sizes.sizes-index c.as_slice.result.now c.sizes-item.result c.loop-sizes-test.true c.loop-sizes.invariant.at_is c.loop-sizes.invariant.tasks c.sizes-item.is c.as_slice.ensures c.in_ok-at.ensures.ok;
}
