use Rattle.std.proofs.Common.{arith}
use Rattle.std.proofs.lemmas.Result.{err_from_is_err_and}
use Rattle.nd_shape.proofs.Totals.{total-more}
use Rattle.block_lowering.proofs.FoldedTrees.{group-refused, group-pushed}
use Rattle.block_lowering.proofs.folds.push_level.Goals as goal

pub returns-in_err-push_task-clause-err : goal.returns-in_err-push_task-clause-err
returns-in_err-push_task-clause-err c =
    let p = err_from_is_err_and c.from_residual-in_err-push_task.result c.from_residual-in_err-push_task.ensures.1 in
    rw (p.1, p.2)
    (group-refused c.args.graph.now c.loop-size.graph c.args.fold c.args.dims.now c.args.first c.loop-size.at c.args.sizes.now c.loop-size.size-index c.in_ok-task.task c.in_err-push_task.field-0.0 c.loop-size-test.true c.loop-size.invariant.at_is c.loop-size.invariant.tasks c.in_ok-task.ensures.task c.in_err-push_task.ensures.err)

pub loop-size-preserved : goal.loop-size-preserved
loop-size-preserved c = record {
  at_is = omega (arith, c.loop-size.invariant.at_is, total-more c.args.sizes.now c.loop-size.size-index c.loop-size-test.true);
  tasks = group-pushed c.args.graph.now c.loop-size.graph c.push_task.new.graph c.args.fold c.args.dims.now c.args.first c.loop-size.at c.args.sizes.now c.loop-size.size-index c.in_ok-task.task c.loop-size-test.true c.loop-size.invariant.at_is c.loop-size.invariant.tasks c.in_ok-task.ensures.task c.in_ok-push_task.ensures.ok;
}
