use Rattle.std.proofs.Common.{arith}
use Rattle.nd_grid.proofs.Slicing.{next-le}
use Rattle.plain_eval.proofs.Woven.{count_step, count_end}
use Rattle.plain_eval.proofs.weaving.kept_count.Goals as goal

pub loop-axis-preserved : goal.loop-axis-preserved
loop-axis-preserved c = record {
  few = rw c.next_used-count.ensures (next-le c.is_in_list-paired.result c.loop-axis.count c.loop-axis.axis c.loop-axis.invariant.few);
  count = rw c.next_used-count.ensures (count_step c.args.dims.now c.args.axes.now c.loop-axis.axis c.is_in_list-paired.result c.loop-axis.count _ c.loop-axis-test.true c.is_in_list-paired.ensures c.loop-axis.invariant.count);
}

pub returns : goal.returns
returns c = count_end c.args.dims.now c.args.axes.now c.loop-axis.axis c.loop-axis.count _ (omega arith) c.loop-axis.invariant.count
