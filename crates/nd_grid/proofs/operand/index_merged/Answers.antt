use Rattle.std.proofs.Common.{arith, ◌<◌, ◌∙◌, length, length-set, take}
use Rattle.nd_grid.specs.Grid.{merged}
use Rattle.nd_grid.proofs.Slicing.{next-le}
use Rattle.nd_grid.proofs.Merging.{merge_step, spent-le, merging_written, merging_end}
use Rattle.nd_grid.proofs.operand.index_merged.Goals as goal

pub one_of-requires-clause-folded : goal.one_of-requires-clause-folded
one_of-requires-clause-folded c = (merge_step c.args.dims.now c.args.axes.now c.args.kept.now c.args.folded.now (take c.loop-axis.axis c.loop-axis.own) (merged 0 c.args.dims.now c.args.axes.now c.args.kept.now c.args.folded.now) c.loop-axis.axis c.loop-axis.used c.loop-axis.spent c.is_in_list-gone.result c.loop-axis-test.true c.is_in_list-gone.ensures c.loop-axis.invariant.merging).folded

pub one_of-requires-clause-kept : goal.one_of-requires-clause-kept
one_of-requires-clause-kept c = (merge_step c.args.dims.now c.args.axes.now c.args.kept.now c.args.folded.now (take c.loop-axis.axis c.loop-axis.own) (merged 0 c.args.dims.now c.args.axes.now c.args.kept.now c.args.folded.now) c.loop-axis.axis c.loop-axis.used c.loop-axis.spent c.is_in_list-gone.result c.loop-axis-test.true c.is_in_list-gone.ensures c.loop-axis.invariant.merging).kept

pub loop-axis-preserved : goal.loop-axis-preserved
loop-axis-preserved c =
    let room : c.loop-axis.axis < length c.loop-axis.own = omega (arith, c.loop-axis.invariant.room) in
    let st = merge_step c.args.dims.now c.args.axes.now c.args.kept.now c.args.folded.now (take c.loop-axis.axis c.loop-axis.own) (merged 0 c.args.dims.now c.args.axes.now c.args.kept.now c.args.folded.now) c.loop-axis.axis c.loop-axis.used c.loop-axis.spent c.is_in_list-gone.result c.loop-axis-test.true c.is_in_list-gone.ensures c.loop-axis.invariant.merging in
    record {
      used = rw c.next_used-used.ensures (next-le c.is_in_list-gone.result c.loop-axis.used c.loop-axis.axis c.loop-axis.invariant.used);
      spent = rw c.next_spent-spent.ensures (spent-le c.is_in_list-gone.result c.loop-axis.spent c.loop-axis.axis c.loop-axis.invariant.spent);
      room = length-set c.loop-axis.own c.loop-axis.axis c.one_of.result ∙ c.loop-axis.invariant.room;
      merging = merging_written c.args.dims.now c.args.axes.now c.args.kept.now c.args.folded.now c.loop-axis.own (merged 0 c.args.dims.now c.args.axes.now c.args.kept.now c.args.folded.now) c.loop-axis.axis c.next_used-used.result c.next_spent-spent.result c.one_of.result room
          (rw (c.next_used-used.ensures, c.next_spent-spent.ensures, c.one_of.ensures) st.next);
    }

pub returns : goal.returns
returns c =
    merging_end c.args.dims.now c.args.axes.now c.args.kept.now c.args.folded.now c.loop-axis.own (merged 0 c.args.dims.now c.args.axes.now c.args.kept.now c.args.folded.now) c.loop-axis.axis c.loop-axis.used c.loop-axis.spent (omega arith) (omega (arith, c.loop-axis.invariant.room)) c.loop-axis.invariant.merging
