use Rattle.std.specs.Prelude.{not}
use Rattle.nd_grid.specs.Grid.{merged}
use Rattle.nd_grid.proofs.Merging.{spent-le}
use Rattle.block_lowering.proofs.ListsSteps.{merge-more}
use Rattle.block_lowering.proofs.lists.index_merged.Goals as goal

pub loop-axis-preserved : goal.loop-axis-preserved
loop-axis-preserved c = record {
  used = rw c.next_if-used.ensures (spent-le (not c.is_in_list-gone.result) c.loop-axis.used c.loop-axis.axis c.loop-axis.invariant.used);
  spent = rw c.next_if-spent.ensures (spent-le c.is_in_list-gone.result c.loop-axis.spent c.loop-axis.axis c.loop-axis.invariant.spent);
  value = rw (c.in_ok-push.ensures.items, c.one_of.ensures, c.number_at.ensures, c.number_at-in-loop-axis.ensures, c.next_if-used.ensures, c.next_if-spent.ensures)
      (merge-more c.args.counts.now c.args.axes.now c.args.kept.now c.args.folded.now c.loop-axis.own.items (merged 0 c.args.counts.now c.args.axes.now c.args.kept.now c.args.folded.now) c.loop-axis.axis c.loop-axis.used c.loop-axis.spent c.is_in_list-gone.result c.loop-axis-test.true c.is_in_list-gone.ensures c.loop-axis.invariant.value);
}
