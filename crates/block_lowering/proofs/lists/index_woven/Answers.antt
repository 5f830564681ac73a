use Rattle.std.specs.Prelude.{not}
use Rattle.nd_grid.specs.Grid.{woven}
use Rattle.nd_grid.proofs.Merging.{spent-le}
use Rattle.block_lowering.proofs.ListsSteps.{weave-more}
use Rattle.block_lowering.proofs.lists.index_woven.Goals as goal

pub loop-axis-preserved : goal.loop-axis-preserved
loop-axis-preserved c = record {
  used = rw c.next_if-used.ensures (spent-le (not c.is_in_list-paired.result) c.loop-axis.used c.loop-axis.axis c.loop-axis.invariant.used);
  value = rw (c.in_ok-push.ensures.items, c.one_of.ensures, c.number_at.ensures, c.number_at-in-loop-axis.ensures, c.place_in_list-place.ensures, c.next_if-used.ensures)
      (weave-more c.args.counts.now c.args.axes.now c.args.kept.now c.args.rest.now c.loop-axis.own.items (woven 0 c.args.counts.now c.args.axes.now c.args.kept.now c.args.rest.now) c.loop-axis.axis c.loop-axis.used c.is_in_list-paired.result c.loop-axis-test.true c.is_in_list-paired.ensures c.loop-axis.invariant.value);
}
