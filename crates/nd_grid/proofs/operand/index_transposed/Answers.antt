use Rattle.std.proofs.Common.{arith, sym, ap, ◌<◌, ◌∙◌, length, length-set, get_or}
use Rattle.nd_grid.specs.Grid.{turned}
use Rattle.nd_grid.proofs.Written.{written-more, written-all}
use Rattle.nd_grid.proofs.Turning.{position-below, turned-at, length-turned}
use Rattle.nd_grid.proofs.operand.index_transposed.Goals as goal

pub bounds-index-place_in_list : goal.bounds-index-place_in_list
bounds-index-place_in_list c = omega (arith, c.place_in_list.ensures, c.requires.index, position-below c.args.axes.now c.loop-axis.axis (c.requires.axes.each c.loop-axis.axis c.loop-axis-test.true))

pub offset_bounds-index-place_in_list : goal.offset_bounds-index-place_in_list
offset_bounds-index-place_in_list c = omega (arith, c.place_in_list.ensures, c.requires.few, position-below c.args.axes.now c.loop-axis.axis (c.requires.axes.each c.loop-axis.axis c.loop-axis-test.true))

pub loop-axis-preserved : goal.loop-axis-preserved
loop-axis-preserved c =
    let h : c.loop-axis.axis < length c.loop-axis.own = omega (arith, c.loop-axis.invariant.room) in
    record {
      room = length-set c.loop-axis.own c.loop-axis.axis _ ∙ c.loop-axis.invariant.room;
      written = written-more c.loop-axis.own (turned c.args.axes.now c.args.index.now) c.loop-axis.axis (get_or c.args.index.now c.place_in_list.result 0) h c.loop-axis.invariant.written
          (ap (λ p. get_or c.args.index.now p 0) c.place_in_list.ensures ∙ sym (turned-at c.args.axes.now c.args.index.now c.loop-axis.axis c.loop-axis-test.true));
    }

pub returns : goal.returns
returns c =
    written-all c.loop-axis.own (turned c.args.axes.now c.args.index.now) c.loop-axis.axis (c.loop-axis.invariant.room ∙ sym (length-turned c.args.axes.now c.args.index.now)) (omega (arith, c.loop-axis.invariant.room)) c.loop-axis.invariant.written
