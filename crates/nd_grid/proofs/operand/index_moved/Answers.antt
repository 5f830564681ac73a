use Rattle.std.proofs.Common.{arith, sym, ◌+◌, ◌<◌, ◌∙◌, length, length-set, get_or}
use Rattle.nd_shape.specs.Region.{moved}
use Rattle.nd_grid.proofs.Written.{written-more, written-all}
use Rattle.nd_grid.proofs.Turning.{moved-at, length-moved}
use Rattle.nd_grid.proofs.operand.index_moved.Goals as goal

pub loop-axis-preserved : goal.loop-axis-preserved
loop-axis-preserved c =
    let h : c.loop-axis.axis < length c.loop-axis.own = omega (arith, c.loop-axis.invariant.room) in
    let hi : c.loop-axis.axis < length c.args.index.now = omega (arith, c.requires.index) in
    record {
      room = length-set c.loop-axis.own c.loop-axis.axis _ ∙ c.loop-axis.invariant.room;
      written = written-more c.loop-axis.own (moved c.args.starts.now c.args.index.now) c.loop-axis.axis (get_or c.args.starts.now c.loop-axis.axis 0 + get_or c.args.index.now c.loop-axis.axis 0) h c.loop-axis.invariant.written
          (sym (moved-at c.args.starts.now c.args.index.now c.loop-axis.axis c.loop-axis-test.true hi));
    }

pub returns : goal.returns
returns c =
    written-all c.loop-axis.own (moved c.args.starts.now c.args.index.now) c.loop-axis.axis (c.loop-axis.invariant.room ∙ sym (length-moved c.args.starts.now c.args.index.now c.requires.index)) (omega (arith, c.loop-axis.invariant.room))
    c.loop-axis.invariant.written
