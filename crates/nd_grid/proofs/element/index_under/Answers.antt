use Rattle.std.proofs.Common.{arith, ◌<◌, length, length-set, ◌∙◌, sym}
use Rattle.nd_grid.specs.Grid.{under}
use Rattle.nd_grid.proofs.Written.{written-none, written-more, written-all}
use Rattle.nd_grid.proofs.Under.{under-at, length-under}
use Rattle.nd_grid.proofs.element.index_under.Goals as goal

pub loop-axis-init : goal.loop-axis-init
loop-axis-init c = record { room = c.requires.room; written = written-none c.args.own.now (under c.args.dims.now c.args.index.now) }

pub loop-axis-preserved : goal.loop-axis-preserved
loop-axis-preserved c =
    let h : c.loop-axis.axis < length c.loop-axis.own = omega (arith, c.loop-axis.invariant.room) in
    record {
      room = length-set c.loop-axis.own c.loop-axis.axis c.clip.result ∙ c.loop-axis.invariant.room;
      written = written-more c.loop-axis.own (under c.args.dims.now c.args.index.now) c.loop-axis.axis c.clip.result h c.loop-axis.invariant.written
          (c.clip.ensures ∙ sym (under-at c.args.dims.now c.args.index.now c.loop-axis.axis c.requires.axes c.loop-axis-test.true));
    }

pub returns : goal.returns
returns c =
    written-all c.loop-axis.own (under c.args.dims.now c.args.index.now) c.loop-axis.axis (c.loop-axis.invariant.room ∙ sym (length-under c.args.dims.now c.args.index.now c.requires.axes)) (omega (arith, c.loop-axis.invariant.room))
    c.loop-axis.invariant.written
