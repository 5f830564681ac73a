use Rattle.std.proofs.Common.{arith}
use Rattle.block_lowering.proofs.Standing.{short-more, short-all}
use Rattle.block_lowering.proofs.layouts.shortened.Goals as goal

pub loop-axis-init : goal.loop-axis-init
loop-axis-init c = λ rest h. rw c.in_ok-axes.ensures.items h

pub loop-axis-preserved : goal.loop-axis-preserved
loop-axis-preserved c = λ rest h.
    rw c.in_ok-push.ensures.items
    (short-more c.args.dims.now c.args.specs.now c.loop-axis.axis c.index-specs-axis.result c.loop-axis.axes.items c.in_ok-short_axis.field-0 (omega arith) (omega arith) c.index-specs-axis.is c.in_ok-short_axis.ensures
    c.loop-axis.invariant rest h)

pub returns : goal.returns
returns c = λ more.
    short-all c.args.dims.now c.args.specs.now c.loop-axis.axis c.loop-axis.axes.items c.in_ok-layout.layout c.loop-axis.invariant (omega arith) c.in_ok-layout.ensures c.axes.ensures.sound.cuts more
