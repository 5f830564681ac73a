use Rattle.std.proofs.Common.{arith, ◌+◌, ◌^◌}
use Rattle.nd_shape.proofs.Elements.{elements-more}
use Rattle.nd_shape.proofs.shape.elements_up_to_limit.Goals as goal

pub loop-len-preserved : goal.loop-len-preserved
loop-len-preserved c =
    let e = elements-more (2 ^ 31 + 1) c.args.lengths.now c.loop-len.len-index (omega arith) c.loop-len-test.true in
    rw (c.min-count.ensures, c.loop-len.invariant, c.min.ensures) e
