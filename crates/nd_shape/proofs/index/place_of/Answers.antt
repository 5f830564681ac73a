use Rattle.std.proofs.Common.{arith}
use Rattle.nd_shape.proofs.Places.{along-fits}
use Rattle.nd_shape.proofs.index.place_of.Goals as goal

pub overflow_mul-at : goal.overflow_mul-at
overflow_mul-at c =
    omega (arith, along-fits c.args.dims.now c.args.index.now c.loop-axis.axis c.loop-axis.at c.requires.small c.requires.inside c.loop-axis-test.true c.loop-axis.invariant.rest c.loop-axis.invariant.value)

pub overflow_add-at : goal.overflow_add-at
overflow_add-at c =
    omega (arith, along-fits c.args.dims.now c.args.index.now c.loop-axis.axis c.loop-axis.at c.requires.small c.requires.inside c.loop-axis-test.true c.loop-axis.invariant.rest c.loop-axis.invariant.value)
