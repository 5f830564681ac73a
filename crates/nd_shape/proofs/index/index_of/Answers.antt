use Rattle.std.proofs.Common.{arith, ◌<◌, length}
use Rattle.nd_shape.proofs.Places.{unfolded}
use Rattle.nd_shape.proofs.index.index_of.Goals as goal

pub loop-axis-preserved : goal.loop-axis-preserved
loop-axis-preserved c =
    let in_index : c.loop-axis.axis < length c.loop-axis.index = omega arith in
    let u = unfolded c.args.dims.now c.loop-axis.index _ c.loop-axis.axis c.loop-axis.left c.loop-axis.row c.loop-axis-test.true in_index c.loop-axis.invariant.row c.loop-axis.invariant.inside c.loop-axis.invariant.index in
    record { row = u.row_is; inside = u.inside; index = u.index }
