use Rattle.nd_shape.proofs.Broadcasts.{made-axes, made-lengths, made-err}
use Rattle.nd_shape.proofs.broadcasting.broadcast_three.Goals as goal

pub made-requires-clause-axes : goal.made-requires-clause-axes
made-requires-clause-axes c = made-axes c.dims.result.now c.dims-2.result.now c.dims-3.result.now c.args.first.now c.args.second.now c.args.third.now c.in_ok-dims.dims.items c.in_ok-dims.ensures.ok c.dims.ensures.dims c.dims-2.ensures.dims c.dims-3.ensures.dims c.dims.ensures.limits c.dims-2.ensures.limits c.dims-3.ensures.limits

pub made-requires-clause-lengths : goal.made-requires-clause-lengths
made-requires-clause-lengths c = made-lengths c.dims.result.now c.dims-2.result.now c.dims-3.result.now c.args.first.now c.args.second.now c.args.third.now c.in_ok-dims.dims.items c.in_ok-dims.ensures.ok c.dims.ensures.dims c.dims-2.ensures.dims c.dims-3.ensures.dims c.dims.ensures.limits c.dims-2.ensures.limits c.dims-3.ensures.limits

pub returns-clause-err : goal.returns-clause-err
returns-clause-err c = made-err c.dims.result.now c.dims-2.result.now c.dims-3.result.now c.args.first.now c.args.second.now c.args.third.now c.in_ok-dims.dims.items c.made.result c.in_ok-dims.ensures.ok c.dims.ensures.dims c.dims-2.ensures.dims c.dims-3.ensures.dims c.in_ok-dims.ensures.agree c.made.ensures.err
