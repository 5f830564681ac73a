use Rattle.std.proofs.Common.{refl, []}
use Rattle.nd_shape.proofs.Broadcasts.{made-axes, made-lengths, made-err_two, no_axes}
use Rattle.nd_shape.proofs.broadcasting.broadcast.Goals as goal

pub made-requires-clause-axes : goal.made-requires-clause-axes
made-requires-clause-axes c = made-axes c.dims.result.now c.dims-2.result.now [] c.args.left.now c.args.right.now [] c.in_ok-dims.dims.items c.in_ok-dims.ensures.ok c.dims.ensures.dims c.dims-2.ensures.dims refl c.dims.ensures.limits c.dims-2.ensures.limits no_axes

pub made-requires-clause-lengths : goal.made-requires-clause-lengths
made-requires-clause-lengths c = made-lengths c.dims.result.now c.dims-2.result.now [] c.args.left.now c.args.right.now [] c.in_ok-dims.dims.items c.in_ok-dims.ensures.ok c.dims.ensures.dims c.dims-2.ensures.dims refl c.dims.ensures.limits c.dims-2.ensures.limits no_axes

pub returns-clause-err : goal.returns-clause-err
returns-clause-err c = made-err_two c.dims.result.now c.dims-2.result.now c.args.left.now c.args.right.now c.in_ok-dims.dims.items c.made.result c.in_ok-dims.ensures.ok c.dims.ensures.dims c.dims-2.ensures.dims c.in_ok-dims.ensures.agree c.made.ensures.err
