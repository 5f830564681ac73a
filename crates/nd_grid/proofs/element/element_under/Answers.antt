use Rattle.std.proofs.Common.{arith, ap, length}
use Rattle.nd_grid.proofs.Under.{under-axes}
use Rattle.nd_grid.proofs.element.element_under.Goals as goal

pub index_under-requires-clause-axes : goal.index_under-requires-clause-axes
index_under-requires-clause-axes c = omega (arith, ap length c.dims-dims.ensures.dims, ap length c.shape.ensures.value, under-axes c.args.block.now.shape c.args.index.now c.requires)
