use Rattle.std.proofs.Common.{arith, ap, length}
use Rattle.nd_grid.proofs.Under.{under-axes}
use Rattle.array_expr.specs.Elem.{array_at}
use Rattle.plain_eval.proofs.held.element_under.Goals as goal

pub index_under-requires-clause-axes : goal.index_under-requires-clause-axes
index_under-requires-clause-axes c = omega (arith, ap length c.dims_of-dims.ensures.value, under-axes (array_at c.args.known.now c.args.node).shape c.args.index.now c.requires.inside)
