use Rattle.nd_grid.proofs.Slicing.{sliced-in}
use Rattle.array_expr.specs.Elem.{array_at}
use Rattle.plain_eval.proofs.picking.TakingFormula.at.Goals as goal

pub element_of-requires-clause-inside : goal.element_of-requires-clause-inside
element_of-requires-clause-inside c = rw c.index_sliced.ensures (sliced-in 0 c.args.self.now.steps.now (array_at c.args.self.now.known.now c.args.self.now.of).shape c.args.self.now.dropped.now c.args.index.now c.requires.valid.fits c.requires.inside)
