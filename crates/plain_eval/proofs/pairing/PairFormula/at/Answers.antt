use Rattle.std.proofs.Common.{arith, refl, [], ◌∷◌}
use Rattle.nd_grid.proofs.Under.{under-in}
use Rattle.array_expr.specs.Elem.{array_at}
use Rattle.plain_eval.proofs.pairing.PairFormula.at.Goals as goal

pub element_under-left-requires-clause-inside : goal.element_under-left-requires-clause-inside
element_under-left-requires-clause-inside c = under-in ((array_at c.args.self.now.known.now c.args.self.now.left).shape ∷ (array_at c.args.self.now.known.now c.args.self.now.right).shape ∷ []) (array_at c.args.self.now.known.now c.args.self.now.left).shape c.args.index.now (0, omega arith, refl) c.requires.valid.agree c.requires.inside

pub element_under-right-requires-clause-inside : goal.element_under-right-requires-clause-inside
element_under-right-requires-clause-inside c = under-in ((array_at c.args.self.now.known.now c.args.self.now.left).shape ∷ (array_at c.args.self.now.known.now c.args.self.now.right).shape ∷ []) (array_at c.args.self.now.known.now c.args.self.now.right).shape c.args.index.now (1, omega arith, refl) c.requires.valid.agree c.requires.inside
