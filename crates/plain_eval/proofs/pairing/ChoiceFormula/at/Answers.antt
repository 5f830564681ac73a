use Rattle.std.proofs.Common.{arith, refl, [], ◌∷◌}
use Rattle.nd_grid.proofs.Under.{under-in}
use Rattle.array_expr.specs.Elem.{array_at}
use Rattle.plain_eval.proofs.pairing.ChoiceFormula.at.Goals as goal

pub element_under-condition-requires-clause-inside : goal.element_under-condition-requires-clause-inside
element_under-condition-requires-clause-inside c = under-in ((array_at c.args.self.now.known.now c.args.self.now.condition).shape ∷ (array_at c.args.self.now.known.now c.args.self.now.first).shape ∷ (array_at c.args.self.now.known.now c.args.self.now.second).shape ∷ []) (array_at c.args.self.now.known.now c.args.self.now.condition).shape c.args.index.now (0, omega arith, refl) c.requires.valid.agree c.requires.inside

pub element_under-first-requires-clause-inside : goal.element_under-first-requires-clause-inside
element_under-first-requires-clause-inside c = under-in ((array_at c.args.self.now.known.now c.args.self.now.condition).shape ∷ (array_at c.args.self.now.known.now c.args.self.now.first).shape ∷ (array_at c.args.self.now.known.now c.args.self.now.second).shape ∷ []) (array_at c.args.self.now.known.now c.args.self.now.first).shape c.args.index.now (1, omega arith, refl) c.requires.valid.agree c.requires.inside

pub element_under-second-requires-clause-inside : goal.element_under-second-requires-clause-inside
element_under-second-requires-clause-inside c = under-in ((array_at c.args.self.now.known.now c.args.self.now.condition).shape ∷ (array_at c.args.self.now.known.now c.args.self.now.first).shape ∷ (array_at c.args.self.now.known.now c.args.self.now.second).shape ∷ []) (array_at c.args.self.now.known.now c.args.self.now.second).shape c.args.index.now (2, omega arith, refl) c.requires.valid.agree c.requires.inside
