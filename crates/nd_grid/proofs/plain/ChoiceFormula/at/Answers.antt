use Rattle.std.proofs.Common.{arith, refl, [], ◌∷◌}
use Rattle.nd_grid.proofs.Under.{under-in}
use Rattle.nd_grid.proofs.plain.ChoiceFormula.at.Goals as goal

pub element_under-condition-requires : goal.element_under-condition-requires
element_under-condition-requires c = under-in (c.args.self.now.condition.now.shape ∷ c.args.self.now.yes.now.shape ∷ c.args.self.now.no.now.shape ∷ []) c.args.self.now.condition.now.shape c.args.index.now (0, omega arith, refl) c.requires.valid c.requires.inside

pub element_under-yes-requires : goal.element_under-yes-requires
element_under-yes-requires c = under-in (c.args.self.now.condition.now.shape ∷ c.args.self.now.yes.now.shape ∷ c.args.self.now.no.now.shape ∷ []) c.args.self.now.yes.now.shape c.args.index.now (1, omega arith, refl) c.requires.valid c.requires.inside

pub element_under-no-requires : goal.element_under-no-requires
element_under-no-requires c = under-in (c.args.self.now.condition.now.shape ∷ c.args.self.now.yes.now.shape ∷ c.args.self.now.no.now.shape ∷ []) c.args.self.now.no.now.shape c.args.index.now (2, omega arith, refl) c.requires.valid c.requires.inside
