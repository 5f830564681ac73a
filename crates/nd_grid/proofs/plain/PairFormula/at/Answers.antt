use Rattle.std.proofs.Common.{arith, refl, [], ◌∷◌}
use Rattle.nd_grid.proofs.Under.{under-in}
use Rattle.nd_grid.proofs.plain.PairFormula.at.Goals as goal

pub element_under-left-requires : goal.element_under-left-requires
element_under-left-requires c = under-in (c.args.self.now.left.now.shape ∷ c.args.self.now.right.now.shape ∷ []) c.args.self.now.left.now.shape c.args.index.now (0, omega arith, refl) c.requires.valid c.requires.inside

pub element_under-right-requires : goal.element_under-right-requires
element_under-right-requires c = under-in (c.args.self.now.left.now.shape ∷ c.args.self.now.right.now.shape ∷ []) c.args.self.now.right.now.shape c.args.index.now (1, omega arith, refl) c.requires.valid c.requires.inside
