use Rattle.nd_grid.proofs.Slicing.{sliced-in}
use Rattle.nd_grid.proofs.plain.TakingFormula.at.Goals as goal

pub element_at-requires : goal.element_at-requires
element_at-requires c = rw c.index_sliced.ensures (sliced-in 0 c.args.self.now.steps.now c.args.self.now.of.now.shape c.args.self.now.dropped.now c.args.index.now c.requires.valid c.requires.inside)
