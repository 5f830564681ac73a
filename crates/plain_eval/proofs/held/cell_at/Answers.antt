use Rattle.nd_shape.proofs.Places.{index_at-in}
use Rattle.plain_eval.proofs.held.cell_at.Goals as goal

pub at-requires-clause-inside : goal.at-requires-clause-inside
at-requires-clause-inside g c = rw (c.requires.same, c.unravel.ensures.index) (index_at-in c.args.shape.now c.args.position c.requires.inside)
