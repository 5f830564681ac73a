use Rattle.nd_shape.proofs.Places.{index_at-in, place-index_at}
use Rattle.nd_shape.proofs.index.unravel.Goals as goal

pub returns-clause-inside : goal.returns-clause-inside
returns-clause-inside c = rw (c.index_of.ensures, c.dims.ensures.dims) (index_at-in c.args.shape.now c.args.position c.requires.inside)

pub returns-clause-inverse : goal.returns-clause-inverse
returns-clause-inverse c = rw (c.index_of.ensures, c.dims.ensures.dims) (place-index_at c.args.shape.now c.args.position c.requires.inside)
