use Rattle.nd_shape.proofs.Places.{place-below, index_at-place}
use Rattle.nd_shape.proofs.index.ravel.Goals as goal

pub returns-clause-inside : goal.returns-clause-inside
returns-clause-inside c = rw (c.place_of.ensures, c.dims.ensures.dims) (place-below c.args.shape.now c.args.index.now c.requires)

pub returns-clause-inverse : goal.returns-clause-inverse
returns-clause-inverse c = rw (c.place_of.ensures, c.dims.ensures.dims) (index_at-place c.args.shape.now c.args.index.now c.requires)
