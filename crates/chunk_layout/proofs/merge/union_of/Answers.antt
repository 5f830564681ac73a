use Rattle.chunk_layout.proofs.Merging.{cut_of_union}
use Rattle.chunk_layout.proofs.merge.union_of.Goals as goal

pub returns-in_err-sizes-clause-cut : goal.returns-in_err-sizes-clause-cut
returns-in_err-sizes-clause-cut c = cut_of_union c.args.a.now c.args.b.now c.sizes.ensures.cut c.sizes-2.ensures.cut c.requires
