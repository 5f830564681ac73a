use Rattle.std.proofs.Common.{subst}
use Rattle.nd_shape.specs.Index.{IsIn}
use Rattle.nd_grid.proofs.Merging.{merged-in}
use Rattle.nd_grid.proofs.plain.merged_element.Goals as goal

pub element_at-requires : goal.element_at-requires
element_at-requires c =
    rw (c.index_merged.ensures, c.dims_of-dims.ensures.dims)
    (merged-in 0 c.args.of.now.shape c.args.axes.now c.args.index.now c.unravel.new.index c.requires.kept (subst (λ ns. IsIn ns c.unravel.new.index) c.requires.folded c.unravel.ensures.inside))
