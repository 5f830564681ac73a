use Rattle.std.proofs.Common.{subst}
use Rattle.nd_shape.specs.Index.{IsIn}
use Rattle.nd_grid.proofs.Merging.{merged-in}
use Rattle.array_expr.specs.Elem.{array_at}
use Rattle.plain_eval.proofs.picking.merged_element.Goals as goal

pub element_of-requires-clause-inside : goal.element_of-requires-clause-inside
element_of-requires-clause-inside c =
    rw (c.index_merged.ensures, c.dims_of-dims.ensures.value)
    (merged-in 0 (array_at c.args.known.now c.args.of).shape c.args.axes.now c.args.index.now c.unravel.new.index c.requires.kept (subst (λ ns. IsIn ns c.unravel.new.index) c.requires.folded c.unravel.ensures.inside))
