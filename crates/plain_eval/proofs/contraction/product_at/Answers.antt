use Rattle.std.proofs.Common.{subst}
use Rattle.nd_shape.specs.Index.{IsIn}
use Rattle.nd_grid.specs.Grid.{kept_shape}
use Rattle.array_expr.specs.Elem.{array_at}
use Rattle.plain_eval.proofs.Contracting.{left-in, left-kept, right-kept, right-in}
use Rattle.plain_eval.proofs.contraction.product_at.Goals as goal

pub woven_element-a-requires-clause-kept : goal.woven_element-a-requires-clause-kept
woven_element-a-requires-clause-kept c = left-kept (kept_shape 0 (array_at c.args.known.now c.args.left).shape c.args.left_axes.now) (kept_shape 0 (array_at c.args.known.now c.args.right).shape c.args.right_axes.now) c.args.index.now c.requires.inside

pub woven_element-a-requires-clause-inside : goal.woven_element-a-requires-clause-inside
woven_element-a-requires-clause-inside c =
    left-in (array_at c.args.known.now c.args.left).shape c.args.left_axes.now (kept_shape 0 (array_at c.args.known.now c.args.right).shape c.args.right_axes.now) c.args.index.now c.unravel.new.index c.requires.inside
    (subst (λ ns. IsIn ns c.unravel.new.index) c.requires.valid.paired_is c.unravel.ensures.inside)

pub rest_of-requires : goal.rest_of-requires
rest_of-requires c =
    rw (c.kept_count-kept.ensures, c.dims_of.ensures.value) (left-kept (kept_shape 0 (array_at c.args.known.now c.args.left).shape c.args.left_axes.now) (kept_shape 0 (array_at c.args.known.now c.args.right).shape c.args.right_axes.now) c.args.index.now c.requires.inside)

pub woven_element-b-requires-clause-kept : goal.woven_element-b-requires-clause-kept
woven_element-b-requires-clause-kept c =
    rw (c.rest_of.ensures, c.kept_count-kept.ensures, c.dims_of.ensures.value)
    (right-kept (kept_shape 0 (array_at c.args.known.now c.args.left).shape c.args.left_axes.now) (kept_shape 0 (array_at c.args.known.now c.args.right).shape c.args.right_axes.now) c.args.index.now c.requires.inside)

pub woven_element-b-requires-clause-inside : goal.woven_element-b-requires-clause-inside
woven_element-b-requires-clause-inside c =
    rw (c.rest_of.ensures, c.kept_count-kept.ensures, c.dims_of.ensures.value)
    (right-in (array_at c.args.known.now c.args.left).shape (array_at c.args.known.now c.args.right).shape c.args.left_axes.now c.args.right_axes.now (kept_shape 0 (array_at c.args.known.now c.args.left).shape c.args.left_axes.now) c.args.index.now c.unravel.new.index c.requires.valid.fits c.requires.inside
    (subst (λ ns. IsIn ns c.unravel.new.index) c.requires.valid.paired_is c.unravel.ensures.inside))
