use Rattle.std.proofs.Common.{◌≡◌, ◌*◌, map, get_or, ap, sym, subst, ◌∙◌, zero-mul}
use Rattle.nd_shape.specs.Shape.{elements, IsShape}
use Rattle.nd_shape.specs.Limits.{IsPassed}
use Rattle.nd_grid.specs.Grid.{kept_shape, contracted}
use Rattle.array_expr.specs.Elem.{array_at}
use Rattle.plain_eval.proofs.Paired.{paired_passed, elements-append}
use Rattle.plain_eval.proofs.eval.contracted.Goals as goal

pub empty-requires : goal.empty-requires
empty-requires c =
    let shape : IsShape (array_at c.args.known.now c.args.left).shape = subst IsShape c.dims_of.ensures.value c.dims_of.ensures.limits in
    let lengths : c.in_ok-lengths.lengths.items ≡ map (λ a. get_or (array_at c.args.known.now c.args.left).shape a 0) c.args.left_axes.now =
    c.in_ok-lengths.ensures ∙ ap (λ ns. map (λ a. get_or ns a 0) c.args.left_axes.now) c.dims_of.ensures.value in
    let none : elements (kept_shape 0 (array_at c.args.known.now c.args.left).shape c.args.left_axes.now) ≡ 0 =
    paired_passed (array_at c.args.known.now c.args.left).shape c.args.left_axes.now c.in-Err.field-0 shape c.requires.fits.fits.left_fit (subst (IsPassed c.in-Err.field-0) lengths c.in-Err.ensures.passed) in
    ap elements (sym c.requires.shape)
    ∙ elements-append (kept_shape 0 (array_at c.args.known.now c.args.left).shape c.args.left_axes.now) (kept_shape 0 (array_at c.args.known.now c.args.right).shape c.args.right_axes.now)
    ∙ ap (λ k. k * elements (kept_shape 0 (array_at c.args.known.now c.args.right).shape c.args.right_axes.now)) none
    ∙ zero-mul (elements (kept_shape 0 (array_at c.args.known.now c.args.right).shape c.args.right_axes.now))

pub returns-in-Err : goal.returns-in-Err
returns-in-Err c = c.empty.ensures (contracted c.args.left_axes.now c.args.right_axes.now (array_at c.args.known.now c.args.left) (array_at c.args.known.now c.args.right)) c.requires.shape
