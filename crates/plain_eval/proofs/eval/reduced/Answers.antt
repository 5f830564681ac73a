use Rattle.std.proofs.Common.{◌≡◌, ap, sym, subst, ◌∙◌}
use Rattle.nd_shape.specs.Shape.{elements, IsShape}
use Rattle.nd_shape.specs.Limits.{IsPassed}
use Rattle.nd_grid.specs.Grid.{folded_shape, reduced}
use Rattle.array_expr.specs.Elem.{array_at}
use Rattle.plain_eval.proofs.Products.{folded_passed}
use Rattle.plain_eval.proofs.eval.reduced.Goals as goal

pub empty-requires : goal.empty-requires
empty-requires c =
    let shape : IsShape (array_at c.args.known.now c.args.of).shape = subst IsShape c.dims_of.ensures.value c.dims_of.ensures.limits in
    let lengths : c.in_ok-lengths.lengths.items ≡ folded_shape 0 (array_at c.args.known.now c.args.of).shape c.args.axes.now = c.in_ok-lengths.ensures ∙ ap (λ ns. folded_shape 0 ns c.args.axes.now) c.dims_of.ensures.value in
    ap elements (sym c.requires.shape) ∙ folded_passed (array_at c.args.known.now c.args.of).shape c.args.axes.now c.in-Err.field-0 shape (subst (IsPassed c.in-Err.field-0) lengths c.in-Err.ensures.passed)

pub returns-in-Err : goal.returns-in-Err
returns-in-Err c = c.empty.ensures (reduced c.args.fold c.args.axes.now (array_at c.args.known.now c.args.of)) c.requires.shape
