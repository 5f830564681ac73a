use Rattle.std.proofs.Common.{◌≡◌, map, get_or, ap, subst, ◌∙◌}
use Rattle.std.proofs.lemmas.Result.{err_from_is_err_and}
use Rattle.array_expr.specs.Refusal.{PassesLimit}
use Rattle.array_expr.proofs.result.transposed_shape.Goals as goal

pub returns-in_err-shape-clause-err : goal.returns-in_err-shape-clause-err
returns-in_err-shape-clause-err c =
    let p = err_from_is_err_and c.from_residual-in_err-shape.result c.from_residual-in_err-shape.ensures.1 in
    let turned : c.in_ok-turned.turned.items ≡ map (λ a. get_or c.args.of.now a 0) c.args.axes.now =
    c.in_ok-turned.ensures ∙ ap (λ axes. map (λ a. get_or c.dims-dims.result.now a 0) axes) c.as_slice-order.ensures ∙ ap (λ dims. map (λ a. get_or dims a 0) c.args.axes.now) c.dims-dims.ensures.dims in
    rw (p.1, p.2) (rw (c.as_slice-order.ensures, c.dims-dims.ensures.dims) at c.in_ok-check_order.ensures.fit, rw (c.as_slice-order.ensures, c.dims-dims.ensures.dims) at c.in_ok-check_order.ensures.all, subst (PassesLimit c.in_err-shape.field-0.0) turned c.in_err-shape.ensures.err)
