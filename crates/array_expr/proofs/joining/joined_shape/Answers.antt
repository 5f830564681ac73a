use Rattle.std.proofs.Common.{◌≡◌, ◌+◌, ◌^◌, [], map, set, ap, sym, ◌∙◌}
use Rattle.std.specs.Prelude.{min}
use Rattle.std.proofs.lemmas.Result.{err_from_is_err_and}
use Rattle.array_expr.specs.Node.{shape_at, first_shape, length_on_axis}
use Rattle.array_expr.proofs.Joined.{operand-shape, passes_joined, joined_exact}
use Rattle.array_expr.proofs.joining.joined_shape.Goals as goal

pub returns-in_err-shape-clause-err : goal.returns-in_err-shape-clause-err
returns-in_err-shape-clause-err c =
    let p = err_from_is_err_and c.from_residual-in_err-shape.result c.from_residual-in_err-shape.ensures.1 in
    let first : c.dims_of-dims.result.now ≡ first_shape (map (shape_at c.args.nodes.now) c.args.of.now) = c.dims_of-dims.ensures.dims ∙ sym (operand-shape c.args.nodes.now c.args.of.now 0 c.index-of-0.result [] c.requires.some c.index-of-0.is) in
    let lengths : c.in_ok-lengths.lengths.items ≡ set (first_shape (map (shape_at c.args.nodes.now) c.args.of.now)) c.args.axis (min (length_on_axis c.args.axis (map (shape_at c.args.nodes.now) c.args.of.now)) (2 ^ 31 + 1)) =
    c.in_ok-lengths.ensures ∙ ap (λ ns. set ns c.args.axis c.length_along-len.result) first ∙ ap (set (first_shape (map (shape_at c.args.nodes.now) c.args.of.now)) c.args.axis) c.length_along-len.ensures in
    rw (p.1, p.2) (c.in_ok-check_joinable.ensures.ok, passes_joined c.in_err-shape.field-0.0 _ _ c.args.axis _ c.in_ok-check_joinable.ensures.ok.there lengths c.in_err-shape.ensures.err)

pub returns-clause-ok : goal.returns-clause-ok
returns-clause-ok c =
    let first : c.dims_of-dims.result.now ≡ first_shape (map (shape_at c.args.nodes.now) c.args.of.now) = c.dims_of-dims.ensures.dims ∙ sym (operand-shape c.args.nodes.now c.args.of.now 0 c.index-of-0.result [] c.requires.some c.index-of-0.is) in
    let lengths : c.in_ok-lengths.lengths.items ≡ set (first_shape (map (shape_at c.args.nodes.now) c.args.of.now)) c.args.axis (min (length_on_axis c.args.axis (map (shape_at c.args.nodes.now) c.args.of.now)) (2 ^ 31 + 1)) =
    c.in_ok-lengths.ensures ∙ ap (λ ns. set ns c.args.axis c.length_along-len.result) first ∙ ap (set (first_shape (map (shape_at c.args.nodes.now) c.args.of.now)) c.args.axis) c.length_along-len.ensures in
    c.in_ok-shape.ensures.ok ∙ joined_exact _ _ c.args.axis _ c.in_ok-check_joinable.ensures.ok.there lengths c.in_ok-shape.ensures.limits
