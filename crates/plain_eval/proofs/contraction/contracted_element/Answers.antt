use Rattle.std.proofs.Common.{arith, ◌≡◌, ℕ, map, get_or, ap, sym, ◌∙◌, ℤ}
use Rattle.std.specs.Prelude.{Option}
use Rattle.std.specs.List.{range_with_len}
use Rattle.nd_shape.specs.Shape.{elements}
use Rattle.nd_shape.specs.Index.{index_at}
use Rattle.nd_grid.specs.declared.operation.Fold.TheVariants.{Sum}
use Rattle.nd_grid.specs.Operation.{folded}
use Rattle.array_expr.specs.Elem.{array_at}
use Rattle.plain_eval.specs.Fits.{product_at}
use Rattle.plain_eval.proofs.Folding.{folded-next}
use Rattle.plain_eval.proofs.contraction.contracted_element.Goals as goal

pub loop-place-preserved : goal.loop-place-preserved
loop-place-preserved c =
    let f : ℕ → Option ℤ = λ p. product_at c.args.left_axes.now c.args.right_axes.now (array_at c.args.known.now c.args.left) (array_at c.args.known.now c.args.right) c.args.index.now (index_at (map (λ a. get_or (array_at c.args.known.now c.args.left).shape a 0) c.args.left_axes.now) p) in
    let next : c.product_at-next.result ≡ f c.loop-place.place =
    c.product_at-next.ensures ∙ ap (λ ns. product_at c.args.left_axes.now c.args.right_axes.now (array_at c.args.known.now c.args.left) (array_at c.args.known.now c.args.right) c.args.index.now (index_at ns c.loop-place.place)) c.requires.valid.paired_is in
    folded-next Sum f c.loop-place.place c.loop-place.total c.product_at-next.result c.loop-place.invariant next ∙ sym c.combine_two-total.ensures

pub returns : goal.returns
returns c =
    let f : ℕ → Option ℤ = λ p. product_at c.args.left_axes.now c.args.right_axes.now (array_at c.args.known.now c.args.left) (array_at c.args.known.now c.args.right) c.args.index.now (index_at (map (λ a. get_or (array_at c.args.known.now c.args.left).shape a 0) c.args.left_axes.now) p) in
    let all : c.loop-place.place ≡ c.elements-place-end.result = omega arith in
    sym c.loop-place.invariant ∙ ap (λ n. folded Sum (map f (range_with_len 0 n))) (all ∙ c.elements-place-end.ensures ∙ ap elements c.requires.valid.paired_is)
