use Rattle.std.proofs.Common.{arith, ◌≡◌, ℕ, map, ap, sym, ◌∙◌, ℤ}
use Rattle.std.specs.Prelude.{Option}
use Rattle.std.specs.List.{range_with_len}
use Rattle.nd_shape.specs.Shape.{elements}
use Rattle.nd_shape.specs.Index.{index_at}
use Rattle.nd_grid.specs.Operation.{folded}
use Rattle.nd_grid.specs.Grid.{merged, folded_shape}
use Rattle.array_expr.specs.Elem.{array_at}
use Rattle.plain_eval.proofs.Folding.{folded-next}
use Rattle.plain_eval.proofs.picking.reduced_element.Goals as goal

pub loop-place-preserved : goal.loop-place-preserved
loop-place-preserved c =
    let f : ℕ → Option ℤ = λ p. (array_at c.args.known.now c.args.of).at (merged 0 (array_at c.args.known.now c.args.of).shape c.args.axes.now c.args.index.now (index_at (folded_shape 0 (array_at c.args.known.now c.args.of).shape c.args.axes.now) p)) in
    let next : c.merged_element-next.result ≡ f c.loop-place.place =
    c.merged_element-next.ensures ∙ ap (λ ns. (array_at c.args.known.now c.args.of).at (merged 0 (array_at c.args.known.now c.args.of).shape c.args.axes.now c.args.index.now (index_at ns c.loop-place.place))) c.requires.valid.folded_is in
    folded-next c.args.fold f c.loop-place.place c.loop-place.total c.merged_element-next.result c.loop-place.invariant next ∙ sym c.combine_two-total.ensures

pub returns : goal.returns
returns c =
    let f : ℕ → Option ℤ = λ p. (array_at c.args.known.now c.args.of).at (merged 0 (array_at c.args.known.now c.args.of).shape c.args.axes.now c.args.index.now (index_at (folded_shape 0 (array_at c.args.known.now c.args.of).shape c.args.axes.now) p)) in
    let all : c.loop-place.place ≡ c.elements-place-end.result = omega arith in
    sym c.loop-place.invariant ∙ ap (λ n. folded c.args.fold (map f (range_with_len 0 n))) (all ∙ c.elements-place-end.ensures ∙ ap elements c.requires.valid.folded_is)
