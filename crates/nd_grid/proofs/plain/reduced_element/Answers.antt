use Rattle.std.proofs.Common.{arith, ◌≡◌, ℕ, map, ap, sym, ◌∙◌, ℤ, Some, w64, to_z, of_z}
use Rattle.std.proofs.lemmas.Int.{to_z-of_z}
use Rattle.std.specs.Prelude.{Option}
use Rattle.std.specs.List.{range_with_len}
use Rattle.nd_shape.specs.Shape.{elements}
use Rattle.nd_shape.specs.Index.{index_at}
use Rattle.nd_grid.specs.Operation.{folded, fold_two}
use Rattle.nd_grid.specs.Grid.{grid_of, merged, folded_shape}
use Rattle.nd_grid.proofs.Folding.{folded-more}
use Rattle.nd_grid.proofs.plain.reduced_element.Goals as goal

pub loop-place-preserved : goal.loop-place-preserved
loop-place-preserved c =
    let f : ℕ → Option ℤ = λ p. (grid_of c.args.of.now).at (merged 0 c.args.of.now.shape c.args.axes.now c.args.index.now (index_at (folded_shape 0 c.args.of.now.shape c.args.axes.now) p)) in
    let next : Some c.merged_element.result ≡ f c.loop-place.place =
    c.merged_element.ensures ∙ ap (λ ns. (grid_of c.args.of.now).at (merged 0 c.args.of.now.shape c.args.axes.now c.args.index.now (index_at ns c.loop-place.place))) c.requires.folded in
    let made : to_z w64 (of_z w64 c.fold_two-total.result) ≡ fold_two c.args.fold (to_z w64 c.loop-place.total-bits) c.merged_element.result =
    to_z-of_z w64 c.fold_two-total.result (record { sfits = c.fold_two-total.type_inv }) ∙ c.fold_two-total.ensures
    ∙ ap (fold_two c.args.fold (to_z w64 c.loop-place.total-bits)) (to_z-of_z w64 c.merged_element.result (record { sfits = c.merged_element.type_inv })) in
    folded-more c.args.fold f c.loop-place.place (to_z w64 c.loop-place.total-bits) c.merged_element.result c.loop-place.invariant next ∙ ap Some (sym made)

pub returns : goal.returns
returns c =
    let f : ℕ → Option ℤ = λ p. (grid_of c.args.of.now).at (merged 0 c.args.of.now.shape c.args.axes.now c.args.index.now (index_at (folded_shape 0 c.args.of.now.shape c.args.axes.now) p)) in
    let all : c.loop-place.place ≡ c.elements-place-end.result = omega arith in
    sym c.loop-place.invariant ∙ ap (λ n. folded c.args.fold (map f (range_with_len 0 n))) (all ∙ c.elements-place-end.ensures ∙ ap elements c.requires.folded)
