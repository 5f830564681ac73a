use Rattle.std.proofs.Common.{◌+◌, ◌<◌, ◌^◌, ◌∙◌, ℕ, List, [], ◌∷◌, length, get_or, ap, sym, subst, arith, pos, rules, w64, SFits}
use Rattle.std.proofs.lemmas.Int.{to_z-of_z}
use Rattle.std.proofs.lemmas.List.{length-take-le}
use Rattle.nd_shape.specs.Shape.{elements}
use Rattle.nd_shape.specs.Index.{IsIn}
use Rattle.nd_shape.specs.Region.{moved}
use Rattle.nd_shape.proofs.Places.{IsIn-length}
use Rattle.nd_grid.proofs.Turning.{moved-in, moved-small}
use Rattle.plain_block.proofs.Parts.{placed-more, put-place}
use Rattle.plain_block.proofs.placing.put_cell.Goals as goal

pub unravel-requires-clause-inside : goal.unravel-requires-clause-inside
unravel-requires-clause-inside c = subst (λ ns. c.args.p < elements ns) (sym (c.shape.ensures.value ∙ c.requires.same)) c.requires.there

pub unravel-requires-clause-axes : goal.unravel-requires-clause-axes
unravel-requires-clause-axes c =
    let room : List ℕ = 0 ∷ 0 ∷ 0 ∷ 0 ∷ 0 ∷ 0 ∷ 0 ∷ 0 ∷ [] in
    length-take-le (length c.dims-dims.result.now) room (omega (arith, c.dims-dims.ensures.limits.axes, ap length c.dims-dims.ensures.dims))
    ∙ ap length c.dims-dims.ensures.dims ∙ sym c.requires.inside.lengths ∙ sym (ap length (c.shape.ensures.value ∙ c.requires.same))

pub index_moved-requires-clause-index : goal.index_moved-requires-clause-index
index_moved-requires-clause-index c =
    IsIn-length c.shape.result.now c.unravel.new.index c.unravel.ensures.inside ∙ ap length (c.shape.ensures.value ∙ c.requires.same)
    ∙ c.requires.inside.lengths ∙ sym c.requires.inside.starts ∙ sym (ap length c.starts-starts.ensures.value)

pub index_moved-requires-clause-room : goal.index_moved-requires-clause-room
index_moved-requires-clause-room c =
    let room : List ℕ = 0 ∷ 0 ∷ 0 ∷ 0 ∷ 0 ∷ 0 ∷ 0 ∷ 0 ∷ [] in
    length-take-le (length c.dims-dims.result.now) room (omega (arith, c.dims-dims.ensures.limits.axes, ap length c.dims-dims.ensures.dims))
    ∙ ap length c.dims-dims.ensures.dims ∙ sym c.requires.inside.starts ∙ sym (ap length c.starts-starts.ensures.value)

pub index_moved-requires-clause-fits : goal.index_moved-requires-clause-fits
index_moved-requires-clause-fits c =
    let P : List ℕ → Type 0 = λ ss. (k : ℕ) → k < length ss → get_or ss k 0 + get_or c.unravel.new.index k 0 < 2 ^ 64 in
    let inside : IsIn c.args.region.now.lengths c.unravel.new.index = subst (λ ns. IsIn ns c.unravel.new.index) (c.shape.ensures.value ∙ c.requires.same) c.unravel.ensures.inside in
    subst P (sym c.starts-starts.ensures.value) (moved-small c.args.region.now c.args.shape.now c.unravel.new.index c.requires.inside c.dims-dims.ensures.limits.lengths inside)

pub ravel-requires : goal.ravel-requires
ravel-requires c =
    let inside : IsIn c.args.region.now.lengths c.unravel.new.index = subst (λ ns. IsIn ns c.unravel.new.index) (c.shape.ensures.value ∙ c.requires.same) c.unravel.ensures.inside in
    subst (IsIn c.args.shape.now) (sym (c.index_moved.ensures ∙ ap (λ ss. moved ss c.unravel.new.index) c.starts-starts.ensures.value)) (moved-in c.args.region.now c.args.shape.now c.unravel.new.index c.requires.inside inside)

pub returns : goal.returns
returns c =
    let fits : SFits w64 (get_or c.cells.result.now c.args.p (pos 0)) = search rules in
    placed-more c.args.shape.now c.args.region.now c.args.part.now.cells c.args.cells.now c.args.p c.ravel.result _ c.requires.inside c.requires.there c.requires.room
    (put-place c.args.shape.now c.starts-starts.result.now c.unravel.new.index c.index_moved.new.own c.shape.result.now c.args.region.now c.ravel.result c.args.p c.ravel.ensures.place c.index_moved.ensures c.starts-starts.ensures.value c.unravel.ensures.index (c.shape.ensures.value ∙ c.requires.same))
    (to_z-of_z w64 (get_or c.cells.result.now c.args.p (pos 0)) fits ∙ ap (λ xs. get_or xs c.args.p (pos 0)) c.cells.ensures.value) c.requires.placed
