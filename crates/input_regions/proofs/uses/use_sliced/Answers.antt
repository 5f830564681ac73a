use Rattle.std.proofs.Common.{◌≡◌, ◌∙◌, ap, sym, subst}
use Rattle.nd_shape.specs.Index.{IsIn}
use Rattle.nd_grid.specs.Grid.{sliced_from, sliced_shape}
use Rattle.nd_grid.proofs.Slicing.{sliced-in}
use Rattle.array_expr.specs.Node.{dropped, shape_at}
use Rattle.input_regions.specs.Needed.{region_at}
use Rattle.input_regions.specs.Widening.{CanHave}
use Rattle.input_regions.proofs.Between.{sliced-between, from-between, from-to-first}
use Rattle.input_regions.proofs.Used.{ask-full, ask-have, image-both}
use Rattle.input_regions.proofs.uses.use_sliced.Goals as goal

pub index_sliced-requires-clause-inside : goal.index_sliced-requires-clause-inside
index_sliced-requires-clause-inside c =
    let first = c.args.first.now in
    let g : c.as_slice-2.result.now ≡ dropped c.args.parts.now = c.as_slice-2.ensures ∙ c.in_ok-gone.ensures ∙ ap dropped c.as_slice.ensures in
    subst (λ gone. IsIn (sliced_shape 0 c.args.taken.now gone) first) (sym g) (c.requires.inside first (from-to-first first c.args.last.now c.args.last.now c.requires.order))

pub widen_both-requires-clause-full : goal.widen_both-requires-clause-full
widen_both-requires-clause-full c = ask-full c.args.nodes.now c.args.needs.now c.args.of c.requires.can

pub widen_both-requires-clause-first : goal.widen_both-requires-clause-first
widen_both-requires-clause-first c =
    let first = c.args.first.now in
    let g : c.as_slice-2.result.now ≡ dropped c.args.parts.now = c.as_slice-2.ensures ∙ c.in_ok-gone.ensures ∙ ap dropped c.as_slice.ensures in
    let e : c.index_sliced.new.own ≡ sliced_from 0 c.args.taken.now (dropped c.args.parts.now) c.args.first.now = c.index_sliced.ensures ∙ ap (λ gone. sliced_from 0 c.args.taken.now gone c.args.first.now) g in
    subst (CanHave (region_at c.args.needs.now c.args.of)) (sym e)
    (ask-have c.args.nodes.now c.args.needs.now c.args.of (sliced_from 0 c.args.taken.now (dropped c.args.parts.now) first) c.requires.can
    (sliced-in 0 c.args.taken.now (shape_at c.args.nodes.now c.args.of) (dropped c.args.parts.now) first c.requires.fits (c.requires.inside first (from-to-first first c.args.last.now c.args.last.now c.requires.order))))

pub widen_both-requires-clause-last : goal.widen_both-requires-clause-last
widen_both-requires-clause-last c =
    let last = c.args.last.now in
    let g : c.as_slice-3.result.now ≡ dropped c.args.parts.now = c.as_slice-3.ensures ∙ c.in_ok-gone.ensures ∙ ap dropped c.as_slice.ensures in
    let e : c.index_sliced-2.new.own ≡ sliced_from 0 c.args.taken.now (dropped c.args.parts.now) c.args.last.now = c.index_sliced-2.ensures ∙ ap (λ gone. sliced_from 0 c.args.taken.now gone c.args.last.now) g in
    subst (CanHave (region_at c.args.needs.now c.args.of)) (sym e)
    (ask-have c.args.nodes.now c.args.needs.now c.args.of (sliced_from 0 c.args.taken.now (dropped c.args.parts.now) last) c.requires.can
    (sliced-in 0 c.args.taken.now (shape_at c.args.nodes.now c.args.of) (dropped c.args.parts.now) last c.requires.fits (c.requires.inside last c.requires.order)))

pub returns-clause-uses : goal.returns-clause-uses
returns-clause-uses c =
    let dims = shape_at c.args.nodes.now c.args.of in
    let gone = dropped c.args.parts.now in
    let taken = c.args.taken.now in
    let first = c.args.first.now in
    let last = c.args.last.now in
    let g : c.as_slice-2.result.now ≡ dropped c.args.parts.now = c.as_slice-2.ensures ∙ c.in_ok-gone.ensures ∙ ap dropped c.as_slice.ensures in
    let h : c.as_slice-3.result.now ≡ dropped c.args.parts.now = c.as_slice-3.ensures ∙ c.in_ok-gone.ensures ∙ ap dropped c.as_slice.ensures in
    (image-both c.args.nodes.now c.args.of (sliced_from 0 taken gone) first last c.index_sliced.new.own c.index_sliced-2.new.own c.args.needs.now c.widen_both.new.needs c.requires.can c.requires.order
    (λ i f. sliced-in 0 taken dims gone i c.requires.fits (c.requires.inside i f))
    (c.index_sliced.ensures ∙ ap (λ x. sliced_from 0 taken x first) g) (c.index_sliced-2.ensures ∙ ap (λ x. sliced_from 0 taken x last) h)
    (λ i f. sliced-between 0 taken dims gone first last i c.requires.fits (c.requires.inside first (from-to-first first last last c.requires.order)) (c.requires.inside last c.requires.order) (c.requires.inside i f) (from-between first last i f))
    c.widen_both.ensures).0

pub returns-clause-fit : goal.returns-clause-fit
returns-clause-fit c =
    let dims = shape_at c.args.nodes.now c.args.of in
    let gone = dropped c.args.parts.now in
    let taken = c.args.taken.now in
    let first = c.args.first.now in
    let last = c.args.last.now in
    let g : c.as_slice-2.result.now ≡ dropped c.args.parts.now = c.as_slice-2.ensures ∙ c.in_ok-gone.ensures ∙ ap dropped c.as_slice.ensures in
    let h : c.as_slice-3.result.now ≡ dropped c.args.parts.now = c.as_slice-3.ensures ∙ c.in_ok-gone.ensures ∙ ap dropped c.as_slice.ensures in
    (image-both c.args.nodes.now c.args.of (sliced_from 0 taken gone) first last c.index_sliced.new.own c.index_sliced-2.new.own c.args.needs.now c.widen_both.new.needs c.requires.can c.requires.order
    (λ i f. sliced-in 0 taken dims gone i c.requires.fits (c.requires.inside i f))
    (c.index_sliced.ensures ∙ ap (λ x. sliced_from 0 taken x first) g) (c.index_sliced-2.ensures ∙ ap (λ x. sliced_from 0 taken x last) h)
    (λ i f. sliced-between 0 taken dims gone first last i c.requires.fits (c.requires.inside first (from-to-first first last last c.requires.order)) (c.requires.inside last c.requires.order) (c.requires.inside i f) (from-between first last i f))
    c.widen_both.ensures).1
