use Rattle.std.proofs.Common.{◌≡◌, ◌∙◌, ap, sym, subst}
use Rattle.nd_grid.specs.Grid.{under}
use Rattle.nd_grid.proofs.Under.{under-axes}
use Rattle.array_expr.specs.Node.{shape_at}
use Rattle.input_regions.specs.Needed.{region_at}
use Rattle.input_regions.specs.Widening.{CanHave}
use Rattle.input_regions.proofs.Between.{under-between, from-between, from-to-first}
use Rattle.input_regions.proofs.Used.{ask-full, ask-have, image-both}
use Rattle.input_regions.proofs.uses.use_under.Goals as goal

pub index_under-requires-clause-axes : goal.index_under-requires-clause-axes
index_under-requires-clause-axes c =
    let first = c.args.first.now in
    rw c.dims_of-dims.ensures.value (under-axes (shape_at c.args.nodes.now c.args.of) first (c.requires.inside first (from-to-first first c.args.last.now c.args.last.now c.requires.order)))

pub index_under-requires-2-clause-axes : goal.index_under-requires-2-clause-axes
index_under-requires-2-clause-axes c =
    rw c.dims_of-dims.ensures.value (under-axes (shape_at c.args.nodes.now c.args.of) c.args.last.now (c.requires.inside c.args.last.now c.requires.order))

pub widen_both-requires-clause-full : goal.widen_both-requires-clause-full
widen_both-requires-clause-full c = ask-full c.args.nodes.now c.args.needs.now c.args.of c.requires.can

pub widen_both-requires-clause-first : goal.widen_both-requires-clause-first
widen_both-requires-clause-first c =
    let first = c.args.first.now in
    let e : c.index_under.new.own ≡ under (shape_at c.args.nodes.now c.args.of) c.args.first.now = c.index_under.ensures ∙ ap (λ ns. under ns c.args.first.now) c.dims_of-dims.ensures.value in
    subst (CanHave (region_at c.args.needs.now c.args.of)) (sym e)
    (ask-have c.args.nodes.now c.args.needs.now c.args.of (under (shape_at c.args.nodes.now c.args.of) first) c.requires.can (c.requires.inside first (from-to-first first c.args.last.now c.args.last.now c.requires.order)))

pub widen_both-requires-clause-last : goal.widen_both-requires-clause-last
widen_both-requires-clause-last c =
    let last = c.args.last.now in
    let e : c.index_under-2.new.own ≡ under (shape_at c.args.nodes.now c.args.of) c.args.last.now = c.index_under-2.ensures ∙ ap (λ ns. under ns c.args.last.now) c.dims_of-dims.ensures.value in
    subst (CanHave (region_at c.args.needs.now c.args.of)) (sym e)
    (ask-have c.args.nodes.now c.args.needs.now c.args.of (under (shape_at c.args.nodes.now c.args.of) last) c.requires.can (c.requires.inside last c.requires.order))

pub returns-clause-uses : goal.returns-clause-uses
returns-clause-uses c =
    let dims = shape_at c.args.nodes.now c.args.of in
    let first = c.args.first.now in
    let last = c.args.last.now in
    (image-both c.args.nodes.now c.args.of (under dims) first last c.index_under.new.own c.index_under-2.new.own c.args.needs.now c.widen_both.new.needs c.requires.can c.requires.order c.requires.inside
    (c.index_under.ensures ∙ ap (λ ns. under ns first) c.dims_of-dims.ensures.value) (c.index_under-2.ensures ∙ ap (λ ns. under ns last) c.dims_of-dims.ensures.value)
    (λ i f. under-between dims first last i (from-between first last i f)) c.widen_both.ensures).0

pub returns-clause-fit : goal.returns-clause-fit
returns-clause-fit c =
    let dims = shape_at c.args.nodes.now c.args.of in
    let first = c.args.first.now in
    let last = c.args.last.now in
    (image-both c.args.nodes.now c.args.of (under dims) first last c.index_under.new.own c.index_under-2.new.own c.args.needs.now c.widen_both.new.needs c.requires.can c.requires.order c.requires.inside
    (c.index_under.ensures ∙ ap (λ ns. under ns first) c.dims_of-dims.ensures.value) (c.index_under-2.ensures ∙ ap (λ ns. under ns last) c.dims_of-dims.ensures.value)
    (λ i f. under-between dims first last i (from-between first last i f)) c.widen_both.ensures).1
