use Rattle.std.proofs.Common.{◌∙◌, length, ap, sym, subst, true, false}
use Rattle.std.specs.Prelude.{Contains}
use Rattle.nd_shape.specs.Index.{IsIn}
use Rattle.nd_grid.specs.Grid.{kept_shape}
use Rattle.array_expr.specs.Node.{shape_at}
use Rattle.input_regions.proofs.Between.{from-to-first}
use Rattle.input_regions.proofs.Used.{ask-full, along-both, along-none, end-have, no-zero, end-lengths}
use Rattle.input_regions.proofs.along.use_along.Goals as goal

pub returns-then-has_zero-clause-uses : goal.returns-then-has_zero-clause-uses
returns-then-has_zero-clause-uses c =
    let z : Contains (shape_at c.args.nodes.now c.args.of) 0 = rw c.dims_of-dims.ensures.value at (c.has_zero.ensures.0 c.if-has_zero.true) in
    along-none c.args.of (shape_at c.args.nodes.now c.args.of) c.args.axes.now c.args.first.now c.args.last.now c.args.needs.now z.0 z.1 z.2 (ask-full c.args.nodes.now c.args.needs.now c.args.of c.requires.can)

pub index_along-requires-clause-inside : goal.index_along-requires-clause-inside
index_along-requires-clause-inside c =
    let first = c.args.first.now in
    subst (λ ns. IsIn (kept_shape 0 ns c.args.axes.now) first) (sym c.dims_of-dims.ensures.value) (c.requires.inside first (from-to-first first c.args.last.now c.args.last.now c.requires.order))

pub widen_both-requires-clause-full : goal.widen_both-requires-clause-full
widen_both-requires-clause-full c = ask-full c.args.nodes.now c.args.needs.now c.args.of c.requires.can

pub widen_both-requires-clause-first : goal.widen_both-requires-clause-first
widen_both-requires-clause-first c =
    let first = c.args.first.now in
    end-have c.args.nodes.now c.args.of c.dims_of-dims.result.now c.args.axes.now first c.as_slice.result.now false c.args.needs.now c.dims_of-dims.ensures.value c.requires.can
    (no-zero c.dims_of-dims.result.now c.has_zero.result c.has_zero.ensures.1 c.if-has_zero.false) (c.requires.inside first (from-to-first first c.args.last.now c.args.last.now c.requires.order)) (c.as_slice.ensures.value ∙ c.in_ok-low.ensures)

pub widen_both-requires-clause-last : goal.widen_both-requires-clause-last
widen_both-requires-clause-last c =
    let last = c.args.last.now in
    end-have c.args.nodes.now c.args.of c.dims_of-dims.result.now c.args.axes.now last c.as_slice-2.result.now true c.args.needs.now c.dims_of-dims.ensures.value c.requires.can
    (no-zero c.dims_of-dims.result.now c.has_zero.result c.has_zero.ensures.1 c.if-has_zero.false) (c.requires.inside last c.requires.order) (c.as_slice-2.ensures.value ∙ c.in_ok-high.ensures)

pub widen_both-requires-clause-axes : goal.widen_both-requires-clause-axes
widen_both-requires-clause-axes c =
    ap length (c.as_slice.ensures.value ∙ c.in_ok-low.ensures) ∙ end-lengths 0 c.dims_of-dims.result.now c.args.axes.now c.args.first.now false
    ∙ sym (ap length (c.as_slice-2.ensures.value ∙ c.in_ok-high.ensures) ∙ end-lengths 0 c.dims_of-dims.result.now c.args.axes.now c.args.last.now true)

pub returns-clause-uses : goal.returns-clause-uses
returns-clause-uses c =
    (along-both c.args.nodes.now c.args.of c.dims_of-dims.result.now c.args.axes.now c.args.first.now c.args.last.now c.as_slice.result.now c.as_slice-2.result.now c.args.needs.now c.widen_both.new.needs c.dims_of-dims.ensures.value c.requires.can c.requires.order
    (no-zero c.dims_of-dims.result.now c.has_zero.result c.has_zero.ensures.1 c.if-has_zero.false) c.requires.inside (c.as_slice.ensures.value ∙ c.in_ok-low.ensures) (c.as_slice-2.ensures.value ∙ c.in_ok-high.ensures) c.widen_both.ensures).0

pub returns-clause-fit : goal.returns-clause-fit
returns-clause-fit c =
    (along-both c.args.nodes.now c.args.of c.dims_of-dims.result.now c.args.axes.now c.args.first.now c.args.last.now c.as_slice.result.now c.as_slice-2.result.now c.args.needs.now c.widen_both.new.needs c.dims_of-dims.ensures.value c.requires.can c.requires.order
    (no-zero c.dims_of-dims.result.now c.has_zero.result c.has_zero.ensures.1 c.if-has_zero.false) c.requires.inside (c.as_slice.ensures.value ∙ c.in_ok-low.ensures) (c.as_slice-2.ensures.value ∙ c.in_ok-high.ensures) c.widen_both.ensures).1
