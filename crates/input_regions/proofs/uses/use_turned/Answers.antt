use Rattle.std.proofs.Common.{◌∙◌, get_or, map, sym, subst}
use Rattle.std.proofs.lemmas.List.{length-map}
use Rattle.nd_shape.proofs.Places.{IsIn-length}
use Rattle.nd_grid.specs.Grid.{turned}
use Rattle.nd_grid.proofs.Turning.{turned-in}
use Rattle.array_expr.specs.Node.{shape_at}
use Rattle.input_regions.specs.Needed.{region_at}
use Rattle.input_regions.specs.Widening.{CanHave}
use Rattle.input_regions.proofs.Between.{turned-between, from-between, from-to-first}
use Rattle.input_regions.proofs.Used.{ask-full, ask-have, image-both}
use Rattle.input_regions.proofs.uses.use_turned.Goals as goal

pub index_transposed-requires-clause-index : goal.index_transposed-requires-clause-index
index_transposed-requires-clause-index c =
    let dims = shape_at c.args.nodes.now c.args.of in
    let first = c.args.first.now in
    IsIn-length (map (λ a. get_or dims a 0) c.args.axes.now) first (c.requires.inside first (from-to-first first c.args.last.now c.args.last.now c.requires.order)) ∙ length-map c.args.axes.now (λ a. get_or dims a 0)

pub index_transposed-requires-2-clause-index : goal.index_transposed-requires-2-clause-index
index_transposed-requires-2-clause-index c =
    let dims = shape_at c.args.nodes.now c.args.of in
    IsIn-length (map (λ a. get_or dims a 0) c.args.axes.now) c.args.last.now (c.requires.inside c.args.last.now c.requires.order) ∙ length-map c.args.axes.now (λ a. get_or dims a 0)

pub widen_both-requires-clause-full : goal.widen_both-requires-clause-full
widen_both-requires-clause-full c = ask-full c.args.nodes.now c.args.needs.now c.args.of c.requires.can

pub widen_both-requires-clause-first : goal.widen_both-requires-clause-first
widen_both-requires-clause-first c =
    let first = c.args.first.now in
    subst (CanHave (region_at c.args.needs.now c.args.of)) (sym c.index_transposed.ensures)
    (ask-have c.args.nodes.now c.args.needs.now c.args.of (turned c.args.axes.now first) c.requires.can
    (turned-in c.args.axes.now (shape_at c.args.nodes.now c.args.of) first c.requires.turn (c.requires.inside first (from-to-first first c.args.last.now c.args.last.now c.requires.order))))

pub widen_both-requires-clause-last : goal.widen_both-requires-clause-last
widen_both-requires-clause-last c =
    let last = c.args.last.now in
    subst (CanHave (region_at c.args.needs.now c.args.of)) (sym c.index_transposed-2.ensures)
    (ask-have c.args.nodes.now c.args.needs.now c.args.of (turned c.args.axes.now last) c.requires.can
    (turned-in c.args.axes.now (shape_at c.args.nodes.now c.args.of) last c.requires.turn (c.requires.inside last c.requires.order)))

pub returns-clause-uses : goal.returns-clause-uses
returns-clause-uses c =
    let first = c.args.first.now in
    let last = c.args.last.now in
    (image-both c.args.nodes.now c.args.of (turned c.args.axes.now) first last c.index_transposed.new.own c.index_transposed-2.new.own c.args.needs.now c.widen_both.new.needs c.requires.can c.requires.order
    (λ i f. turned-in c.args.axes.now (shape_at c.args.nodes.now c.args.of) i c.requires.turn (c.requires.inside i f)) c.index_transposed.ensures c.index_transposed-2.ensures
    (λ i f. turned-between c.args.axes.now first last i (from-between first last i f)) c.widen_both.ensures).0

pub returns-clause-fit : goal.returns-clause-fit
returns-clause-fit c =
    let first = c.args.first.now in
    let last = c.args.last.now in
    (image-both c.args.nodes.now c.args.of (turned c.args.axes.now) first last c.index_transposed.new.own c.index_transposed-2.new.own c.args.needs.now c.widen_both.new.needs c.requires.can c.requires.order
    (λ i f. turned-in c.args.axes.now (shape_at c.args.nodes.now c.args.of) i c.requires.turn (c.requires.inside i f)) c.index_transposed.ensures c.index_transposed-2.ensures
    (λ i f. turned-between c.args.axes.now first last i (from-between first last i f)) c.widen_both.ensures).1
