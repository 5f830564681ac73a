use Rattle.std.proofs.Common.{◌≡◌, ◌∙◌, Some, None, ap, sym}
use Rattle.std.proofs.lemmas.List.{get_or_default}
use Rattle.array_expr.specs.Node.{shape_at}
use Rattle.input_regions.specs.Needed.{region_at}
use Rattle.input_regions.specs.Widening.{AsksOperands, AsksNode}
use Rattle.input_regions.proofs.Widened.{fit-full, filled-in}
use Rattle.input_regions.proofs.Asked.{asks-some, asks-none, last-order, box-from-to}
use Rattle.input_regions.proofs.Fitted.{on-ok}
use Rattle.input_regions.proofs.regions.use_node.Goals as goal

pub returns-in-None-clause-uses : goal.returns-in-None-clause-uses
returns-in-None-clause-uses c =
    asks-none c.args.nodes.now c.args.k c.args.needs.now (sym (get_or_default c.args.needs.now c.args.k c.index-needs-k.result None c.requires.there) ∙ c.in-None.is) (fit-full c.args.nodes.now c.args.needs.now c.requires.sound c.requires.fit)

pub last_index-requires : goal.last_index-requires
last_index-requires c =
    (fit-full c.args.nodes.now c.args.needs.now c.requires.sound c.requires.fit).each c.args.k c.copy-region.result
    (sym (get_or_default c.args.needs.now c.args.k c.index-needs-k.result None c.requires.there) ∙ c.in-Some.is ∙ ap Some (sym c.copy-region.ensures))

pub use_operands-requires-clause-order : goal.use_operands-requires-clause-order
use_operands-requires-clause-order c =
    let box = c.copy-region.result in
    let some : region_at c.args.needs.now c.args.k ≡ Some c.copy-region.result = sym (get_or_default c.args.needs.now c.args.k c.index-needs-k.result None c.requires.there) ∙ c.in-Some.is ∙ ap Some (sym c.copy-region.ensures) in
    let full = (fit-full c.args.nodes.now c.args.needs.now c.requires.sound c.requires.fit).each c.args.k box some in
    rw (c.starts.ensures.value, c.as_slice.ensures.value) (last-order box c.in_ok-last.last.items full c.in_ok-last.ensures)

pub use_operands-requires-clause-inside : goal.use_operands-requires-clause-inside
use_operands-requires-clause-inside c = λ i f.
    let box = c.copy-region.result in
    let some : region_at c.args.needs.now c.args.k ≡ Some c.copy-region.result = sym (get_or_default c.args.needs.now c.args.k c.index-needs-k.result None c.requires.there) ∙ c.in-Some.is ∙ ap Some (sym c.copy-region.ensures) in
    let full = (fit-full c.args.nodes.now c.args.needs.now c.requires.sound c.requires.fit).each c.args.k box some in
    filled-in (shape_at c.args.nodes.now c.args.k) box i (c.requires.fit.each c.args.k box some).part
    (box-from-to box c.in_ok-last.last.items i full c.in_ok-last.ensures (rw (c.starts.ensures.value, c.as_slice.ensures.value) at f))

pub returns-clause-uses : goal.returns-clause-uses
returns-clause-uses c =
    let box = c.copy-region.result in
    let some : region_at c.args.needs.now c.args.k ≡ Some c.copy-region.result = sym (get_or_default c.args.needs.now c.args.k c.index-needs-k.result None c.requires.there) ∙ c.in-Some.is ∙ ap Some (sym c.copy-region.ensures) in
    let full = (fit-full c.args.nodes.now c.args.needs.now c.requires.sound c.requires.fit).each c.args.k box some in
    on-ok c.use_operands.result (AsksOperands c.args.nodes.now c.args.k c.starts.result.now c.as_slice.result.now c.args.needs.now c.use_operands.new.needs) (AsksNode c.args.nodes.now c.args.k c.args.needs.now c.use_operands.new.needs)
    (λ a. asks-some c.args.nodes.now c.args.k box c.in_ok-last.last.items c.args.needs.now c.use_operands.new.needs some full c.in_ok-last.ensures (rw (c.starts.ensures.value, c.as_slice.ensures.value) at a))
    c.use_operands.ensures.uses
