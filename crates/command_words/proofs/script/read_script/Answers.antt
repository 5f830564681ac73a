-- One item more, none, or the last one.
use Rattle.std.proofs.Common.{arith, rules}
use Rattle.std.proofs.lemmas.Result.{err_from_is_err_and}
use Rattle.command_words.proofs.Cuts.{cut_at, clear_at}
use Rattle.command_words.proofs.Readings.{refused_leads, refused_ends, added_goes_on, added_ends, added_length}
use Rattle.command_words.proofs.script.read_script.Goals as goal

pub returns-in_err-add_item-in-Some-clause-refused : goal.returns-in_err-add_item-in-Some-clause-refused
returns-in_err-add_item-in-Some-clause-refused c =
    let p = err_from_is_err_and c.from_residual.result c.from_residual.ensures.1 in
    rw (p.1, p.2) (refused_leads c.args.text.now c.loop-item.rest.now c.in-Some.front.now c.in-Some.back.now c.loop-item.items c.in_err-add_item-in-Some.field-0.0
    (cut_at 44 c.loop-item.rest.now (c.in-Some.front, c.in-Some.back) (omega arith) c.in-Some.ensures.cases) c.loop-item.invariant.1 c.in_err-add_item-in-Some.ensures.refused)

pub returns-in_err-add_item-in-None-clause-refused : goal.returns-in_err-add_item-in-None-clause-refused
returns-in_err-add_item-in-None-clause-refused c =
    let p = err_from_is_err_and c.from_residual-in_err-add_item-in-None.result c.from_residual-in_err-add_item-in-None.ensures.1 in
    rw (p.1, p.2) (refused_ends c.args.text.now c.loop-item.rest.now c.loop-item.items c.in_err-add_item-in-None.field-0.0
    (clear_at 44 c.loop-item.rest.now (omega arith) c.in-None.ensures.cases) c.loop-item.invariant.1 c.in_err-add_item-in-None.ensures.refused)

pub returns-in-None-clause-items : goal.returns-in-None-clause-items
returns-in-None-clause-items c = added_ends c.args.text.now c.loop-item.rest.now c.loop-item.items c.add_item-in-None.new.items
    (clear_at 44 c.loop-item.rest.now (omega arith) c.in-None.ensures.cases) c.loop-item.invariant.1 c.in_ok-add_item-in-None.ensures.added

pub loop-item-preserved : goal.loop-item-preserved
loop-item-preserved c = (
  search rules,
  added_goes_on c.args.text.now c.loop-item.rest.now c.in-Some.front.now c.in-Some.back.now c.loop-item.items c.add_item.new.items
      (cut_at 44 c.loop-item.rest.now (c.in-Some.front, c.in-Some.back) (omega arith) c.in-Some.ensures.cases) c.loop-item.invariant.1 c.in_ok-add_item-in-Some.ensures.added,
  added_length c.in-Some.front.now c.loop-item.items c.add_item.new.items c.loop-item._item c.in_ok-add_item-in-Some.ensures.added c.loop-item.invariant.2,
)
