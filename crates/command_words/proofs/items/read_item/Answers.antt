-- What stands before the count, and the count.
use Rattle.std.proofs.Common.{arith}
use Rattle.command_words.proofs.Cuts.{cut_at, clear_at, none_case}
use Rattle.command_words.proofs.Spoken.{no_count, bad_count, item_is}
use Rattle.command_words.proofs.items.read_item.Goals as goal

pub returns-in_err-what : goal.returns-in_err-what
returns-in_err-what c = none_case c.from_residual.result _ _ c.from_residual.ensures
    (no_count c.args.text.now (clear_at 64 c.args.text.now (omega arith) c.in_err-what.ensures.cases))

pub returns-in_err-at : goal.returns-in_err-at
returns-in_err-at c = none_case c.from_residual-in_err-at.result _ _ c.from_residual-in_err-at.ensures
    (bad_count c.args.text.now c.in_ok-what.what.now c.in_ok-what.count.now (cut_at 64 c.args.text.now (c.in_ok-what.what, c.in_ok-what.count) (omega arith) c.in_ok-what.ensures.cases) c.in_err-at.ensures)

pub returns : goal.returns
returns c = item_is c.args.text.now c.in_ok-what.what.now c.in_ok-what.count.now c.in_ok-at.at c.item_of.result
    (cut_at 64 c.args.text.now (c.in_ok-what.what, c.in_ok-what.count) (omega arith) c.in_ok-what.ensures.cases) c.in_ok-at.ensures c.item_of.ensures
