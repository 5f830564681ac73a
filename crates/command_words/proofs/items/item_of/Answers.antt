-- The name and the number, or neither.
use Rattle.std.proofs.Common.{arith}
use Rattle.command_words.proofs.Cuts.{cut_at, none_case}
use Rattle.command_words.proofs.Spoken.{no_worker}
use Rattle.command_words.proofs.items.item_of.Goals as goal

pub returns-in_err-worker_number-in-Some : goal.returns-in_err-worker_number-in-Some
returns-in_err-worker_number-in-Some c = none_case c.from_residual.result _ _ c.from_residual.ensures
    (no_worker c.args.what.now c.in-Some.name.now c.in-Some.number.now c.args.at (cut_at 58 c.args.what.now (c.in-Some.name, c.in-Some.number) (omega arith) c.in-Some.ensures.cases) c.in_err-worker_number-in-Some.ensures)
