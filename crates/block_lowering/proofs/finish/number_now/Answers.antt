use Rattle.std.proofs.Common.{sym, ◌∙◌}
use Rattle.block_lowering.proofs.Finishing.{not-kept}
use Rattle.block_lowering.proofs.finish.number_now.Goals as goal

pub returns-in-None : goal.returns-in-None
returns-in-None c = c.count.ensures ∙ sym (not-kept c.args.numbers.now.order c.args.key c.in-None.ensures)
