-- One more number.
use Rattle.std.proofs.Common.{◌∷◌, ◌++◌, ◌+◌, [], ap, sym, ◌∙◌}
use Rattle.command_words.proofs.Crews.{one_more}
use Rattle.command_words.proofs.walk.workers_at_start.Goals as goal

pub loop-number-preserved : goal.loop-number-preserved
loop-number-preserved c = c.in_ok-push.ensures.items ∙ ap (λ ns. ns ++ (c.loop-number.number + 1) ∷ []) c.loop-number.invariant ∙ sym (one_more c.loop-number.number)
