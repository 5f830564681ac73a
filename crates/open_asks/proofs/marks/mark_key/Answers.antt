use Rattle.std.proofs.Common.{◌∙◌, ap, false}
use Rattle.open_asks.proofs.AskLemmas.{or_mark}
use Rattle.open_asks.proofs.marks.mark_key.Goals as goal

pub returns-then-key-len-clause-marked : goal.returns-then-key-len-clause-marked
returns-then-key-len-clause-marked c k h = ap (λ f. f k) (c.set.ensures.meaning false) ∙ or_mark _ k c.args.key
