use Rattle.std.proofs.Common.{◌∙◌, ap, false}
use Rattle.open_asks.proofs.MarkLemmas.{and_mark}
use Rattle.open_asks.proofs.marks.unmark_key.Goals as goal

pub returns-then-key-len-clause-marked : goal.returns-then-key-len-clause-marked
returns-then-key-len-clause-marked c k h = ap (λ f. f k) (c.set.ensures.meaning false) ∙ and_mark _ k c.args.key
