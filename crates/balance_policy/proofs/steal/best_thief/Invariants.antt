use Rattle.balance_policy.specs.Offers.{IsLeastOffer}
use Rattle.balance_policy.proofs.Stealing.{IsStealWithin}
use Rattle.balance_policy.proofs.steal.best_thief.Given as goal

abbrev pub invariant-loop-thief : goal.invariant-loop-thief
invariant-loop-thief g l = IsLeastOffer (g.F.Facts.facts l.facts) (IsStealWithin (g.F.Facts.facts l.facts) l.key l.victim l.idle l.thief-index) l.best
