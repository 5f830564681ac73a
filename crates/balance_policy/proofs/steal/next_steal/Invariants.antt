use Rattle.balance_policy.specs.Offers.{IsLeastOffer}
use Rattle.balance_policy.proofs.Stealing.{IsStealBelow}
use Rattle.balance_policy.proofs.steal.next_steal.Given as goal

abbrev pub invariant-loop-key : goal.invariant-loop-key
invariant-loop-key g l = IsLeastOffer (g.F.Facts.facts l.facts) (IsStealBelow (g.F.Facts.facts l.facts) l.key) l.best
