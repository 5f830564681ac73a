use Rattle.std.proofs.Common.{◌-◌, ◌≤◌}
use Rattle.cluster_rules.specs.Sched.{keys}
use Rattle.balance_policy.specs.Offers.{IsLeastOffer}
use Rattle.balance_policy.proofs.Stealing.{IsStealBelow}
use Rattle.balance_policy.proofs.steal.next_steal_among.Given as goal

abbrev pub invariant-loop-key : goal.invariant-loop-key
invariant-loop-key g l = record {
  least : IsLeastOffer (g.F.Facts.facts l.facts) (IsStealBelow (g.F.Facts.facts l.facts) l.from) l.best;
  within : l.from ≤ keys (g.F.Facts.facts l.facts);
}

abbrev pub decreases-loop-key : goal.decreases-loop-key
decreases-loop-key g l = keys (g.F.Facts.facts l.facts) - l.from
