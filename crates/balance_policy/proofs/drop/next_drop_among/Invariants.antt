use Rattle.std.proofs.Common.{◌-◌, ◌≤◌}
use Rattle.cluster_rules.specs.Sched.{keys}
use Rattle.balance_policy.proofs.Dropping.{NoneBelow}
use Rattle.balance_policy.proofs.drop.next_drop_among.Given as goal

abbrev pub invariant-loop-key : goal.invariant-loop-key
invariant-loop-key g l = record {
  none : NoneBelow (g.F.Facts.facts l.facts) l.from;
  within : l.from ≤ keys (g.F.Facts.facts l.facts);
}

abbrev pub decreases-loop-key : goal.decreases-loop-key
decreases-loop-key g l = keys (g.F.Facts.facts l.facts) - l.from
