use Rattle.balance_policy.proofs.Dropping.{NoneBelow}
use Rattle.balance_policy.proofs.drop.next_drop.Given as goal

abbrev pub invariant-loop-key : goal.invariant-loop-key
invariant-loop-key g l = NoneBelow (g.F.Facts.facts l.facts) l.key
