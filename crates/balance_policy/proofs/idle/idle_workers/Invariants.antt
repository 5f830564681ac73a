use Rattle.std.proofs.Common.{◌≡◌}
use Rattle.balance_policy.proofs.Idling.{idle_of}
use Rattle.balance_policy.proofs.idle.idle_workers.Given as goal

abbrev pub invariant-loop-before : goal.invariant-loop-before
invariant-loop-before g l = l.idle.items ≡ idle_of (g.F.Facts.facts l.facts) l.before
