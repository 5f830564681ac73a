use Rattle.std.proofs.Common.{◌≡◌}
use Rattle.balance_policy.proofs.Dropping.{loaded_of}
use Rattle.balance_policy.proofs.drop.most_loaded.Given as goal

abbrev pub invariant-loop-before : goal.invariant-loop-before
invariant-loop-before g l = l.best ≡ loaded_of (g.F.Facts.facts l.facts) l.key l.before
