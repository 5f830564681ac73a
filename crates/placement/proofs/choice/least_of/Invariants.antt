use Rattle.std.proofs.Common.{◌≡◌}
use Rattle.placement.proofs.Placing.{best_of}
use Rattle.placement.proofs.choice.least_of.Given as goal

abbrev pub invariant-loop-before : goal.invariant-loop-before
invariant-loop-before g l = l.best ≡ best_of (g.F.Facts.facts l.facts) l.key l.pool l.before
