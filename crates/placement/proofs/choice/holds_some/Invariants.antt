use Rattle.std.proofs.Common.{◌≡◌, take}
use Rattle.std.specs.List.{list_any}
use Rattle.cluster_rules.specs.Sched.{holds}
use Rattle.placement.proofs.choice.holds_some.Given as goal

abbrev pub invariant-loop-dependency : goal.invariant-loop-dependency
invariant-loop-dependency g l = l.found ≡ list_any (holds (g.F.Facts.facts l.facts) l.worker) (take l.dependency-index l.dependency-items)
