use Rattle.std.proofs.Common.{◌≡◌, take}
use Rattle.cluster_rules.specs.Functions.{total}
use Rattle.placement.specs.Costs.{fetched_bytes}
use Rattle.placement.proofs.bytes.missing_bytes.Given as goal

abbrev pub invariant-loop-dependency : goal.invariant-loop-dependency
invariant-loop-dependency g l = l.total ≡ total (fetched_bytes (g.F.Facts.facts l.facts) l.worker) (take l.dependency-index l.dependency-items)
