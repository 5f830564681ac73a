use Rattle.std.proofs.Common.{◌≡◌, ◌-◌, ◌^◌}
use Rattle.std.specs.Prelude.{min}
use Rattle.cluster_rules.specs.Derived.{below}
use Rattle.cluster_rules.specs.Worker.{pair_count}
use Rattle.gather_client.specs.Stored.{facts_of}
use Rattle.gather_client.proofs.table.ClientTable.pairs.Given as goal

abbrev pub invariant-loop-key : goal.invariant-loop-key
invariant-loop-key l = l.total ≡ min (pair_count (facts_of l.self).located (below l.key)) (2 ^ 64 - 1)
