use Rattle.std.proofs.Common.{◌≡◌, ◌<◌, ◌≤◌, ◌-◌, filter, length}
use Rattle.std.specs.List.{filter_map}
use Rattle.cluster_msgs.specs.Shape.{key_count}
use Rattle.cluster_rules.specs.Derived.{below}
use Rattle.cluster_rules.specs.Worker.{item_at}
use Rattle.cluster_rules.specs.Client.{is_open}
use Rattle.gather_client.specs.Stored.{facts_of}
use Rattle.gather_client.proofs.table.ClientTable.first_fetchable.Given as goal

abbrev pub invariant-keys : goal.invariant-keys
invariant-keys l = record {
  made : l.items.items ≡ filter_map (λ k. item_at l.peer k ((facts_of l.self).located k)) (filter (is_open (facts_of l.self)) (below l.from));
  few : length l.items.items < 16;
  low : l.from ≤ key_count (facts_of l.self).shape;
}

abbrev pub decreases-keys : goal.decreases-keys
decreases-keys l = key_count (facts_of l.self).shape - l.from
