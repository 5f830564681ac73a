use Rattle.std.proofs.Common.{◌≡◌, ◌≤◌, ◌-◌, filter}
use Rattle.std.specs.List.{filter_map}
use Rattle.cluster_msgs.specs.Shape.{key_count}
use Rattle.cluster_rules.specs.Derived.{below}
use Rattle.cluster_rules.specs.Worker.{wstate, is_fetch_state, item_at}
use Rattle.worker_facts.specs.Stored.{facts_of}
use Rattle.worker_table.proofs.table.WorkerTable.fetchable.Given as goal

abbrev pub invariant-keys : goal.invariant-keys
invariant-keys l = record {
  made : l.items.items ≡ filter_map (λ k. item_at l.peer k ((facts_of l.self).holders k)) (filter (λ k. is_fetch_state (wstate (facts_of l.self) k)) (below l.from));
  low : l.from ≤ key_count (facts_of l.self).shape;
}

abbrev pub decreases-keys : goal.decreases-keys
decreases-keys l = key_count (facts_of l.self).shape - l.from
