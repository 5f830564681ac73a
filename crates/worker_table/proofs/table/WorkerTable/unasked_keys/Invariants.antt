use Rattle.std.proofs.Common.{◌≡◌, ◌≤◌, ◌-◌, ◌&&◌, not, filter}
use Rattle.cluster_msgs.specs.Shape.{key_count}
use Rattle.cluster_rules.specs.Derived.{below}
use Rattle.cluster_rules.specs.Worker.{wstate, is_missing_state}
use Rattle.worker_facts.specs.Stored.{facts_of}
use Rattle.worker_table.proofs.table.WorkerTable.unasked_keys.Given as goal

abbrev pub invariant-keys : goal.invariant-keys
invariant-keys l = record {
  made : l.keys ≡ filter (λ k. is_missing_state (wstate (facts_of l.self) k) && not ((facts_of l.self).asked k)) (below l.from);
  low : l.from ≤ key_count (facts_of l.self).shape;
}

abbrev pub decreases-keys : goal.decreases-keys
decreases-keys l = key_count (facts_of l.self).shape - l.from
