use Rattle.std.proofs.Common.{◌≡◌, ◌≤◌, ◌-◌, ◌&&◌, filter}
use Rattle.cluster_msgs.specs.Shape.{key_count}
use Rattle.cluster_rules.specs.Derived.{below, is_in}
use Rattle.cluster_rules.specs.Worker.{awaited}
use Rattle.worker_facts.specs.Stored.{facts_of}
use Rattle.worker_core.proofs.told.refused_keys.Given as goal

abbrev pub invariant-keys : goal.invariant-keys
invariant-keys l = record {
  made : l.list ≡ filter (λ k. is_in k l.keys && ((facts_of l.table).mem k && awaited (facts_of l.table) k)) (below l.from);
  low : l.from ≤ key_count (facts_of l.table).shape;
}

abbrev pub decreases-keys : goal.decreases-keys
decreases-keys l = key_count (facts_of l.table).shape - l.from
