use Rattle.std.proofs.Common.{◌≡◌, ◌≤◌, ◌-◌, false, is_some}
use Rattle.std.specs.List.{list_any}
use Rattle.cluster_msgs.specs.Shape.{key_count}
use Rattle.cluster_rules.specs.Derived.{below}
use Rattle.gather_client.specs.Stored.{facts_of}
use Rattle.gather_client.specs.Steps.{open_item}
use Rattle.gather_client.proofs.table.ClientTable.has_fetchable.Given as goal

abbrev pub invariant-keys : goal.invariant-keys
invariant-keys l = record {
  none : list_any (λ k. is_some (open_item (facts_of l.self) l.peer k)) (below l.from) ≡ false;
  low : l.from ≤ key_count (facts_of l.self).shape;
}

abbrev pub decreases-keys : goal.decreases-keys
decreases-keys l = key_count (facts_of l.self).shape - l.from
