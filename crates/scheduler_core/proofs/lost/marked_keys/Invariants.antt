use Rattle.std.proofs.Common.{◌≡◌, ◌-◌, ◌≤◌}
use Rattle.std.specs.List.{filter}
use Rattle.cluster_rules.specs.Derived.{below}
use Rattle.key_sets.specs.Sets.{has}
use Rattle.scheduler_core.proofs.lost.marked_keys.Given as goal

abbrev pub invariant-loop-key : goal.invariant-loop-key
invariant-loop-key l = record {
  taken : l.all ≡ filter (has l.marks) (below l.from);
  within : l.from ≤ l.count;
}

abbrev pub decreases-loop-key : goal.decreases-loop-key
decreases-loop-key l = l.count - l.from
