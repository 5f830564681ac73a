use Rattle.std.proofs.Common.{◌≡◌, ◌-◌, ◌≤◌, ◌++◌, filter}
use Rattle.cluster_rules.specs.Derived.{below}
use Rattle.key_sets.specs.Sets.{has}
use Rattle.spread_flags.specs.Spread.{size}
use Rattle.standing.proofs.lists.list_changes.Given as goal

abbrev pub invariant-loop-key : goal.invariant-loop-key
invariant-loop-key l = record {
  listed : l.out ≡ l.fn.out ++ filter (has l.flags.changed) (below l.from);
  within : l.from ≤ size l.flags;
}

abbrev pub decreases-loop-key : goal.decreases-loop-key
decreases-loop-key l = size l.flags - l.from
