use Rattle.std.proofs.Common.{◌≡◌, ◌-◌, ◌≤◌, ◌&&◌, ◌||◌, ℕ, not, ltb}
use Rattle.cluster_rules.specs.Sched.{keys, need, holds}
use Rattle.task_table.specs.Tasks.{facts}
use Rattle.sched_changes.specs.Follows.{Follows}
use Rattle.sched_changes.specs.Pairs.{has_pair}
use Rattle.scheduler_core.specs.Dropped.{has_below}
use Rattle.scheduler_core.proofs.settling.drop_copies.Given as goal

abbrev pub invariant-loop-key : goal.invariant-loop-key
invariant-loop-key l = let f = facts l.fn.table in record {
  facts : facts l.table ≡ has_below (need f) f l.from;
  lost : (w k : ℕ) → has_pair l.lost w k ≡ (has_pair l.fn.lost w k || (holds f w k && (ltb k l.from && not (need f k))));
  follows : Follows l.fn.table l.table;
  within : l.from ≤ keys f;
}

abbrev pub decreases-loop-key : goal.decreases-loop-key
decreases-loop-key l = keys (facts l.fn.table) - l.from
