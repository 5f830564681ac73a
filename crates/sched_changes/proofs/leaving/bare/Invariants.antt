use Rattle.std.proofs.Common.{◌≡◌, ◌-◌, ◌≤◌}
use Rattle.cluster_rules.specs.Sched.{keys}
use Rattle.sched_facts.specs.Kept.{left_below}
use Rattle.task_table.specs.Tasks.{facts}
use Rattle.sched_changes.specs.Follows.{Follows}
use Rattle.sched_changes.proofs.leaving.bare.Given as goal

abbrev pub invariant-loop-key : goal.invariant-loop-key
invariant-loop-key l = let f = facts l.fn.table in record {
  facts : facts l.table ≡ left_below l.worker f l.from;
  follows : Follows l.fn.table l.table;
  within : l.from ≤ keys f;
}

abbrev pub decreases-loop-key : goal.decreases-loop-key
decreases-loop-key l = keys (facts l.fn.table) - l.from
