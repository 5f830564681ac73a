use Rattle.std.proofs.Common.{◌≡◌, ◌-◌, ◌≤◌}
use Rattle.cluster_rules.specs.Sched.{keys, known}
use Rattle.task_table.specs.Tasks.{facts}
use Rattle.sched_changes.specs.Follows.{Follows}
use Rattle.scheduler_core.specs.Dropped.{bad_below}
use Rattle.scheduler_core.proofs.settling.forget_errors.Given as goal

abbrev pub invariant-loop-key : goal.invariant-loop-key
invariant-loop-key l = let f = facts l.fn.table in record {
  facts : facts l.table ≡ bad_below (known f) f l.from;
  follows : Follows l.fn.table l.table;
  within : l.from ≤ keys f;
}

abbrev pub decreases-loop-key : goal.decreases-loop-key
decreases-loop-key l = keys (facts l.fn.table) - l.from
