use Rattle.std.proofs.Common.{◌≡◌, ◌-◌, ◌≤◌}
use Rattle.std.specs.List.{filter}
use Rattle.cluster_rules.specs.Derived.{below}
use Rattle.cluster_rules.specs.Sched.{keys}
use Rattle.task_table.specs.Tasks.{facts}
use Rattle.scheduler_core.specs.Mail.{is_since}
use Rattle.scheduler_core.proofs.tasks.given_keys.Given as goal

abbrev pub invariant-loop-key : goal.invariant-loop-key
invariant-loop-key l = record {
  given : l.all ≡ filter (λ k. is_since l.since ((facts l.table).on k)) (below l.from);
  within : l.from ≤ keys (facts l.table);
}

abbrev pub decreases-loop-key : goal.decreases-loop-key
decreases-loop-key l = keys (facts l.table) - l.from
