use Rattle.std.proofs.Common.{◌≡◌, ◌-◌, ◌≤◌, true}
use Rattle.cluster_rules.specs.Sched.{keys}
use Rattle.task_table.specs.Tasks.{facts}
use Rattle.sched_changes.specs.Follows.{Follows}
use Rattle.scheduler_core.specs.Roots.{RootsWait}
use Rattle.scheduler_core.proofs.PlacingLemmas.{IsPlaced}
use Rattle.scheduler_core.proofs.placing.place_queued.Given as goal

abbrev pub invariant-loop-key : goal.invariant-loop-key
invariant-loop-key l = record {
  placed : IsPlaced (facts l.fn.table) (facts l.table) l.from;
  roots : l.roots_wait ≡ true → RootsWait (facts l.table);
  follows : Follows l.fn.table l.table;
  within : l.from ≤ keys (facts l.fn.table);
}

abbrev pub decreases-loop-key : goal.decreases-loop-key
decreases-loop-key l = keys (facts l.fn.table) - l.from
