use Rattle.std.proofs.Common.{◌≡◌, take}
use Rattle.cluster_rules.specs.Sched.{keys}
use Rattle.cluster_rules.specs.SchedTable.{add_keys}
use Rattle.task_table.specs.Tasks.{facts}
use Rattle.sched_changes.specs.Follows.{Follows}
use Rattle.sched_changes.specs.Pairs.{so_far}
use Rattle.sched_changes.proofs.ChangeLemmas.{IsAdded}
use Rattle.sched_changes.proofs.changes.add_all.Given as goal

abbrev pub invariant-loop-key : goal.invariant-loop-key
invariant-loop-key l = record {
  change : so_far (facts l.table) l.freed ≡ add_keys l.worker l.seen (so_far (facts l.fn.table) l.fn.freed) (take l.key-index l.added);
  follows : Follows l.fn.table l.table;
  kept : IsAdded (facts l.fn.table) (facts l.table) l.worker (keys (facts l.fn.table));
}
