use Rattle.std.proofs.Common.{◌≡◌, take}
use Rattle.task_table.specs.Tasks.{facts}
use Rattle.sched_changes.specs.Follows.{Follows}
use Rattle.scheduler_core.specs.Posted.{fenced}
use Rattle.scheduler_core.proofs.posts.raise_fences.Given as goal

abbrev pub invariant-loop-key : goal.invariant-loop-key
invariant-loop-key l = record {
  facts : facts l.table ≡ fenced (facts l.fn.table) l.worker (take l.key-index l.taken);
  follows : Follows l.fn.table l.table;
}
