use Rattle.std.proofs.Common.{◌≡◌, take}
use Rattle.task_table.specs.Tasks.{facts}
use Rattle.sched_changes.specs.Follows.{Follows}
use Rattle.scheduler_core.specs.Posted.{posted_mail}
use Rattle.scheduler_core.proofs.posts.post_all.Given as goal

abbrev pub invariant-loop-message : goal.invariant-loop-message
invariant-loop-message l = record {
  facts : facts l.table ≡ posted_mail (facts l.fn.table) (take l.message-index l.mail);
  follows : Follows l.fn.table l.table;
}
