use Rattle.std.proofs.Common.{◌≡◌, length, arith}
use Rattle.cluster_rules.specs.Sched.{workers}
use Rattle.task_table.specs.Tasks.{facts}
use Rattle.sched_changes.proofs.Following.{follows_self}
use Rattle.scheduler_core.proofs.PlacingLemmas.{idle_all}
use Rattle.scheduler_core.proofs.placing.place_ready.Goals as goal

pub returns-else-has_workers : goal.returns-else-has_workers
returns-else-has_workers c =
    let f = facts c.args.table.now in
    let e : length (workers f) ≡ 0 = omega (arith, c.if-has_workers.false, c.worker_count-has_workers.ensures) in
    record { facts = idle_all f e; follows = follows_self c.args.table.now }
