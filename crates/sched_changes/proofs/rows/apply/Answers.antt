use Rattle.std.proofs.Common.{◌≡◌, true, subst}
use Rattle.cluster_msgs.specs.declared.cores.SchedEvent.{SchedEvent}
use Rattle.cluster_rules.specs.Sched.{Facts}
use Rattle.cluster_rules.specs.SchedTable.{sched_takes}
use Rattle.task_table.specs.Tasks.{facts}
use Rattle.sched_changes.proofs.RowLemmas.{joins, leaves, tells, asks}
use Rattle.sched_changes.proofs.rows.apply.Goals as goal

-- the event that is taken is this one
this : (f : Facts) (d e : SchedEvent) → d ≡ e → sched_takes f d ≡ true → sched_takes f e ≡ true
this f d e p h = subst (λ (x : SchedEvent). sched_takes f x ≡ true) p h

pub join-requires-clause-threads : goal.join-requires-clause-threads
join-requires-clause-threads c = (joins (facts c.args.table.now) c.in-Join.threads (this (facts c.args.table.now) _ _ c.in-Join.is c.requires.takes)).threads_fit

pub join-requires-clause-workers : goal.join-requires-clause-workers
join-requires-clause-workers c = (joins (facts c.args.table.now) c.in-Join.threads (this (facts c.args.table.now) _ _ c.in-Join.is c.requires.takes)).few_workers

pub join-requires-clause-numbers : goal.join-requires-clause-numbers
join-requires-clause-numbers c = (joins (facts c.args.table.now) c.in-Join.threads (this (facts c.args.table.now) _ _ c.in-Join.is c.requires.takes)).few_numbers

pub leave-requires-clause-worker : goal.leave-requires-clause-worker
leave-requires-clause-worker c = leaves (facts c.args.table.now) c.in-Leave.w (this (facts c.args.table.now) _ _ c.in-Leave.is c.requires.takes)

pub hear_worker-requires-clause-worker : goal.hear_worker-requires-clause-worker
hear_worker-requires-clause-worker c = (tells (facts c.args.table.now) c.in-FromWorker.w _ (this (facts c.args.table.now) _ _ c.in-FromWorker.is c.requires.takes)).0

pub hear_worker-requires-clause-keys : goal.hear_worker-requires-clause-keys
hear_worker-requires-clause-keys c = (tells (facts c.args.table.now) c.in-FromWorker.w _ (this (facts c.args.table.now) _ _ c.in-FromWorker.is c.requires.takes)).1

pub hear_client-requires-clause-first : goal.hear_client-requires-clause-first
hear_client-requires-clause-first c = (asks (facts c.args.table.now) c.in-FromClient.c _ (this (facts c.args.table.now) _ _ c.in-FromClient.is c.requires.takes)).0

pub hear_client-requires-clause-client : goal.hear_client-requires-clause-client
hear_client-requires-clause-client c = (asks (facts c.args.table.now) c.in-FromClient.c _ (this (facts c.args.table.now) _ _ c.in-FromClient.is c.requires.takes)).1

pub hear_client-requires-clause-keys : goal.hear_client-requires-clause-keys
hear_client-requires-clause-keys c = (asks (facts c.args.table.now) c.in-FromClient.c _ (this (facts c.args.table.now) _ _ c.in-FromClient.is c.requires.takes)).2
