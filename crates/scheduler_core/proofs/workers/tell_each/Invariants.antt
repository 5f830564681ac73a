use Rattle.std.proofs.Common.{◌≡◌, ◌++◌}
use Rattle.std.specs.List.{flat_map, filter, range_with_len}
use Rattle.cluster_rules.specs.Sched.{connected}
use Rattle.sched_facts.specs.Stored.{facts_of}
use Rattle.scheduler_core.specs.Mail.{mail_by, lost_by}
use Rattle.scheduler_core.proofs.workers.tell_each.Given as goal

abbrev pub invariant-loop-before : goal.invariant-loop-before
invariant-loop-before l = l.out ≡ l.fn.out ++ flat_map (mail_by (facts_of l.table) (lost_by l.errand.lost.items) l.errand.since l.errand.answer) (filter (connected (facts_of l.table)) (range_with_len 1 l.before))
