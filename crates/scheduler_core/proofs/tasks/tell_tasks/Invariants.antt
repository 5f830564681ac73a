use Rattle.std.proofs.Common.{◌≡◌, ◌++◌, take}
use Rattle.std.specs.List.{filter_map}
use Rattle.cluster_rules.specs.SchedStep.{task_message}
use Rattle.sched_facts.specs.Stored.{facts_of}
use Rattle.scheduler_core.proofs.tasks.tell_tasks.Given as goal

abbrev pub invariant-loop-key : goal.invariant-loop-key
invariant-loop-key l = l.out ≡ l.fn.out ++ filter_map (λ k. task_message (facts_of l.table) l.since l.worker k ((facts_of l.table).on k)) (take l.key-index l.given)
