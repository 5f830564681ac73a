use Rattle.std.proofs.Common.{◌≡◌, take}
use Rattle.cluster_rules.specs.Sched.{who_has}
use Rattle.sched_facts.specs.Stored.{facts_of}
use Rattle.scheduler_core.proofs.copies.who_has.Given as goal

abbrev pub invariant-loop-key : goal.invariant-loop-key
invariant-loop-key l = l.all ≡ who_has (facts_of l.table) (take l.key-index l.asked)
