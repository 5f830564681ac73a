use Rattle.std.proofs.Common.{◌≡◌, true, take}
use Rattle.std.specs.List.{list_all}
use Rattle.cluster_rules.specs.Sched.{held}
use Rattle.sched_facts.specs.Stored.{facts_of}
use Rattle.sched_facts.proofs.derived.all_held.Given as goal

abbrev pub invariant-loop-key : goal.invariant-loop-key
invariant-loop-key l = list_all (held (facts_of l.table)) (take l.key-index l.keys) ≡ true
