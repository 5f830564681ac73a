use Rattle.std.proofs.Common.{◌≡◌, true, take}
use Rattle.cluster_rules.specs.WorkerStep.{are_named}
use Rattle.worker_facts.specs.Stored.{facts_of}
use Rattle.worker_core.proofs.takes.are_named.Given as goal

abbrev pub invariant-loop-pair : goal.invariant-loop-pair
invariant-loop-pair l = are_named (facts_of l.table) (take l.pair-index l.who_has) ≡ true
