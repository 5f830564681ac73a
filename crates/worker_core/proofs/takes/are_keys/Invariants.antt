use Rattle.std.proofs.Common.{◌≡◌, true, take}
use Rattle.cluster_rules.specs.WorkerStep.{are_keys}
use Rattle.worker_facts.specs.Stored.{facts_of}
use Rattle.worker_core.proofs.takes.are_keys.Given as goal

abbrev pub invariant-loop-key : goal.invariant-loop-key
invariant-loop-key l = are_keys (facts_of l.table) (take l.key-index l.keys) ≡ true
