use Rattle.std.proofs.Common.{◌≡◌, false}
use Rattle.std.specs.List.{list_any}
use Rattle.cluster_rules.specs.Derived.{below}
use Rattle.worker_facts.specs.Stored.{facts_of, uses_key}
use Rattle.worker_facts.proofs.table.WorkerTable.is_used.Given as goal

abbrev pub invariant-loop-task : goal.invariant-loop-task
invariant-loop-task l = list_any (uses_key (facts_of l.self) l.key) (below l.task) ≡ false
