use Rattle.std.proofs.Common.{◌≡◌, ◌≤◌, length}
use Rattle.std.specs.List.{filter}
use Rattle.cluster_rules.specs.Functions.{from_one}
use Rattle.cluster_rules.specs.Sched.{connected}
use Rattle.sched_facts.specs.Stored.{facts_of}
use Rattle.sched_facts.proofs.table.FactTable.connected_count.Given as goal

abbrev pub invariant-loop-before : goal.invariant-loop-before
invariant-loop-before l = record {
  is : l.count ≡ length (filter (connected (facts_of l.self)) (from_one l.before));
  few : l.count ≤ l.before;
}
