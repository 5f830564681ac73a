use Rattle.std.proofs.Common.{◌≡◌, length}
use Rattle.cluster_rules.specs.Worker.{without_ask}
use Rattle.worker_facts.specs.Stored.{facts_of}
use Rattle.worker_table.proofs.table.WorkerTable.close_ask.Given as goal

abbrev pub invariant-asks : goal.invariant-asks
invariant-asks l = record {
  same : facts_of l.self ≡ record (facts_of l.fn.self) { asks = (facts_of l.self).asks };
  rest : without_ask (facts_of l.self).asks l.peer ≡ without_ask (facts_of l.fn.self).asks l.peer;
}

abbrev pub decreases-asks : goal.decreases-asks
decreases-asks l = length (facts_of l.self).asks
