use Rattle.cluster_rules.specs.Worker.{flying}
use Rattle.worker_facts.specs.Stored.{facts_of}
use Rattle.worker_facts.proofs.table.WorkerTable.is_flying.Goals as goal

pub returns : goal.returns
unfolding facts_of flying
returns c = rw (← c.self.view_is) c.names.ensures
