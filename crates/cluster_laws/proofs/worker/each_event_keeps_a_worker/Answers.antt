use Rattle.cluster_rules.proofs.WorkerLemmas.{kept_by_event}
use Rattle.cluster_laws.proofs.worker.each_event_keeps_a_worker.Goals as goal

pub returns : goal.returns
returns c = kept_by_event
