use Rattle.cluster_rules.proofs.WorkerLemmas.{kept_at_first}
use Rattle.cluster_laws.proofs.worker.a_new_worker_is_kept.Goals as goal

pub returns : goal.returns
returns c = kept_at_first
