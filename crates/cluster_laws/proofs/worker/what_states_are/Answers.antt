use Rattle.cluster_rules.proofs.WorkerLemmas.{ready_state-is, fetch_state-is, missing_state-is, unstarted_state-is}
use Rattle.cluster_laws.proofs.worker.what_states_are.Goals as goal

pub returns : goal.returns
returns c = record { ready = ready_state-is; fetch = fetch_state-is; missing = missing_state-is; unstarted = unstarted_state-is }
