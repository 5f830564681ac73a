use Rattle.cluster_laws.proofs.WorldLemmas.{start_is, finish_is, lose_spilled_is, spill_is, send_is, fail_is, down_is}
use Rattle.cluster_laws.proofs.world.a_workers_events.Goals as goal

pub returns : goal.returns
returns c = record { start = start_is; finish = finish_is; lose_spilled = lose_spilled_is; spill = spill_is; send = send_is; fail = fail_is; down = down_is }
