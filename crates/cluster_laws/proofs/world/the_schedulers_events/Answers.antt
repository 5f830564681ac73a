use Rattle.cluster_laws.proofs.WorldLemmas.{suspect_is, balance_is, evict_is, replicate_is, from_client_is, up_is, dropped_is}
use Rattle.cluster_laws.proofs.world.the_schedulers_events.Goals as goal

pub returns : goal.returns
returns c = record { suspect = suspect_is; balance = balance_is; evict = evict_is; replicate = replicate_is; from_client = from_client_is; up = up_is; dropped = dropped_is }
