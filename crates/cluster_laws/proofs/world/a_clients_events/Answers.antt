use Rattle.cluster_laws.proofs.WorldLemmas.{want_is, release_is, client_send_is, client_fail_is, to_client_is}
use Rattle.cluster_laws.proofs.world.a_clients_events.Goals as goal

pub returns : goal.returns
returns c = record { want = want_is; release = release_is; send = client_send_is; fail = client_fail_is; to_client = to_client_is }
