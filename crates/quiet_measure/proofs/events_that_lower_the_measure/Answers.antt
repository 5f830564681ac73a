use Rattle.quiet_measure.proofs.Finish.{finish_falls}
use Rattle.quiet_measure.proofs.Asked.{deliver_steal_request_falls}
use Rattle.quiet_measure.proofs.News.{deliver_to_client_falls}
use Rattle.quiet_measure.proofs.Start.{start_falls}
use Rattle.quiet_measure.proofs.events_that_lower_the_measure.Goals as goal

pub returns : goal.returns
returns c = record { to_client = deliver_to_client_falls; start = start_falls; finish = finish_falls; steal_request = deliver_steal_request_falls }
