use Rattle.client_futures.proofs.OpenLemmas.{open_after}
use Rattle.client_futures.proofs.gathering.GatherAll.look.Goals as goal

pub returns-in-Some-collect-clause-waits : goal.returns-in-Some-collect-clause-waits
returns-in-Some-collect-clause-waits g c =
    let stood = rw c.as_slice.ensures at c.in_default.ensures in
    let gone = rw c.as_slice-3.ensures at c.in-Some-collect.ensures.gone in
    open_after (g.R.Rounds.seen c.args.self.now.rounds.now).ends (g.R.Rounds.seen c.collect.new.rounds).ends c.args.self.now.keys c.in-Some-collect.at
    c.collect.ensures.stand stood gone.0 gone.1
