use Rattle.std.proofs.Common.{rules}
use Rattle.client_futures.proofs.gathering.GatherAllFuture.poll.Goals as goal

pub returns-in-Some-look-clause-value : goal.returns-in-Some-look-clause-value
returns-in-Some-look-clause-value g c =
    let on = g.met.R.Rounds.on in
    record {
      at = c.look-2.new.self.rounds.now;
      led = on _ _ _ c.look.ensures.leads (on _ _ _ c.round-driven.ensures.leads c.look-2.ensures.leads);
      answer = search rules;
    }
