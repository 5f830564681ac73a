use Rattle.std.proofs.Common.{get_or}
use Rattle.gather_client.specs.CoreState.{client_facts}
use Rattle.node_links.proofs.Recorded.{went_of}
use Rattle.node_states.specs.Fitting.{ClientFits}
use Rattle.node_states.proofs.ClientLaw.{client_fits}
use Rattle.node_states.proofs.Kept.{kept_by}
use Rattle.node_states.proofs.client.ClientTurnActClientNode.act.Goals as goal

pub returns-clause-went : goal.returns-clause-went
returns-clause-went g c = went_of (λ s. s.book) _ c.args.state.now c.serve.new.self c.serve.ensures.recorded

pub returns-clause-fits : goal.returns-clause-fits
returns-clause-fits g c = (
  kept_by _ _ (λ s. ClientFits g.L.Label.facts (client_facts s.core)) (λ s e t b p. client_fits g.L.Label.facts (client_facts s.core) (client_facts t.core) e b.2 p b.1.facts) c.args.state.now.book c.serve.new.self.book
      c.serve.ensures.recorded c.requires.fits.0,
  λ k d lt. (get_or c.serve.new.self.came.items k d).fits,
)
