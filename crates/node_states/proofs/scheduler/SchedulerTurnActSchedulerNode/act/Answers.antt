use Rattle.scheduler_core.specs.Cores.{facts}
use Rattle.node_links.proofs.Recorded.{went_of}
use Rattle.node_states.specs.Fitting.{SchedFits}
use Rattle.node_states.proofs.SchedLaw.{sched_fits}
use Rattle.node_states.proofs.Kept.{kept_by}
use Rattle.node_states.proofs.scheduler.SchedulerTurnActSchedulerNode.act.Goals as goal

pub returns-clause-went : goal.returns-clause-went
returns-clause-went g c = went_of (λ s. s.history.book) _ c.args.state.now c.serve.new.self c.serve.ensures.recorded

pub returns-clause-fits : goal.returns-clause-fits
returns-clause-fits g c = kept_by _ _ (λ s. SchedFits g.L.Label.facts (facts s.core)) (λ s e t b p. sched_fits g.L.Label.facts (facts s.core) (facts t.core) e b.2 p b.1.facts b.1.setting) c.args.state.now.history.book c.serve.new.self.history.book c.serve.ensures.recorded c.requires.fits
