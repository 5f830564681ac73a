use Rattle.scheduler_core.specs.Cores.{facts}
use Rattle.node_states.proofs.SchedLaw.{made_fits, sched_fits}
use Rattle.node_states.proofs.cores.SchedulingCoreMachine.take.Goals as goal

pub new-requires : goal.new-requires
new-requires g c = made_fits g.L.Label.facts (facts c.self.inside.core) c.into_event.result c.new-made.result c.on.new.out c.sound.ensures.shape c.into_event.ensures.fits (c.self.invariant c.if-self.false) c.new-made.ensures.clients c.in-Ok.ensures.out

pub invariant_of-self : goal.invariant_of-self
invariant_of-self g c = λ t. sched_fits g.L.Label.facts (facts c.self.inside.core) (facts c.on.new.self) c.into_event.result c.into_event.ensures.fits (c.self.invariant t) c.in-Ok.ensures.facts c.on.ensures.setting
