use Rattle.std.proofs.Common.{refl}
use Rattle.scheduler_core.specs.Cores.{facts}
use Rattle.cluster_world.specs.Worlds.{running}
use Rattle.safety_laws.proofs.Joint.{joint_after}
use Rattle.safety_laws.proofs.Safety.{is_job}
use Rattle.cluster_world.proofs.Making.{safe_now}
use Rattle.cluster_world.proofs.world.World.is_safe.Goals as goal

pub returns : goal.returns
returns g c =
    let s = c.self.inside.state in
    let safe = c.schedules_are_safe.ensures.sound (running g.J.JobSpec.operation s) (facts s.sched) c.sound.ensures refl in
    rw (← c.self.view_is) (record { events = safe; losses = λ es l k a e. (joint_after (running g.J.JobSpec.operation s) (is_job (running g.J.JobSpec.operation s) (facts s.sched) c.sound.ensures refl) es l).settled.losses_stop k a e; made = c.self.invariant.made; world = safe_now g.J.JobSpec.operation s safe })
