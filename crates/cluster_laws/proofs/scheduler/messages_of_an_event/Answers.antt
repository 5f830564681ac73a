use Rattle.std.proofs.Common.{refl}
use Rattle.cluster_rules.specs.SchedStep.{sched_step, finish_step}
use Rattle.cluster_laws.proofs.scheduler.messages_of_an_event.Goals as goal

pub returns : goal.returns
unfolding sched_step finish_step
returns c f e taken = (refl, refl, refl)
