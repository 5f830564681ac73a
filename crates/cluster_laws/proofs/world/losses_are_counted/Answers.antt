use Rattle.cluster_laws.proofs.Counted.{losses_are, killed_is, never_killed}
use Rattle.cluster_laws.proofs.world.losses_are_counted.Goals as goal

pub returns : goal.returns
returns c = record { losses = losses_are; killed = killed_is; unbounded = λ j es k e h. never_killed j es e k h }
