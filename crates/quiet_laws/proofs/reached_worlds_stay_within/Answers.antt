use Rattle.quiet_laws.proofs.ListWorlds.{bounded_after, within_after}
use Rattle.quiet_laws.proofs.reached_worlds_stay_within.Goals as goal

pub returns : goal.returns
returns c = record { bounded = bounded_after; within = within_after }
