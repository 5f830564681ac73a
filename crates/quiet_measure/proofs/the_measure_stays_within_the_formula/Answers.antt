use Rattle.quiet_measure.proofs.Scheduled.{stays_within}
use Rattle.quiet_measure.proofs.the_measure_stays_within_the_formula.Goals as goal

pub returns : goal.returns
returns c = stays_within
