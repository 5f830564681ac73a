use Rattle.quiet_measure.proofs.Rising.{measure_rises}
use Rattle.quiet_measure.proofs.the_measure_rises.Goals as goal

pub returns : goal.returns
returns c = measure_rises
