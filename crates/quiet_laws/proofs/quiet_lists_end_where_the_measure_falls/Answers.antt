use Rattle.quiet_laws.proofs.Ends.{quietly_ends}
use Rattle.quiet_laws.proofs.quiet_lists_end_where_the_measure_falls.Goals as goal

pub returns : goal.returns
returns c = quietly_ends
