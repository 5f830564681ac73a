use Rattle.quiet_laws.proofs.Bounded.{none_longer}
use Rattle.quiet_laws.proofs.none_is_longer.Goals as goal

pub returns : goal.returns
returns c = none_longer
