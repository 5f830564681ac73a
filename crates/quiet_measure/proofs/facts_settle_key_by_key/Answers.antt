use Rattle.quiet_measure.proofs.Settle.{settles_at}
use Rattle.quiet_measure.proofs.facts_settle_key_by_key.Goals as goal

pub returns : goal.returns
returns c = settles_at
