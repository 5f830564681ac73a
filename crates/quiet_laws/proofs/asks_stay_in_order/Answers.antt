use Rattle.quiet_laws.proofs.AskSteps.{asks_after}
use Rattle.quiet_laws.proofs.asks_stay_in_order.Goals as goal

pub returns : goal.returns
returns c = asks_after
