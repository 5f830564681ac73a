use Rattle.safety_laws.proofs.Safety.{agrees_after}
use Rattle.safety_laws.proofs.drained_workers_agree.Goals as goal

pub returns : goal.returns
returns c = agrees_after
