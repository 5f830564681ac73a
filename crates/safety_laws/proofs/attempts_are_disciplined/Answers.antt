use Rattle.safety_laws.proofs.Unstarted.{one_attempt}
use Rattle.safety_laws.proofs.attempts_are_disciplined.Goals as goal

pub returns : goal.returns
returns c = one_attempt
