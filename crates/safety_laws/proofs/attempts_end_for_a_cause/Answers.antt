use Rattle.safety_laws.proofs.Attempts.{attempts_end_after}
use Rattle.safety_laws.proofs.attempts_end_for_a_cause.Goals as goal

pub returns : goal.returns
returns c = attempts_end_after
