use Rattle.cluster_laws.proofs.Attempts.{attempts_end}
use Rattle.cluster_laws.proofs.scheduler.attempts_end_for_a_cause.Goals as goal

pub returns : goal.returns
returns c = attempts_end
