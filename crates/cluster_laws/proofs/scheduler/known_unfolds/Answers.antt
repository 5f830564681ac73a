use Rattle.cluster_rules.proofs.SchedLemmas.{known-is}
use Rattle.cluster_laws.proofs.scheduler.known_unfolds.Goals as goal

pub returns : goal.returns
returns c = known-is
