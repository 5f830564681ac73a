use Rattle.cluster_rules.proofs.SchedLemmas.{erred-is}
use Rattle.cluster_laws.proofs.scheduler.erred_unfolds.Goals as goal

pub returns : goal.returns
returns c = erred-is
