use Rattle.cluster_rules.proofs.SchedLemmas.{blame-is}
use Rattle.cluster_laws.proofs.scheduler.blame_unfolds.Goals as goal

pub returns : goal.returns
returns c = blame-is
