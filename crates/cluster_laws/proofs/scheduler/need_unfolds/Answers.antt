use Rattle.cluster_rules.proofs.SchedLemmas.{need-is}
use Rattle.cluster_laws.proofs.scheduler.need_unfolds.Goals as goal

pub returns : goal.returns
returns c = need-is
