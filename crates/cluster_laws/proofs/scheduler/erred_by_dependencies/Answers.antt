use Rattle.cluster_rules.proofs.DerivedLemmas.{err-is}
use Rattle.cluster_laws.proofs.scheduler.erred_by_dependencies.Goals as goal

pub returns : goal.returns
returns c = err-is
