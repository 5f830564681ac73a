use Rattle.cluster_rules.proofs.DerivedLemmas.{reach-is}
use Rattle.cluster_laws.proofs.scheduler.reached_from_dependents.Goals as goal

pub returns : goal.returns
returns c = reach-is
