use Rattle.cluster_rules.proofs.SchedLemmas.{is_some-blame}
use Rattle.cluster_laws.proofs.scheduler.erred_keys_are_blamed.Goals as goal

pub returns : goal.returns
returns c = is_some-blame
