use Rattle.cluster_rules.proofs.PolicyLemmas.{level_enough, level_least}
use Rattle.cluster_laws.proofs.scheduler.level_is_the_least.Goals as goal

pub returns : goal.returns
returns c = record { enough = level_enough; least = level_least }
