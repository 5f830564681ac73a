use Rattle.cluster_rules.proofs.PolicyLemmas.{next_drop_is}
use Rattle.cluster_laws.proofs.scheduler.dropped_at_the_most_loaded_holder.Goals as goal

pub returns : goal.returns
returns c = next_drop_is
