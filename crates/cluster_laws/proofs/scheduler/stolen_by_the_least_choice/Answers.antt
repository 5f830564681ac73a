use Rattle.cluster_rules.proofs.ChoiceLemmas.{least_by_least}
use Rattle.cluster_rules.specs.Policies.{steal_rank, steal_choices, next_steal}
use Rattle.cluster_laws.proofs.scheduler.stolen_by_the_least_choice.Goals as goal

pub returns : goal.returns
unfolding next_steal
returns c f = least_by_least (steal_rank f) (steal_choices f)
