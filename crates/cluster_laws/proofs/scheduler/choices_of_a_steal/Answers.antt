use Rattle.cluster_rules.proofs.PolicyLemmas.{steal_choice_from, steal_choice_to}
use Rattle.cluster_laws.proofs.scheduler.choices_of_a_steal.Goals as goal

pub returns : goal.returns
returns c = record { only = steal_choice_from; all = steal_choice_to }
