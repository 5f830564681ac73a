use Rattle.cluster_rules.proofs.ChoiceAppend.{least_by-append}
use Rattle.cluster_laws.proofs.scheduler.least_of_joined_lists.Goals as goal

pub returns : goal.returns
returns c = λ rank xs ys. least_by-append rank xs ys
