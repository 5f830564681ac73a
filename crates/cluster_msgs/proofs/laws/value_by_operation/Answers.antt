use Rattle.cluster_msgs.proofs.ValueLemmas.{val-step}
use Rattle.cluster_msgs.proofs.laws.value_by_operation.Goals as goal

pub returns : goal.returns
returns g c = val-step
