use Rattle.cluster_msgs.proofs.ValueLemmas.{cone-step}
use Rattle.cluster_msgs.proofs.laws.cone_by_dependencies.Goals as goal

pub returns : goal.returns
returns c = cone-step
