use Rattle.cluster_msgs.proofs.ValueLemmas.{cone-least}
use Rattle.cluster_msgs.proofs.laws.cone_is_least.Goals as goal

pub returns : goal.returns
returns c = cone-least
