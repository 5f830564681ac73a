use Rattle.cluster_msgs.proofs.ValueLemmas.{cone-below}
use Rattle.cluster_msgs.proofs.laws.cone_is_below.Goals as goal

pub returns : goal.returns
returns c = cone-below
