use Rattle.cluster_msgs.proofs.ValueLemmas.{bad-above}
use Rattle.cluster_msgs.proofs.laws.bad_above_fault.Goals as goal

pub returns : goal.returns
returns g c = bad-above
