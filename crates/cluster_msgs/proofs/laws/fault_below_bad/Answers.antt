use Rattle.cluster_msgs.proofs.ValueLemmas.{bad-fault}
use Rattle.cluster_msgs.proofs.laws.fault_below_bad.Goals as goal

pub returns : goal.returns
returns g c = bad-fault
