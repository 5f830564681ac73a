use Rattle.cluster_msgs.proofs.ValueLemmas.{faulty-operation}
use Rattle.cluster_msgs.proofs.laws.faulty_operation.Goals as goal

pub returns : goal.returns
returns g c = faulty-operation
