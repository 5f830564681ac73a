use Rattle.cluster_msgs.proofs.ValueLemmas.{cone-itself, cone-closed}
use Rattle.cluster_msgs.proofs.laws.cone_is_closed.Goals as goal

pub returns-clause-itself : goal.returns-clause-itself
returns-clause-itself c = cone-itself

pub returns-clause-dependencies : goal.returns-clause-dependencies
returns-clause-dependencies c = cone-closed
