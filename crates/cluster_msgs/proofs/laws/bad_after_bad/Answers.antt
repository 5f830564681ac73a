use Rattle.cluster_msgs.proofs.ValueLemmas.{val-bad}
use Rattle.cluster_msgs.proofs.laws.bad_after_bad.Goals as goal

pub returns : goal.returns
returns g c = val-bad
