use Rattle.cluster_msgs.proofs.ValueLemmas.{val-values, faulty-values}
use Rattle.cluster_msgs.proofs.laws.value_of_values.Goals as goal

pub returns : goal.returns
returns g c deps op e k vs h = (val-values deps op e k vs h, faulty-values deps op e k vs h)
