use Rattle.cluster_rules.proofs.SchedFrame.{step_settles}
use Rattle.cluster_laws.proofs.scheduler.settling_only_drops_and_places.Goals as goal

pub returns : goal.returns
returns c = step_settles
