use Rattle.cluster_laws.proofs.SettledLemmas.{settled_opening, settled_step}
use Rattle.cluster_laws.proofs.scheduler.facts_stay_settled.Goals as goal

pub returns-clause-opening : goal.returns-clause-opening
returns-clause-opening c = settled_opening

pub returns-clause-event : goal.returns-clause-event
returns-clause-event c = settled_step
