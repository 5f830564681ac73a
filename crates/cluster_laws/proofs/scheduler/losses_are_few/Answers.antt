use Rattle.cluster_laws.proofs.Few.{few_opening, few_step}
use Rattle.cluster_laws.proofs.scheduler.losses_are_few.Goals as goal

pub returns : goal.returns
returns c = record { opening = few_opening; event = few_step }
