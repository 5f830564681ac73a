use Rattle.cluster_laws.proofs.Losses.{step_losses}
use Rattle.cluster_laws.proofs.scheduler.losses_of_an_event.Goals as goal

pub returns : goal.returns
returns c = step_losses
