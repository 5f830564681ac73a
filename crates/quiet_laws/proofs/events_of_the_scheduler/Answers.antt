use Rattle.quiet_laws.proofs.Every.{each_up_falls, each_letter_falls, each_loss_falls}
use Rattle.quiet_laws.proofs.events_of_the_scheduler.Goals as goal

pub returns : goal.returns
returns c = record { up = each_up_falls; letter = each_letter_falls; loss = each_loss_falls }
