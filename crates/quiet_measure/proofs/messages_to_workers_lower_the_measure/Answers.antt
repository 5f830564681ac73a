use Rattle.quiet_measure.proofs.Freed.{free_falls}
use Rattle.quiet_measure.proofs.Listed.{refresh_falls, acquire_falls}
use Rattle.quiet_measure.proofs.Given.{task_falls}
use Rattle.quiet_measure.proofs.Removed.{remove_falls}
use Rattle.quiet_measure.proofs.messages_to_workers_lower_the_measure.Goals as goal

pub returns : goal.returns
returns c = record { free = free_falls; refresh = refresh_falls; acquire = acquire_falls; remove = remove_falls; task = task_falls }
