use Rattle.quiet_measure.proofs.Gathers.{send_falls, arrive_falls, fail_falls}
use Rattle.quiet_measure.proofs.gathers_lower_the_measure.Goals as goal

pub returns : goal.returns
returns c = record { send = send_falls; arrive = arrive_falls; fail = fail_falls }
