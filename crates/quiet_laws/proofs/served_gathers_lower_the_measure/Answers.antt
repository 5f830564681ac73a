use Rattle.quiet_laws.proofs.Serve.{serve_gather_falls}
use Rattle.quiet_laws.proofs.served_gathers_lower_the_measure.Goals as goal

pub returns : goal.returns
returns c = serve_gather_falls
