use Rattle.safety_laws.proofs.Responsive.{lively_after}
use Rattle.safety_laws.proofs.some_progress_is_enabled.Goals as goal

pub returns : goal.returns
returns c = lively_after
