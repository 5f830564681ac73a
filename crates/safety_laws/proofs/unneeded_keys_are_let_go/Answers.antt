use Rattle.safety_laws.proofs.Safety.{let_go_after}
use Rattle.safety_laws.proofs.unneeded_keys_are_let_go.Goals as goal

pub returns : goal.returns
returns c = let_go_after
