use Rattle.safety_laws.proofs.Safety.{known_after}
use Rattle.safety_laws.proofs.only_known_keys_have_facts.Goals as goal

pub returns : goal.returns
returns c = known_after
