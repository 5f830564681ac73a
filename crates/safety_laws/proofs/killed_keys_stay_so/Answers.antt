use Rattle.safety_laws.proofs.Unreleased.{killed_stays}
use Rattle.safety_laws.proofs.killed_keys_stay_so.Goals as goal

pub returns : goal.returns
returns c = killed_stays
