use Rattle.safety_laws.proofs.Leaves.{killed_after_leaves}
use Rattle.safety_laws.proofs.killed_keys_lost_workers.Goals as goal

pub returns : goal.returns
returns c = killed_after_leaves
