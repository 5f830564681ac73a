use Rattle.cluster_laws.proofs.InsideWorld.{in_after}
use Rattle.cluster_laws.proofs.world.nothing_names_a_missing_key.Goals as goal

pub returns : goal.returns
returns c = in_after
