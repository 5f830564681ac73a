use Rattle.cluster_laws.proofs.WorldLemmas.{progress_enabled, nothing_moves}
use Rattle.cluster_laws.proofs.world.progress_is_what_moves.Goals as goal

pub returns : goal.returns
returns c = record { enabled = progress_enabled; none = nothing_moves }
