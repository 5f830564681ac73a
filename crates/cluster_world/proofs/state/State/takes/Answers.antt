use Rattle.cluster_nodes.specs.Nodes.{world_of}
use Rattle.cluster_world.proofs.state.State.takes.Goals as goal

pub returns : goal.returns
unfolding world_of
returns g c = c.takes.ensures
