use Rattle.cluster_nodes.specs.Nodes.{world_of}
use Rattle.cluster_world.proofs.world.World.losses.Goals as goal

pub returns : goal.returns
unfolding world_of
returns g c = rw (← c.self.view_is) c.losses.ensures
