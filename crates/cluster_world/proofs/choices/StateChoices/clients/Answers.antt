use Rattle.cluster_nodes.specs.Nodes.{world_of}
use Rattle.cluster_world.proofs.choices.StateChoices.clients.Goals as goal

pub returns : goal.returns
unfolding world_of
returns g c = c.requires.counted
