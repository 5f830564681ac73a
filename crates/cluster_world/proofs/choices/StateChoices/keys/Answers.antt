use Rattle.std.proofs.Common.{ap, ◌∙◌}
use Rattle.cluster_nodes.specs.Nodes.{world_of}
use Rattle.cluster_world.proofs.choices.StateChoices.keys.Goals as goal
use Rattle.cluster_msgs.specs.Shape.{key_count}

pub returns : goal.returns
unfolding world_of
returns g c = c.keys.ensures ∙ ap key_count c.requires.shape
