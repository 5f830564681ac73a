use Rattle.std.proofs.Common.{Some, ap, ◌∙◌}
use Rattle.std.specs.Option.{option_map}
use Rattle.std.specs.Arc.{arc_value}
use Rattle.cluster_nodes.specs.Nodes.{blocks_in}
use Rattle.cluster_world.proofs.state.State.block.Goals as goal

pub returns-in-Some : goal.returns-in-Some
unfolding blocks_in
returns-in-Some g c = ap (λ b. Some b) c.deref.ensures ∙ ap (λ o. option_map arc_value o) c.in-Some.ensures

pub returns-in-None : goal.returns-in-None
unfolding blocks_in
returns-in-None g c = ap (λ o. option_map arc_value o) c.in-None.ensures
