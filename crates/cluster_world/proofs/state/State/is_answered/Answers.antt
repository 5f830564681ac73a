use Rattle.std.proofs.Common.{ap, ◌∙◌, is_some}
use Rattle.cluster_nodes.specs.Nodes.{world_of}
use Rattle.cluster_world.proofs.Telling.{copied_some, parcel_there}
use Rattle.cluster_world.proofs.state.State.is_answered.Goals as goal

pub returns : goal.returns
unfolding world_of
returns g c = c.is_some.ensures ∙ copied_some c.find.result ∙ ap (λ o. is_some o) c.find.ensures ∙ parcel_there c.args.asker c.args.peer c.args.ask c.args.self.now.nodes.answers
