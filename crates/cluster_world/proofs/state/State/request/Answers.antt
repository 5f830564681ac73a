use Rattle.std.proofs.Common.{ap, ◌∙◌}
use Rattle.message_queues.specs.declared.transit.InTransit.{InTransit}
use Rattle.std.specs.Option.{option_map}
use Rattle.cluster_nodes.specs.Nodes.{world_of}
use Rattle.cluster_world.proofs.Telling.{asked}
use Rattle.cluster_world.proofs.state.State.request.Goals as goal

pub returns-in-Some : goal.returns-in-Some
unfolding world_of
returns-in-Some g c = ap (option_map (λ (t : InTransit g.row.B.Denot). t.message)) c.in-Some.ensures ∙ asked c.args.asker c.args.peer c.args.ask c.args.self.now.nodes.requests c.requires.sorted.requests

pub returns-in-None : goal.returns-in-None
unfolding world_of
returns-in-None g c = ap (option_map (λ (t : InTransit g.row.B.Denot). t.message)) c.in-None.ensures ∙ asked c.args.asker c.args.peer c.args.ask c.args.self.now.nodes.requests c.requires.sorted.requests
