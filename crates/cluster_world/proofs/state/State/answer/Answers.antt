use Rattle.std.proofs.Common.{ap, ◌∙◌}
use Rattle.message_queues.specs.declared.transit.InTransit.{InTransit}
use Rattle.std.specs.Option.{option_map}
use Rattle.cluster_nodes.specs.Nodes.{world_of}
use Rattle.cluster_world.proofs.Telling.{answered}
use Rattle.cluster_world.proofs.state.State.answer.Goals as goal

pub returns-in-Some : goal.returns-in-Some
unfolding world_of
returns-in-Some g c = ap (option_map (λ (t : InTransit g.row.B.Denot). t.message)) c.in-Some.ensures ∙ answered c.args.asker c.args.peer c.args.ask c.args.self.now.nodes.answers c.requires.sorted.answers

pub returns-in-None : goal.returns-in-None
unfolding world_of
returns-in-None g c = ap (option_map (λ (t : InTransit g.row.B.Denot). t.message)) c.in-None.ensures ∙ answered c.args.asker c.args.peer c.args.ask c.args.self.now.nodes.answers c.requires.sorted.answers
