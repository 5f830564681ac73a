use Rattle.std.proofs.Common.{sym, ap, ◌∙◌}
use Rattle.cluster_msgs.specs.declared.messages.Message.TheVariants as message
use Rattle.cluster_rules.specs.Enabled.{message_at}
use Rattle.message_queues.specs.Queues.{waiting}
use Rattle.cluster_nodes.specs.Nodes.{world_of}
use Rattle.cluster_world.specs.Worlds.{world}
use Rattle.cluster_world.proofs.Telling.{takes_none}
use Rattle.cluster_world.proofs.Counts.{kind_front}
use Rattle.cluster_world.proofs.state.State.message_at.Goals as goal

pub returns-in-DeliverDown : goal.returns-in-DeliverDown
unfolding world_of
returns-in-DeliverDown g c =
    c.front.ensures ∙ kind_front (λ m. message.Down m) ((world c.args.self.now).down c.in-DeliverDown.worker) (waiting c.args.self.now.nodes.down c.in-DeliverDown.worker) (c.requires.nodes.sorted.down c.in-DeliverDown.worker)
    ∙ ap (message_at (world c.args.self.now)) (sym c.in-DeliverDown.is)

pub returns-in-DeliverUp : goal.returns-in-DeliverUp
unfolding world_of
returns-in-DeliverUp g c =
    c.front-in-DeliverUp.ensures ∙ kind_front (λ m. message.Up m) ((world c.args.self.now).up c.in-DeliverUp.worker) (waiting c.args.self.now.nodes.up c.in-DeliverUp.worker) (c.requires.nodes.sorted.up c.in-DeliverUp.worker)
    ∙ ap (message_at (world c.args.self.now)) (sym c.in-DeliverUp.is)

pub returns-in-DeliverToClient : goal.returns-in-DeliverToClient
unfolding world_of
returns-in-DeliverToClient g c =
    c.front-in-DeliverToClient.ensures ∙ kind_front (λ m. message.ToClient m) ((world c.args.self.now).to_client c.in-DeliverToClient.client) (waiting c.args.self.now.nodes.to_client c.in-DeliverToClient.client) (c.requires.nodes.sorted.to_client c.in-DeliverToClient.client)
    ∙ ap (message_at (world c.args.self.now)) (sym c.in-DeliverToClient.is)

pub returns-in-DeliverFromClient : goal.returns-in-DeliverFromClient
unfolding world_of
returns-in-DeliverFromClient g c =
    c.front-in-DeliverFromClient.ensures ∙ kind_front (λ m. message.FromClient m) ((world c.args.self.now).from_client c.in-DeliverFromClient.client) (waiting c.args.self.now.nodes.from_client c.in-DeliverFromClient.client) (c.requires.nodes.sorted.from_client c.in-DeliverFromClient.client)
    ∙ ap (message_at (world c.args.self.now)) (sym c.in-DeliverFromClient.is)

pub request-requires : goal.request-requires
request-requires g c = c.requires.nodes

pub answer-requires : goal.answer-requires
answer-requires g c = c.requires.nodes

pub returns-in-ServeGather : goal.returns-in-ServeGather
returns-in-ServeGather g c = c.request.ensures ∙ ap (message_at (world c.args.self.now)) (sym c.in-ServeGather.is)

pub returns-in-ArriveGather : goal.returns-in-ArriveGather
returns-in-ArriveGather g c = c.answer.ensures ∙ ap (message_at (world c.args.self.now)) (sym c.in-ArriveGather.is)

pub returns-in_default : goal.returns-in_default
returns-in_default g c = let d = c.in_default in takes_none (world c.args.self.now) c.args.e.now d.not-DeliverDown d.not-DeliverUp d.not-DeliverToClient d.not-DeliverFromClient d.not-ServeGather d.not-ArriveGather
