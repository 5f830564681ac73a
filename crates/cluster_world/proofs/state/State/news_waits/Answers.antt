use Rattle.cluster_msgs.specs.declared.messages.Message.TheVariants as message
use Rattle.message_queues.specs.Queues.{waiting}
use Rattle.cluster_nodes.specs.Nodes.{world_of}
use Rattle.cluster_world.specs.Worlds.{world}
use Rattle.cluster_world.proofs.Telling.{waits}
use Rattle.cluster_world.proofs.state.State.news_waits.Goals as goal

pub returns : goal.returns
unfolding world_of
returns g c = waits (λ m. message.ToClient m) ((world c.args.self.now).to_client c.args.client) (waiting c.args.self.now.nodes.to_client c.args.client) c.len.result (c.requires.sorted.to_client c.args.client) c.len.ensures
