use Rattle.cluster_msgs.specs.declared.messages.Message.TheVariants as message
use Rattle.message_queues.specs.Queues.{waiting}
use Rattle.cluster_nodes.specs.Nodes.{world_of}
use Rattle.cluster_world.specs.Worlds.{world}
use Rattle.cluster_world.proofs.Telling.{waits}
use Rattle.cluster_world.proofs.state.State.up_waits.Goals as goal

pub returns : goal.returns
unfolding world_of
returns g c = waits (λ m. message.Up m) ((world c.args.self.now).up c.args.worker) (waiting c.args.self.now.nodes.up c.args.worker) c.len.result (c.requires.sorted.up c.args.worker) c.len.ensures
