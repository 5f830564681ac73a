use Rattle.std.proofs.Common.{◌+◌, ◌-◌, ◌^◌, ◌∙◌}
use Rattle.std.specs.Prelude.{min}
use Rattle.cluster_msgs.specs.declared.messages.Message.TheVariants as message
use Rattle.message_queues.specs.Queues.{waiting}
use Rattle.cluster_nodes.specs.Nodes.{world_of}
use Rattle.cluster_world.specs.Worlds.{world}
use Rattle.cluster_world.proofs.Counts.{kind_length}
use Rattle.cluster_world.proofs.state.State.messages_of_worker.Goals as goal

pub returns : goal.returns
unfolding world_of
returns g c =
    c.saturating_add.ensures
    ∙ (λ t. min ((c.len.ensures ∙ kind_length (λ m. message.Down m) ((world c.args.self.now).down c.args.worker) (waiting c.args.self.now.nodes.down c.args.worker) (c.requires.sorted.down c.args.worker)) t + (c.len-2.ensures ∙ kind_length (λ m. message.Up m) ((world c.args.self.now).up c.args.worker) (waiting c.args.self.now.nodes.up c.args.worker) (c.requires.sorted.up c.args.worker)) t) (2 ^ 64 - 1))
