use Rattle.std.proofs.Common.{◌+◌, ◌-◌, ◌^◌, ◌∙◌}
use Rattle.std.specs.Prelude.{min}
use Rattle.cluster_msgs.specs.declared.messages.Message.TheVariants as message
use Rattle.message_queues.specs.Queues.{waiting}
use Rattle.cluster_nodes.specs.Nodes.{world_of}
use Rattle.cluster_world.specs.Worlds.{world}
use Rattle.cluster_world.proofs.Counts.{kind_length}
use Rattle.cluster_world.proofs.state.State.messages_of_client.Goals as goal

pub returns : goal.returns
unfolding world_of
returns g c =
    c.saturating_add.ensures
    ∙ (λ t. min ((c.len.ensures ∙ kind_length (λ m. message.ToClient m) ((world c.args.self.now).to_client c.args.client) (waiting c.args.self.now.nodes.to_client c.args.client) (c.requires.sorted.to_client c.args.client)) t + (c.len-2.ensures ∙ kind_length (λ m. message.FromClient m) ((world c.args.self.now).from_client c.args.client) (waiting c.args.self.now.nodes.from_client c.args.client) (c.requires.sorted.from_client c.args.client)) t) (2 ^ 64 - 1))
