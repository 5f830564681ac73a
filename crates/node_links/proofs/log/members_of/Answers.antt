use Rattle.std.proofs.Common.{◌∙◌, sym, ap}
use Rattle.cluster_msgs.specs.declared.messages.Message.TheVariants as message
use Rattle.node_links.specs.Books.{members}
use Rattle.node_links.proofs.log.members_of.Goals as goal

pub returns-in-ComputeTask : goal.returns-in-ComputeTask
returns-in-ComputeTask c = c.len.ensures ∙ sym (ap members (c.in-Down.is ∙ ap message.Down c.in-ComputeTask.is))
