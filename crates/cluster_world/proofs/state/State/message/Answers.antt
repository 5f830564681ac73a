use Rattle.std.proofs.Common.{None, sym, ap, ◌∙◌, cond}
use Rattle.cluster_rules.specs.Enabled.{message_at}
use Rattle.cluster_world.specs.Worlds.{world}
use Rattle.cluster_world.proofs.state.State.message.Goals as goal
use Rattle.cluster_rules.specs.Enabled.{message as message_of}

pub returns-then-enabled : goal.returns-then-enabled
unfolding message_of
returns-then-enabled g c = c.message_at.ensures ∙ sym (ap (λ b. cond b (message_at (world c.args.self.now) c.args.e.now) None) (sym c.enabled.ensures ∙ c.if-enabled.true))

pub returns-else-enabled : goal.returns-else-enabled
unfolding message_of
returns-else-enabled g c = sym (ap (λ b. cond b (message_at (world c.args.self.now) c.args.e.now) None) (sym c.enabled.ensures ∙ c.if-enabled.false))
