use Rattle.std.proofs.Common.{ap, ◌∙◌}
use Rattle.cluster_msgs.specs.declared.events.Event.TheVariants.{SendGather}
use Rattle.cluster_rules.specs.Enabled.{enabled}
use Rattle.cluster_world.specs.Worlds.{world}
use Rattle.cluster_world.proofs.state.State.has_questions.Goals as goal

pub worker_fetches-requires : goal.worker_fetches-requires
worker_fetches-requires g c = c.requires.nodes

pub returns-in-Worker : goal.returns-in-Worker
unfolding enabled
returns-in-Worker g c n p = ap (λ a. enabled (world c.args.self.now) (SendGather a p)) c.in-Worker.is ∙ c.worker_fetches.ensures n p
