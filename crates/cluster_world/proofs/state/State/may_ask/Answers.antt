use Rattle.std.proofs.Common.{◌&&◌, sym, ap, ◌∙◌}
use Rattle.cluster_rules.specs.World.{is_asker}
use Rattle.cluster_rules.specs.Enabled.{may_ask}
use Rattle.cluster_world.specs.Worlds.{world}
use Rattle.cluster_world.proofs.state.State.may_ask.Goals as goal

pub worker_may_ask-requires : goal.worker_may_ask-requires
worker_may_ask-requires g c = c.requires.nodes

pub client_may_ask-requires : goal.client_may_ask-requires
client_may_ask-requires g c = c.requires

pub returns-in-Worker : goal.returns-in-Worker
returns-in-Worker g c = c.worker_may_ask.ensures ∙ ap (λ a. is_asker (world c.args.self.now) a && may_ask (world c.args.self.now) a c.args.peer) (sym c.in-Worker.is)

pub returns-in-Client : goal.returns-in-Client
returns-in-Client g c = c.client_may_ask.ensures ∙ ap (λ a. is_asker (world c.args.self.now) a && may_ask (world c.args.self.now) a c.args.peer) (sym c.in-Client.is)
