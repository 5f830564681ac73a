use Rattle.std.proofs.Common.{sym, ap, ◌∙◌}
use Rattle.cluster_rules.specs.World.{is_asker}
use Rattle.cluster_world.specs.Worlds.{world}
use Rattle.cluster_world.proofs.state.State.is_asker.Goals as goal

pub is_client-requires : goal.is_client-requires
is_client-requires g c = c.requires

pub returns-in-Worker : goal.returns-in-Worker
returns-in-Worker g c = c.is_alive.ensures ∙ ap (λ a. is_asker (world c.args.self.now) a) (sym c.in-Worker.is)

pub returns-in-Client : goal.returns-in-Client
returns-in-Client g c = c.is_client.ensures ∙ ap (λ a. is_asker (world c.args.self.now) a) (sym c.in-Client.is)
