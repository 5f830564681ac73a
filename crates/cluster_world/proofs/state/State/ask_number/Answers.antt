use Rattle.std.proofs.Common.{None, sym, ap, ◌∙◌, cond}
use Rattle.std.specs.Option.{option_map}
use Rattle.cluster_rules.specs.Worker.{Ask}
use Rattle.cluster_rules.specs.World.{is_asker, open_ask}
use Rattle.cluster_world.specs.Worlds.{world}
use Rattle.cluster_world.proofs.state.State.ask_number.Goals as goal

pub worker_ask-requires : goal.worker_ask-requires
worker_ask-requires g c = c.requires.nodes

pub client_ask-requires : goal.client_ask-requires
client_ask-requires g c = c.requires

pub returns-in-Worker : goal.returns-in-Worker
returns-in-Worker g c = c.worker_ask.ensures ∙ ap (λ a. cond (is_asker (world c.args.self.now) a) (option_map (λ (q : Ask). q.number) (open_ask (world c.args.self.now) a c.args.peer)) None) (sym c.in-Worker.is)

pub returns-in-Client : goal.returns-in-Client
returns-in-Client g c = c.client_ask.ensures ∙ ap (λ a. cond (is_asker (world c.args.self.now) a) (option_map (λ (q : Ask). q.number) (open_ask (world c.args.self.now) a c.args.peer)) None) (sym c.in-Client.is)
