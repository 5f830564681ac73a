use Rattle.std.proofs.Common.{None, sym, ap, ◌∙◌, cond}
use Rattle.std.specs.Option.{option_map}
use Rattle.cluster_rules.specs.Worker.{ask_to}
use Rattle.cluster_world.specs.Worlds.{world}
use Rattle.cluster_world.proofs.state.State.client_ask.Goals as goal

pub client-requires-clause-counted : goal.client-requires-clause-counted
client-requires-clause-counted g c = c.requires.counted

pub client-requires-clause-clients : goal.client-requires-clause-clients
client-requires-clause-clients g c = c.requires.clients

pub returns-in-Some : goal.returns-in-Some
returns-in-Some g c = c.ask_number.ensures ∙ (λ t. cond (sym (c.in-Some.ensures.0) t) (option_map (λ a. a.number) (ask_to (sym c.in-Some.ensures.1 t).asks c.args.peer)) None)

pub returns-in-None : goal.returns-in-None
returns-in-None g c = sym (ap (λ a. cond a (option_map (λ a. a.number) (ask_to ((world c.args.self.now).clients c.args.client).asks c.args.peer)) None) c.in-None.ensures)
