use Rattle.std.proofs.Common.{◌&&◌, sym, ap, ◌∙◌}
use Rattle.cluster_rules.specs.Client.{client_would_ask}
use Rattle.cluster_world.specs.Worlds.{world}
use Rattle.cluster_world.proofs.state.State.client_may_ask.Goals as goal

pub client-requires-clause-counted : goal.client-requires-clause-counted
client-requires-clause-counted g c = c.requires.counted

pub client-requires-clause-clients : goal.client-requires-clause-clients
client-requires-clause-clients g c = c.requires.clients

pub returns-in-Some : goal.returns-in-Some
returns-in-Some g c = c.would_ask.ensures ∙ (λ t. (sym (c.in-Some.ensures.0) t) && client_would_ask (sym c.in-Some.ensures.1 t) c.args.peer)

pub returns-in-None : goal.returns-in-None
returns-in-None g c = sym (ap (λ a. a && client_would_ask ((world c.args.self.now).clients c.args.client) c.args.peer) c.in-None.ensures)
