use Rattle.std.proofs.Common.{◌∙◌, ap, refl}
use Rattle.std.specs.Prelude.{option_and_then}
use Rattle.cluster_msgs.specs.declared.messages.Message.TheVariants as message
use Rattle.message_queues.specs.Queues.{waiting}
use Rattle.cluster_nodes.specs.Nodes.{as_from_client}
use Rattle.cluster_nodes.proofs.NodeLemmas.{from_clients_are, first_of_kind, rest_at, only_after}
use Rattle.cluster_nodes.proofs.pops.pop_from_client.Goals as goal

pub returns-clause-first : goal.returns-clause-first
returns-clause-first c = c.from_client_in.ensures ∙ ap (option_and_then as_from_client) c.pop.ensures.item ∙ first_of_kind as_from_client (λ m. message.FromClient m) from_clients_are (λ m. refl) (waiting c.args.from_client.now c.args.client) (c.requires.sorted c.args.client)

pub returns-clause-rest : goal.returns-clause-rest
returns-clause-rest c = rest_at as_from_client (λ m. message.FromClient m) from_clients_are (waiting c.args.from_client.now) (waiting c.pop.new.self) c.args.client c.pop.ensures.rest c.requires.sorted

pub returns-clause-sorted : goal.returns-clause-sorted
returns-clause-sorted c = only_after as_from_client (λ m. message.FromClient m) from_clients_are (waiting c.args.from_client.now) (waiting c.pop.new.self) c.args.client c.pop.ensures.rest c.requires.sorted
