use Rattle.std.proofs.Common.{◌∙◌, ap, refl}
use Rattle.std.specs.Prelude.{option_and_then}
use Rattle.cluster_msgs.specs.declared.messages.Message.TheVariants as message
use Rattle.message_queues.specs.Queues.{waiting}
use Rattle.cluster_nodes.specs.Nodes.{as_up}
use Rattle.cluster_nodes.proofs.NodeLemmas.{ups_are, first_of_kind, rest_at, only_after}
use Rattle.cluster_nodes.proofs.pops.pop_up.Goals as goal

pub returns-clause-first : goal.returns-clause-first
returns-clause-first c = c.up_in.ensures ∙ ap (option_and_then as_up) c.pop.ensures.item ∙ first_of_kind as_up (λ m. message.Up m) ups_are (λ m. refl) (waiting c.args.up.now c.args.worker) (c.requires.sorted c.args.worker)

pub returns-clause-rest : goal.returns-clause-rest
returns-clause-rest c = rest_at as_up (λ m. message.Up m) ups_are (waiting c.args.up.now) (waiting c.pop.new.self) c.args.worker c.pop.ensures.rest c.requires.sorted

pub returns-clause-sorted : goal.returns-clause-sorted
returns-clause-sorted c = only_after as_up (λ m. message.Up m) ups_are (waiting c.args.up.now) (waiting c.pop.new.self) c.args.worker c.pop.ensures.rest c.requires.sorted
