use Rattle.std.proofs.Common.{sym, ◌∙◌}
use Rattle.std.proofs.lemmas.List.{length-map}
use Rattle.message_queues.specs.Transit.{parcel_of_transit}
use Rattle.cluster_nodes.specs.Nodes.{world_of}
use Rattle.cluster_world.proofs.choices.StateChoices.answers.Goals as goal

pub returns : goal.returns
unfolding world_of
returns g c = c.len.ensures ∙ sym (length-map c.args.self.now.nodes.answers (λ t. parcel_of_transit t))
