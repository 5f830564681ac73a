use Rattle.std.proofs.Common.{◌∙◌, ℕ, List, ap, sym, subst}
use Rattle.std.specs.Prelude.{IsSomeAnd}
use Rattle.std.specs.Option.{option_map}
use Rattle.std.proofs.lemmas.Result.{on_ok_weaker}
use Rattle.message_queues.specs.Transit.{parcel_of_transit}
use Rattle.message_queues.specs.declared.transit.InTransit.{InTransit}
use Rattle.cluster_msgs.specs.Jobs.{blocks_of}
use Rattle.cluster_laws.specs.Moves.{block_among}
use Rattle.cluster_nodes.specs.Nodes.{cluster_of, world_of}
use Rattle.cluster_nodes.specs.Turns.{IsRefusedBy, among, gathered_turned}
use Rattle.cluster_nodes.proofs.Keeping.{nodes_moving}
use Rattle.cluster_nodes.proofs.Gathering.{none_arrived, arrived_is, answers_left, parcel_found, refused_before}
use Rattle.cluster_nodes.proofs.Counting.{took_more}
use Rattle.cluster_nodes.proofs.nodes.Nodes.arrive.Goals as goal

pub gathered-requires-clause-nodes : goal.gathered-requires-clause-nodes
gathered-requires-clause-nodes g c = nodes_moving c.args.self.now c.args.self.now.requests c.take.new.self c.requires.nodes.sorted.requests (answers_left c.args.asker c.args.peer c.args.ask c.args.self.now.answers c.take.new.self c.in-Some.ensures.rest c.requires.nodes.sorted.answers) c.requires.nodes

pub returns-in-None-clause-cluster : goal.returns-in-None-clause-cluster
returns-in-None-clause-cluster g c f = none_arrived f c.args.self.now c.args.asker c.args.peer c.args.ask c.take.new.self c.in-None.ensures.item c.in-None.ensures.rest

pub returns-in-None-clause-nodes : goal.returns-in-None-clause-nodes
returns-in-None-clause-nodes g c = nodes_moving c.args.self.now c.args.self.now.requests c.take.new.self c.requires.nodes.sorted.requests (answers_left c.args.asker c.args.peer c.args.ask c.args.self.now.answers c.take.new.self c.in-None.ensures.rest c.requires.nodes.sorted.answers) c.requires.nodes

pub returns-in_ok-brought-in-Some-clause-cluster : goal.returns-in_ok-brought-in-Some-clause-cluster
returns-in_ok-brought-in-Some-clause-cluster g c = on_ok_weaker c.gathered.result
    (λ h f.
    let old = c.args.self.now in
    let t = c.in-Some.answer in
    arrived_is f old c.args.asker c.args.peer c.args.ask c.take.new.self t c.in_ok-brought-in-Some.brought.items (cluster_of f c.gathered.new.self) c.in-Some.ensures.item c.in-Some.ensures.rest
    (λ k. c.in_ok-brought-in-Some.ensures k ∙ ap (λ (l : List ℕ). block_among l (blocks_of t.blocks) k) (c.as_slice.ensures ∙ c.keys_of-found.ensures))
    (h f ∙ ap (λ (l : List ℕ). gathered_turned (cluster_of f (record old { answers = c.take.new.self })) c.args.asker c.args.peer c.args.ask l (among c.in_ok-brought-in-Some.brought.items)) c.keys_of-found.ensures))
    c.gathered.ensures.cluster

pub returns-in-None-clause-few : goal.returns-in-None-clause-few
returns-in-None-clause-few g c n h = took_more n c.args.self.now h

pub returns-in_ok-brought-in-Some-clause-few : goal.returns-in_ok-brought-in-Some-clause-few
returns-in_ok-brought-in-Some-clause-few g c = c.gathered.ensures.few

pub returns-in_ok-brought-in-Some-clause-refused : goal.returns-in_ok-brought-in-Some-clause-refused
unfolding world_of
returns-in_ok-brought-in-Some-clause-refused g c r f =
    let old = c.args.self.now in
    let by = λ (l : List ℕ). IsRefusedBy (world_of f old) c.args.asker c.args.peer c.args.ask l in
    subst (λ o. IsSomeAnd o (λ q. by q.keys))
    (ap (option_map (λ (t : InTransit g.row.B.Denot). parcel_of_transit t)) c.in-Some.ensures.item ∙ sym (parcel_found c.args.asker c.args.peer c.args.ask old.answers))
    (subst by c.keys_of-found.ensures (refused_before f old c.take.new.self c.args.asker c.args.peer c.args.ask c.keys_of-found.result (c.gathered.ensures.refused r f)))

pub returns-in_ok-brought-in-Some-clause-spent : goal.returns-in_ok-brought-in-Some-clause-spent
returns-in_ok-brought-in-Some-clause-spent g c = c.gathered.ensures.spent
