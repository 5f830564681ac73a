use Rattle.std.proofs.Common.{◌<◌, ◌∙◌, ℕ, List, sym, arith, subst}
use Rattle.cluster_msgs.specs.Shape.{key_count}
use Rattle.gather_client.specs.Peers.{AreReady}
use Rattle.gather_client.specs.Stored.{facts_of}
use Rattle.gather_client.proofs.PeerLemmas.{ready_on}
use Rattle.gather_client.proofs.table.ClientTable.set_located.Goals as goal

pub put_all-requires-clause-key : goal.put_all-requires-clause-key
unfolding facts_of
put_all-requires-clause-key c =
    let key : c.args.key < key_count c.self.inside.shape = rw (← c.self.view_is) at c.requires in
    let keys = c.in_ok-add_sets.ensures.same.over.keys in
    let over = c.self.invariant.over in
    omega arith

pub put_all-requires-2-clause-key : goal.put_all-requires-2-clause-key
unfolding facts_of
put_all-requires-2-clause-key c =
    let key : c.args.key < key_count c.self.inside.shape = rw (← c.self.view_is) at c.requires in
    let keys = c.in_ok-add_sets.ensures.same.over.keys in
    let more = c.put_all.ensures.over.keys in
    let over = c.self.invariant.over in
    omega arith

pub put_all-requires-2-clause-ready : goal.put_all-requires-2-clause-ready
put_all-requires-2-clause-ready c = λ t.
    subst (λ (hs : List (ℕ × ℕ)). AreReady c.put_all.new.self hs) (c.as_slice.ensures ∙ sym c.as_slice-3.ensures) (ready_on c.add_sets.new.self c.put_all.new.self c.as_slice.result.now c.in_ok-add_sets.ensures.ready c.put_all.ensures.over)
