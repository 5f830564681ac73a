use Rattle.std.proofs.Common.{◌∙◌, sym, subst, arith, length, []}
use Rattle.std.proofs.lemmas.Bool.{ltb-true}
use Rattle.std.proofs.lemmas.List.{get_or_past}
use Rattle.cluster_msgs.specs.Shape.{key_count}
use Rattle.fact_rows.specs.Rows.{read}
use Rattle.gather_client.specs.Peers.{holds, IsNext}
use Rattle.gather_client.specs.Stored.{Stored, facts_of}
use Rattle.gather_client.proofs.PeerLemmas.{next_found}
use Rattle.gather_client.proofs.table.ClientTable.next_held.Goals as goal

pub returns-then-has_place : goal.returns-then-has_place
unfolding facts_of
returns-then-has_place c =
    let a = c.self.inside in
    let v = c.self.invariant in
    let low = ltb-true c.args.peer (length a.peers.sets) (sym c.has_place.ensures ∙ c.if-has_place.true) in
    subst (λ (s : Stored). IsNext (facts_of s).located (key_count (facts_of s).shape) c.args.peer c.args.from c.next.result) c.self.view_is
    (next_found (read a.located.items []) (key_count a.shape) c.args.peer c.args.from c.next.result (holds a.peers c.args.peer) (λ k. v.held c.args.peer k low) (λ k l. get_or_past a.located.items k [] (omega (arith, l, v.rows.located))) c.next.ensures)
