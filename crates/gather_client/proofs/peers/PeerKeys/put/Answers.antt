use Rattle.std.proofs.Common.{◌<◌, ◌∙◌, None, is_some, length, refl, sym, ap, subst, arith}
use Rattle.std.proofs.lemmas.Bool.{ltb-true, ltb-false}
use Rattle.fact_rows.specs.Rows.{read}
use Rattle.gather_client.specs.Peers.{PeerSets, holds, has_set}
use Rattle.gather_client.proofs.PeerLemmas.{over_same, put_back, none_taken, there_still, changed_at, changed_none, changed_past, roomy_put, roomy_same}
use Rattle.gather_client.proofs.peers.PeerKeys.put.Goals as goal

pub returns-then-not-has_place-clause-over : goal.returns-then-not-has_place-clause-over
returns-then-not-has_place-clause-over c = over_same c.args.self.now

pub returns-then-not-has_place-clause-at : goal.returns-then-not-has_place-clause-at
returns-then-not-has_place-clause-at c = λ p k l.
    let past = ltb-false c.args.peer (length c.args.self.now.sets) (sym c.has_place.ensures ∙ c.if-not-has_place.true) in
    changed_past c.args.peer c.args.key (length c.args.self.now.sets) p k c.args.to (holds c.args.self.now p k) past l

pub take-requires : goal.take-requires
take-requires c = subst (λ (s : PeerSets). c.args.peer < length s.sets) (sym c.self.view_is) (ltb-true c.args.peer (length c.args.self.now.sets) (sym c.has_place.ensures ∙ c.if-not-has_place.false))

pub put-requires : goal.put-requires
put-requires c =
    let wide = c.self.invariant.wide c.args.peer c.in-Some.set (sym c.in-Some.ensures.item) in
    let low = rw (← c.self.view_is) at c.requires.key in
    omega (arith, wide, low)

pub invariant_of-self : goal.invariant_of-self
invariant_of-self c =
    let wide = c.self.invariant.wide c.args.peer c.in-Some.set (sym c.in-Some.ensures.item) in
    roomy_put c.self.inside.keys c.self.inside.sets c.put-in-Some.new.self c.args.peer c.put.new.self
    (put_back (read c.self.inside.sets None) (read c.take.new.self None) (read c.put-in-Some.new.self None) c.args.peer c.put.new.self c.in-Some.ensures.meaning c.put-in-Some.ensures.meaning) (omega (arith, wide, c.put.ensures.room)) c.self.invariant

pub invariant_of-self-in-None : goal.invariant_of-self-in-None
invariant_of-self-in-None c =
    roomy_same c.self.inside.keys c.self.inside.sets c.take.new.self (none_taken (read c.self.inside.sets None) (read c.take.new.self None) c.args.peer c.in-None.ensures.item c.in-None.ensures.meaning) c.self.invariant

pub returns-in-Some-clause-over : goal.returns-in-Some-clause-over
returns-in-Some-clause-over c =
    let now = put_back (read c.self.inside.sets None) (read c.take.new.self None) (read c.put-in-Some.new.self None) c.args.peer c.put.new.self c.in-Some.ensures.meaning c.put-in-Some.ensures.meaning in
    rw (← c.self.view_is) (record { keys = refl; places = c.put-in-Some.ensures.length ∙ c.in-Some.ensures.length; there = there_still (read c.self.inside.sets None) (read c.put-in-Some.new.self None) c.args.peer c.put.new.self now })

pub returns-in-Some-clause-at : goal.returns-in-Some-clause-at
returns-in-Some-clause-at c =
    let now = put_back (read c.self.inside.sets None) (read c.take.new.self None) (read c.put-in-Some.new.self None) c.args.peer c.put.new.self c.in-Some.ensures.meaning c.put-in-Some.ensures.meaning in
    rw (← c.self.view_is) (λ p k l. changed_at (read c.self.inside.sets None) (read c.put-in-Some.new.self None) c.args.peer c.args.key c.args.to c.in-Some.set c.put.new.self c.in-Some.ensures.item now c.put.ensures.keys p k)

pub returns-in-None-clause-over : goal.returns-in-None-clause-over
returns-in-None-clause-over c =
    let now = none_taken (read c.self.inside.sets None) (read c.take.new.self None) c.args.peer c.in-None.ensures.item c.in-None.ensures.meaning in
    rw (← c.self.view_is) (record { keys = refl; places = c.in-None.ensures.length; there = λ p h. ap is_some (now p) ∙ h })

pub returns-in-None-clause-at : goal.returns-in-None-clause-at
returns-in-None-clause-at c =
    let now = none_taken (read c.self.inside.sets None) (read c.take.new.self None) c.args.peer c.in-None.ensures.item c.in-None.ensures.meaning in
    rw (← c.self.view_is) (λ p k l. changed_none (read c.self.inside.sets None) (read c.take.new.self None) c.args.peer c.args.key c.args.to c.in-None.ensures.item (λ t. ap (λ (s : PeerSets). has_set s c.args.peer) c.self.view_is ∙ c.requires.ready t (ltb-true c.args.peer (length c.args.self.now.sets) (sym c.has_place.ensures ∙ c.if-not-has_place.false))) now p k)
