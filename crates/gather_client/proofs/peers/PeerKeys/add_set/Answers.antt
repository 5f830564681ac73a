use Rattle.std.proofs.Common.{◌≡◌, ◌∙◌, ℕ, List, Option, Some, None, is_some, Bor, cond, length, refl, sym, ap, arith}
use Rattle.std.specs.Prelude.{◌==◌}
use Rattle.std.specs.Option.{option_copied}
use Rattle.std.proofs.lemmas.Bool.{ltb-false}
use Rattle.small_facts.proofs.Options.{none_is_it}
use Rattle.fact_rows.specs.Rows.{read}
use Rattle.gather_client.specs.Peers.{PeerSets}
use Rattle.gather_client.proofs.PeerLemmas.{same_at_first, there_now, there_still, made_same, roomy_put}
use Rattle.gather_client.proofs.peers.PeerKeys.add_set.Goals as goal

-- whether a look into a place finds something
seen : {A : Type 0} (o : Option (Bor A)) (x : Option A) → option_copied o ≡ x → is_some o ≡ is_some x
seen None x e = ap is_some e
seen (Some b) x e = ap is_some e

pub returns-then-not-has_place-clause-ready : goal.returns-then-not-has_place-clause-ready
returns-then-not-has_place-clause-ready c = λ l. absurd (let past = ltb-false c.args.peer (length c.args.self.now.sets) (sym c.has_place.ensures ∙ c.if-not-has_place.true) in omega arith)

pub returns-then-not-has_place-clause-same : goal.returns-then-not-has_place-clause-same
returns-then-not-has_place-clause-same c = same_at_first c.args.self.now

pub returns-then-is_some-clause-ready : goal.returns-then-is_some-clause-ready
returns-then-is_some-clause-ready c = λ l.
    ap (λ (s : PeerSets). is_some (read s.sets None c.args.peer)) (sym c.self.view_is)
    ∙ sym (seen c.look.result _ c.look.ensures) ∙ sym c.is_some.ensures ∙ c.if-is_some.true

pub returns-then-is_some-clause-same : goal.returns-then-is_some-clause-same
returns-then-is_some-clause-same c = same_at_first c.args.self.now

pub new-requires : goal.new-requires
new-requires c = c.self.invariant.few

pub invariant_of-self : goal.invariant_of-self
invariant_of-self c =
    roomy_put c.self.inside.keys c.self.inside.sets c.put.new.self c.args.peer c.in_ok-set.set (λ p. ap (λ (f : ℕ → Option (List ℕ)). f p) c.put.ensures.meaning) c.in_ok-set.ensures.room c.self.invariant

pub returns-in_err-set-clause-same : goal.returns-in_err-set-clause-same
returns-in_err-set-clause-same c = same_at_first c.args.self.now

pub returns-clause-ready : goal.returns-clause-ready
returns-clause-ready c = λ l. there_now (read c.self.inside.sets None) (read c.put.new.self None) c.args.peer c.in_ok-set.set (λ p. ap (λ (f : ℕ → Option (List ℕ)). f p) c.put.ensures.meaning)

pub returns-clause-same : goal.returns-clause-same
returns-clause-same c =
    let old = read c.self.inside.sets None in
    let new = read c.put.new.self None in
    let now : (p : ℕ) → new p ≡ cond (p == c.args.peer) (Some c.in_ok-set.set) (old p) = λ p. ap (λ (f : ℕ → Option (List ℕ)). f p) c.put.ensures.meaning in
    let none : None ≡ old c.args.peer = none_is_it (old c.args.peer) (sym (seen c.look.result _ c.look.ensures) ∙ sym c.is_some.ensures ∙ c.if-is_some.false) in
    rw (← c.self.view_is) (record {
      over = record { keys = refl; places = c.put.ensures.length; there = there_still old new c.args.peer c.in_ok-set.set now };
      at = made_same old new c.args.peer c.in_ok-set.set none now c.in_ok-set.ensures.keys;
    })
