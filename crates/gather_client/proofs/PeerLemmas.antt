-- The sets of peers after changes, and what they say of who holds a key.
use Rattle.std.proofs.Common.{◌≡◌, ℕ, ◌+◌, ◌<◌, ◌≤◌, Bool, true, false, ◌&&◌, ◌||◌, List, [], ◌∷◌, Option, Some, None, is_some, refl, sym, ap, ◌∙◌, subst, arith, cond, take, length, get_or, ⊎_elim}
use Rattle.std.specs.Prelude.{◌==◌, find}
use Rattle.std.specs.Option.{option_map}
use Rattle.std.proofs.lemmas.Bool.{true≢false, false≢true, eqb-true, eq-eqb, cases_lt, and_right, false_from_ne_true}
use Rattle.std.proofs.lemmas.List.Elements.{Contains-get_or}
use Rattle.std.proofs.lemmas.List.Folds.{list_any_more}
use Rattle.std.proofs.lemmas.Option.{same_Some}
use Rattle.small_facts.proofs.Numbers.{eqb_self, eqb_turned, unequal_over}
use Rattle.small_facts.proofs.Truth.{or_without, with_and_true, cond_same}
use Rattle.cluster_rules.specs.Functions.{put}
use Rattle.cluster_rules.specs.Worker.{item_at}
use Rattle.cluster_rules.specs.Client.{ClientFacts, is_open}
use Rattle.cluster_rules.proofs.Members.{any_some}
use Rattle.fact_rows.specs.Rows.{read}
use Rattle.key_sets.specs.Sets.{has, room, IsFirst}
use Rattle.gather_client.specs.Steps.{open_item}
use Rattle.gather_client.specs.Peers.{PeerSets, names, set_has, holds, has_set, AreRoomy, AreReady, IsOver, HoldsSame, HoldsPut, IsNext}

-- ## One set

twice_at : {A : Type 0} (b : Bool) (x y z : A) → cond b x (cond b y z) ≡ cond b x z
twice_at true x y z = refl
twice_at false x y z = refl

-- a set that was taken out and put back
pub put_back : (old mid new : ℕ → Option (List ℕ)) (peer : ℕ) (t : List ℕ) → mid ≡ put old peer None → new ≡ put mid peer (Some t) → (p : ℕ) → new p ≡ cond (p == peer) (Some t) (old p)
put_back old mid new peer t out back p =
    ap (λ (f : ℕ → Option (List ℕ)). f p) back
    ∙ ap (λ (f : ℕ → Option (List ℕ)). cond (p == peer) (Some t) (f p)) out
    ∙ twice_at (p == peer) (Some t) None (old p)

-- a place out of which nothing was taken
pub none_taken : (old new : ℕ → Option (List ℕ)) (peer : ℕ) → None ≡ old peer → new ≡ put old peer None → (p : ℕ) → new p ≡ old p
none_taken old new peer none out p = ap (λ (f : ℕ → Option (List ℕ)). f p) out ∙ pick (p == peer) refl
  where
    pick : (b : Bool) → (p == peer) ≡ b → cond b None (old p) ≡ old p
    pick true e = none ∙ ap old (sym (eqb-true p peer e))
    pick false e = refl

pub there_now : (old new : ℕ → Option (List ℕ)) (peer : ℕ) (t : List ℕ) → ((p : ℕ) → new p ≡ cond (p == peer) (Some t) (old p)) → is_some (new peer) ≡ true
there_now old new peer t now = ap is_some (now peer) ∙ ap (λ b. is_some (cond b (Some t) (old peer))) (eqb_self peer)

pub there_still : (old new : ℕ → Option (List ℕ)) (peer : ℕ) (t : List ℕ) → ((p : ℕ) → new p ≡ cond (p == peer) (Some t) (old p)) → (p : ℕ) → is_some (old p) ≡ true → is_some (new p) ≡ true
there_still old new peer t now p h = ap is_some (now p) ∙ pick (p == peer)
  where
    pick : (b : Bool) → is_some (cond b (Some t) (old p)) ≡ true
    pick true = refl
    pick false = h

pub roomy_put : (n : ℕ) (old new : List (Option (List ℕ))) (peer : ℕ) (t : List ℕ) → ((p : ℕ) → read new None p ≡ cond (p == peer) (Some t) (read old None p)) → n ≤ room t → AreRoomy n old → AreRoomy n new
roomy_put n old new peer t now wide was = record { few = was.few; wide = λ p ks e. pick p ks (p == peer) (sym (now p) ∙ e) }
  where
    pick : (p : ℕ) (ks : List ℕ) (b : Bool) → cond b (Some t) (read old None p) ≡ Some ks → n ≤ room ks
    pick p ks true e = subst (λ (xs : List ℕ). n ≤ room xs) (same_Some t ks e) wide
    pick p ks false e = was.wide p ks e

pub roomy_same : (n : ℕ) (old new : List (Option (List ℕ))) → ((p : ℕ) → read new None p ≡ read old None p) → AreRoomy n old → AreRoomy n new
roomy_same n old new now was = record { few = was.few; wide = λ p ks e. was.wide p ks (sym (now p) ∙ e) }

-- an empty set was made
pub made_same : (old new : ℕ → Option (List ℕ)) (peer : ℕ) (t : List ℕ) → None ≡ old peer → ((p : ℕ) → new p ≡ cond (p == peer) (Some t) (old p)) → ((k : ℕ) → has t k ≡ false) → (p k : ℕ) → set_has (new p) k ≡ set_has (old p) k
made_same old new peer t none now empty p k = ap (λ o. set_has o k) (now p) ∙ pick (p == peer) refl
  where
    pick : (b : Bool) → (p == peer) ≡ b → set_has (cond b (Some t) (old p)) k ≡ set_has (old p) k
    pick true e = empty k ∙ ap (λ o. set_has o k) (none ∙ ap old (sym (eqb-true p peer e)))
    pick false e = refl

-- a key was put into a set or taken out of it
pub changed_at : (old new : ℕ → Option (List ℕ)) (peer key : ℕ) (to : Bool) (s t : List ℕ) → Some s ≡ old peer → ((p : ℕ) → new p ≡ cond (p == peer) (Some t) (old p)) → ((k : ℕ) → has t k ≡ cond (k == key) to (has s k))
    → (p k : ℕ) → set_has (new p) k ≡ cond (k == key && peer == p) to (set_has (old p) k)
changed_at old new peer key to s t was now each p k = ap (λ o. set_has o k) (now p) ∙ pick (p == peer) refl
  where
    pick : (b : Bool) → (p == peer) ≡ b → set_has (cond b (Some t) (old p)) k ≡ cond (k == key && peer == p) to (set_has (old p) k)
    pick true e =
        each k
        ∙ ap (λ o. cond (k == key) to (set_has o k)) (was ∙ ap old (sym (eqb-true p peer e)))
        ∙ ap (λ b. cond b to (set_has (old p) k)) (with_and_true (k == key) ∙ ap (λ b. k == key && b) (sym (eqb_turned peer p ∙ e)))
    pick false e = sym (ap (λ b. cond b to (set_has (old p) k)) (and_right (k == key) (peer == p) (eqb_turned peer p ∙ e)))

-- there was no set to take a key out of
pub changed_none : (old new : ℕ → Option (List ℕ)) (peer key : ℕ) (to : Bool) → None ≡ old peer → (to ≡ true → is_some (old peer) ≡ true) → ((p : ℕ) → new p ≡ old p) → (p k : ℕ) → set_has (new p) k ≡ cond (k == key && peer == p) to (set_has (old p) k)
changed_none old new peer key to none ready now p k = ap (λ o. set_has o k) (now p) ∙ pick (peer == p) refl ∙ ap (λ b. cond (k == key && peer == p) b (set_has (old p) k)) (sym out)
  where
    out : to ≡ false
    out = false_from_ne_true to (λ t. false≢true (ap is_some none ∙ ready t))

    pick : (b : Bool) → (peer == p) ≡ b → set_has (old p) k ≡ cond (k == key && peer == p) false (set_has (old p) k)
    pick true e =
        let gone : set_has (old p) k ≡ false = ap (λ o. set_has o k) (ap old (sym (eqb-true peer p e)) ∙ sym none) in
        gone ∙ sym (cond_same (k == key && peer == p) false) ∙ ap (λ b. cond (k == key && peer == p) false b) (sym gone)
    pick false e = sym (ap (λ b. cond b false (set_has (old p) k)) (and_right (k == key) (peer == p) e))

-- a set without a place isn't changed
pub changed_past : (peer key n p k : ℕ) (to b : Bool) → n ≤ peer → p < n → b ≡ cond (k == key && peer == p) to b
changed_past peer key n p k to b past low = sym (ap (λ c. cond c to b) (and_right (k == key) (peer == p) (unequal_over peer p (omega arith))))

-- ## Several sets

pub over_same : (a : PeerSets) → IsOver a a
over_same a = record { keys = refl; places = refl; there = λ p h. h }

pub over_on : (a b c : PeerSets) → IsOver a b → IsOver b c → IsOver a c
over_on a b c f g = record { keys = g.keys ∙ f.keys; places = g.places ∙ f.places; there = λ p h. g.there p (f.there p h) }

pub same_at_first : (a : PeerSets) → HoldsSame a a
same_at_first a = record { over = over_same a; at = λ p k. refl }

pub same_on : (a b c : PeerSets) → HoldsSame a b → HoldsSame b c → HoldsSame a c
same_on a b c f g = record { over = over_on a b c f.over g.over; at = λ p k. g.at p k ∙ f.at p k }

pub ready_none : (a : PeerSets) → AreReady a []
ready_none a = record { each = λ p e l. absurd (false≢true e) }

pub ready_more : (a b : PeerSets) (hs : List (ℕ × ℕ)) (i : ℕ) → i < length hs → AreReady a (take i hs) → IsOver a b → ((get_or hs i (0, 0)).0 < length b.sets → has_set b (get_or hs i (0, 0)).0 ≡ true) → AreReady b (take (i + 1) hs)
ready_more a b hs i l was over here = record { each = λ p e m. pick p m (x.0 == p) refl (sym (list_any_more (λ h. h.0 == p) hs i (0, 0) l) ∙ e) }
  where
    x : ℕ × ℕ
    x = get_or hs i (0, 0)

    pick : (p : ℕ) → p < length b.sets → (t : Bool) → (x.0 == p) ≡ t → (names p (take i hs) || x.0 == p) ≡ true → has_set b p ≡ true
    pick p m true q e = let z : x.0 ≡ p = eqb-true x.0 p q in subst (λ n. has_set b n ≡ true) z (here (omega arith))
    pick p m false q e = let z = over.places in over.there p (was.each p (or_without (names p (take i hs)) (x.0 == p) e q) (omega arith))

pub ready_on : (a b : PeerSets) (hs : List (ℕ × ℕ)) → AreReady a hs → IsOver a b → AreReady b hs
ready_on a b hs was over = record { each = λ p e l. let z = over.places in over.there p (was.each p e (omega arith)) }

-- a member of a list of holders is named there
pub named_at : (hs : List (ℕ × ℕ)) (i : ℕ) → i < length hs → names (get_or hs i (0, 0)).0 hs ≡ true
named_at hs i l = any_some (λ h. h.0 == (get_or hs i (0, 0)).0) hs (get_or hs i (0, 0)) (Contains-get_or hs i (0, 0) l) (eq-eqb (get_or hs i (0, 0)).0 (get_or hs i (0, 0)).0 refl)

pub put_none : (key : ℕ) (to : Bool) (a : PeerSets) → HoldsPut key to [] a a
put_none key to a = record { over = over_same a; at = λ p k l. sym (ap (λ b. cond b to (holds a p k)) (and_right (k == key) false refl)) }

either_put : (e q n t h : Bool) → cond (e && q) t (cond (e && n) t h) ≡ cond (e && (n || q)) t h
either_put false q n t h = refl
either_put true true true t h = refl
either_put true true false t h = refl
either_put true false true t h = refl
either_put true false false t h = refl

pub put_more : (key : ℕ) (to : Bool) (hs : List (ℕ × ℕ)) (i : ℕ) (a b c : PeerSets) → i < length hs → HoldsPut key to (take i hs) a b → IsOver b c
    → ((p k : ℕ) → p < length b.sets → holds c p k ≡ cond (k == key && (get_or hs i (0, 0)).0 == p) to (holds b p k)) → HoldsPut key to (take (i + 1) hs) a c
put_more key to hs i a b c l was over now = record {
  over = over_on a b c was.over over;
  at = λ p k m. let z = was.over.places in
      now p k (omega arith)
      ∙ ap (λ v. cond (k == key && x.0 == p) to v) (was.at p k m)
      ∙ either_put (k == key) (x.0 == p) (names p (take i hs)) to (holds a p k)
      ∙ ap (λ n. cond (k == key && n) to (holds a p k)) (sym (list_any_more (λ h. h.0 == p) hs i (0, 0) l));
}
  where
    x : ℕ × ℕ
    x = get_or hs i (0, 0)

-- ## Who is known to hold a key

-- the first key of a peer's set
pub next_found : (located : ℕ → List (ℕ × ℕ)) (n p a : ℕ) (o : Option ℕ) (q : ℕ → Bool) → ((k : ℕ) → q k ≡ names p (located k)) → ((k : ℕ) → n ≤ k → located k ≡ []) → IsFirst q a o → IsNext located n p a o
next_found located n p a None q same out h = λ k l m. sym (same k) ∙ h k l
next_found located n p a (Some r) q same out h =
    let low : r < n = ⊎_elim (λ l. l) (λ l. absurd (true≢false (sym h.1 ∙ same r ∙ ap (names p) (out r l)))) (cases_lt r n) in
    (h.0, low, λ k l m. sym (same k) ∙ h.2 k l m)

none_found : (p : ℕ) (hs : List (ℕ × ℕ)) → names p hs ≡ false → find (λ h. h.0 == p) hs ≡ None
none_found p [] e = refl
none_found p (h ∷ hs) e = pick (h.0 == p) (none_found p hs) e
  where
    pick : (b : Bool) → (names p hs ≡ false → find (λ h. h.0 == p) hs ≡ None) → (b || names p hs) ≡ false → cond b (Some h) (find (λ h. h.0 == p) hs) ≡ None
    pick true r e = absurd (true≢false e)
    pick false r e = r e

-- a key that the peer isn't known to hold
pub unnamed : (c : ClientFacts) (p k : ℕ) → names p (c.located k) ≡ false → open_item c p k ≡ None
unnamed c p k e = pick (is_open c k)
  where
    pick : (b : Bool) → cond b (item_at p k (c.located k)) None ≡ None
    pick true = ap (λ (o : Option (ℕ × ℕ)). option_map (λ (n : ℕ). (k, n)) (option_map (λ (h : ℕ × ℕ). h.1) o)) (none_found p (c.located k) e)
    pick false = refl
