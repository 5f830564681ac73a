-- Each change of one fact keeps all facts in range, and copies and attempts below the next.
use Rattle.std.proofs.Common.{◌≡◌, ℕ, ◌+◌, ◌<◌, ◌≤◌, Bool, true, false, cond, ◌&&◌, Option, Some, None, is_some, refl, sym, ap, ◌∙◌, subst, arith}
use Rattle.std.proofs.lemmas.Bool.{false≢true, eqb-true}
use Rattle.std.proofs.Math.Dec.{eqb}
use Rattle.std.proofs.Math.Bool.{and-false}
use Rattle.small_facts.proofs.Numbers.{unequal_past}
use Rattle.small_facts.proofs.Truth.{and_first}
use Rattle.cluster_rules.specs.Functions.{put, put_pair}
use Rattle.cluster_rules.specs.Sched.{Facts, IsSound, keys, is_for, connected}
use Rattle.cluster_rules.proofs.SoundLemmas.{sound_bounded, bounded_marked, put_past}
use Rattle.sched_facts.specs.Kept.{IsFresh}

pair_past : {A : Type 0} (f : ℕ → ℕ → A) (w k n v j : ℕ) (x d : A) → k < n → n ≤ j → f v j ≡ d → put_pair f w k x v j ≡ d
pair_past f w k n v j x d l m e = ap (λ b. cond (eqb v w && b) x (f v j)) (unequal_past j k n l m) ∙ ap (λ b. cond b x (f v j)) (and-false (eqb v w)) ∙ e

-- other numbers
pub sound-counted : (f : Facts) (n m : ℕ) → IsSound f → IsSound (record f { counter = n; finishes = m })
sound-counted f n m s = sound_bounded f (record f { counter = n; finishes = m }) s (record { setting = refl; threads = refl; last_worker = refl; want = s.want; has = s.has; bad = s.bad; losses = s.losses; on = s.on; steal = s.steal; holders = s.holders; places = s.places })

pub sound-sent : (f : Facts) (sent : ℕ → ℕ) (fence : ℕ → ℕ → ℕ) → IsSound f → IsSound (record f { sent = sent; fence = fence })
sound-sent f sent fence s = sound_bounded f (record f { sent = sent; fence = fence }) s (record { setting = refl; threads = refl; last_worker = refl; want = s.want; has = s.has; bad = s.bad; losses = s.losses; on = s.on; steal = s.steal; holders = s.holders; places = s.places })

pub sound-want : (f : Facts) (c k : ℕ) (to : Bool) → k < keys f → IsSound f → IsSound (record f { want = put_pair f.want c k to })
sound-want f c k to l s = sound_bounded f (record f { want = put_pair f.want c k to }) s (record { setting = refl; threads = refl; last_worker = refl; want = λ d j m. pair_past f.want c k (keys f) d j to false l m (s.want d j m); has = s.has; bad = s.bad; losses = s.losses; on = s.on; steal = s.steal; holders = s.holders; places = s.places })

pub sound-bad : (f : Facts) (k : ℕ) (to : Bool) → k < keys f → IsSound f → IsSound (record f { bad = put f.bad k to })
sound-bad f k to l s = sound_bounded f (record f { bad = put f.bad k to }) s (record { setting = refl; threads = refl; last_worker = refl; want = s.want; has = s.has; bad = λ j m. ap (λ b. cond b to (f.bad j)) (unequal_past j k (keys f) l m) ∙ s.bad j m; losses = s.losses; on = s.on; steal = s.steal; holders = s.holders; places = s.places })

pub sound-losses : (f : Facts) (bad : ℕ → Bool) (k n : ℕ) → k < keys f → ((j : ℕ) → keys f ≤ j → bad j ≡ false) → IsSound f → IsSound (record f { bad = bad; losses = put f.losses k n })
sound-losses f bad k n l b s = sound_bounded f (record f { bad = bad; losses = put f.losses k n }) s (record { setting = refl; threads = refl; last_worker = refl; want = s.want; has = s.has; bad = b; losses = λ j m. ap (λ t. cond t n (f.losses j)) (unequal_past j k (keys f) l m) ∙ s.losses j m; on = s.on; steal = s.steal; holders = s.holders; places = s.places })

pub sound-copied : (f : Facts) (w k : ℕ) (to : Option ℕ) → k < keys f → connected f w ≡ true → IsSound f → IsSound (record f { has = put_pair f.has w k to })
sound-copied f w k to l c s = sound_bounded f (record f { has = put_pair f.has w k to }) s (record { setting = refl; threads = refl; last_worker = refl; want = s.want; has = λ v j m. pair_past f.has w k (keys f) v j to None l m (s.has v j m); bad = s.bad; losses = s.losses; on = s.on; steal = s.steal; holders = λ v j h. pick v j (eqb v w && eqb j k) refl h; places = s.places })
  where
    pick : (v j : ℕ) (b : Bool) → (eqb v w && eqb j k) ≡ b → is_some (cond b to (f.has v j)) ≡ true → connected f v ≡ true
    pick v j true e h = subst (λ u. connected f u ≡ true) (sym (eqb-true v w (and_first (eqb v w) (eqb j k) e))) c
    pick v j false e h = s.holders v j h

pub sound-placed : (f : Facts) (k : ℕ) (to : Option (ℕ × ℕ)) → k < keys f → ((w a : ℕ) → to ≡ Some (w, a) → (connected f w ≡ true) × (a < f.counter)) → IsSound f → IsSound (record f { on = put f.on k to; steal = put f.steal k None })
sound-placed f k to l placed s = sound_bounded f (record f { on = put f.on k to; steal = put f.steal k None }) s (record { setting = refl; threads = refl; last_worker = refl; want = s.want; has = s.has; bad = s.bad; losses = s.losses; on = λ j m. put_past f.on k (keys f) j to l m (s.on j m); steal = λ j h. steal_at j (eqb j k) h; holders = s.holders; places = λ v j h. place_at v j (eqb j k) h })
  where
    steal_at : (j : ℕ) (b : Bool) → cond b to (f.on j) ≡ None → cond b None (f.steal j) ≡ None
    steal_at j true h = refl
    steal_at j false h = s.steal j h

    given : (v : ℕ) (o : Option (ℕ × ℕ)) → to ≡ o → is_for v o ≡ true → connected f v ≡ true
    given v None e h = absurd (false≢true h)
    given v (Some p) e h = subst (λ u. connected f u ≡ true) (eqb-true p.0 v h) (placed p.0 p.1 e).0

    place_at : (v j : ℕ) (b : Bool) → is_for v (cond b to (f.on j)) ≡ true → connected f v ≡ true
    place_at v j true h = given v to refl h
    place_at v j false h = s.places v j h

no_place : (x : Option (ℕ × ℕ)) → is_some x ≡ true → x ≡ None → ⊥
no_place x h e = false≢true (ap is_some (sym e) ∙ h)

pub sound-marked : (f : Facts) (k : ℕ) (to : Option (ℕ × Bool)) → is_some (f.on k) ≡ true → IsSound f → IsSound (record f { steal = put f.steal k to })
sound-marked f k to placed s = sound_bounded f (record f { steal = put f.steal k to }) s (bounded_marked f s k to (no_place (f.on k) placed))

pub fresh-counted : (f : Facts) → IsFresh f → IsFresh (record f { counter = f.counter + 1 })
fresh-counted f h = record { copies = λ w k c e. less c f.counter (h.copies w k c e); attempts = λ k w a e. less a f.counter (h.attempts k w a e) }
  where
    less : (c n : ℕ) → c < n → c < n + 1
    less c n l = omega arith

pub fresh-copied : (f : Facts) (w k : ℕ) (to : Option ℕ) → ((c : ℕ) → to ≡ Some c → c < f.counter) → IsFresh f → IsFresh (record f { has = put_pair f.has w k to })
fresh-copied f w k to low h = record { copies = λ v j c e. pick v j c (eqb v w && eqb j k) e; attempts = h.attempts }
  where
    pick : (v j c : ℕ) (b : Bool) → cond b to (f.has v j) ≡ Some c → c < f.counter
    pick v j c true e = low c e
    pick v j c false e = h.copies v j c e

pub fresh-placed : (f : Facts) (k : ℕ) (to : Option (ℕ × ℕ)) (st : ℕ → Option (ℕ × Bool)) → ((w a : ℕ) → to ≡ Some (w, a) → (connected f w ≡ true) × (a < f.counter)) → IsFresh f → IsFresh (record f { on = put f.on k to; steal = st })
fresh-placed f k to st low h = record { copies = h.copies; attempts = λ j w a e. pick j w a (eqb j k) e }
  where
    pick : (j w a : ℕ) (b : Bool) → cond b to (f.on j) ≡ Some (w, a) → a < f.counter
    pick j w a true e = (low w a e).1
    pick j w a false e = h.attempts j w a e
