-- Lists of holders that a worker is given: in answer to a question, and for replicas.
use Rattle.std.proofs.Common.{◌≡◌, ℕ, ◌+◌, ◌*◌, ◌≤◌, Bool, true, false, cond, not, ◌&&◌, ◌||◌, List, [], ◌∷◌, None, refl, sym, ap, ◌∙◌, subst, arith, is_some, fold}
use Rattle.std.proofs.Math.Dec.{eqb}
use Rattle.std.specs.List.{list_any}
use Rattle.std.proofs.lemmas.Bool.{eq-eqb, or_parts}
use Rattle.std.proofs.Math.Bool.{or-true}
use Rattle.cluster_msgs.specs.Shape.{Shape, deps_of}
use Rattle.cluster_msgs.specs.declared.messages.Down.{Down}
use Rattle.cluster_msgs.specs.declared.messages.Down.TheVariants.{RefreshWhoHas, AcquireReplicas}
use Rattle.cluster_rules.specs.Functions.{put}
use Rattle.cluster_rules.specs.Derived.{is_in}
use Rattle.cluster_rules.specs.Sched.{Facts}
use Rattle.cluster_rules.specs.Worker.{WorkerFacts, worker_keys, pending, awaited, flying, has_any}
use Rattle.cluster_rules.specs.WorkerStep.{quiet, taken, others, set_holders, acquire, refresh, take_down, worker_row, worker_step}
use Rattle.cluster_rules.specs.World.{World}
use Rattle.cluster_rules.specs.WorldStep.{take_down_first, world_step}
use Rattle.cluster_rules.proofs.ChoiceLemmas.{any_false}
use Rattle.quiet_measure.specs.Weights.{sum_of, list_weight, is_stale, given_weight, refresh_weight, core_weight, is_sought}
use Rattle.quiet_measure.specs.Measure.{Falls}
use Rattle.quiet_measure.specs.Turns.{IsFirst, is_vain, NamesOthers, IsVainInTime, RefreshFalls, AcquireFalls}
use Rattle.quiet_measure.proofs.KeyByKey.{whole, seeks, seek_by, seek_closed, seek_listed, is_bare, agree_worth, whole_gain}
use Rattle.quiet_measure.proofs.Told.{no_peer, turn_falls, whole_taken}

-- one key's holders are these, and what else changes is of that key
abbrev listed : WorkerFacts → ℕ → (ℕ → Bool) → (ℕ → Bool) → List (ℕ × ℕ) → WorkerFacts
listed w k A S hs = record w { asked = A; sought = S; holders = put w.holders k hs }

listed_whole : (f : Facts) (d : ℕ → ℕ) (w : WorkerFacts) (k : ℕ) (A S : ℕ → Bool) (hs : List (ℕ × ℕ)) (n : ℕ) → ((q : ℕ) → eqb q k ≡ false → A q ≡ w.asked q) → ((q : ℕ) → eqb q k ≡ false → S q ≡ w.sought q)
    → seek_by f d k (is_sought (listed w k A S hs) k) (is_bare (listed w k A S hs) k) hs ≤ n → whole f d (listed w k A S hs) ≤ whole f d w + n
listed_whole f d w k A S hs n a s l = whole_gain f d w (listed w k A S hs) refl k n refl
    (λ q o. agree_worth f d w (listed w k A S hs) q refl refl (λ j e. e) (record { mem = refl; sought = s q o; running = refl; mine = refl; asked = a q o; holders = ap (λ b. cond b hs (w.holders q)) o }))
    (let e : seeks f d (listed w k A S hs) k ≡ seek_by f d k (is_sought (listed w k A S hs) k) (is_bare (listed w k A S hs) k) hs =
    ap (λ b. seek_by f d k (is_sought (listed w k A S hs) k) (is_bare (listed w k A S hs) k) (cond b hs (w.holders k))) (eq-eqb k k refl) in
    omega (arith, e, l))

-- ## Answers

others_all : (i : ℕ) (hs : List (ℕ × ℕ)) → list_any (λ h. eqb h.0 i) hs ≡ false → others i hs ≡ hs
others_all i [] e = refl
others_all i (h ∷ hs) e = let r = or_parts (eqb h.0 i) (list_any (λ x. eqb x.0 i) hs) e in
    ap (λ b. cond (not b) (h ∷ others i hs) (others i hs)) r.0 ∙ ap (λ l. h ∷ l) (others_all i hs r.1)

-- no task of the worker depends on the key
abbrev Unused : WorkerFacts → ℕ → Type 0
Unused w k = (j : ℕ) → is_in k (deps_of w.shape j) ≡ true → w.mine j ≡ None

unused_awaits : (w : WorkerFacts) (k : ℕ) → Unused w k → awaited w k ≡ false
unfolding awaited
unused_awaits w k h = any_false _ (worker_keys w) (λ j m. by j (is_in k (deps_of w.shape j)) refl)
  where
    right : (b : Bool) → (b && false) ≡ false
    right true = refl
    right false = refl

    by : (j : ℕ) (b : Bool) → is_in k (deps_of w.shape j) ≡ b → (pending w j && b) ≡ false
    by j true e = ap (λ o. (is_some o && not (w.running j)) && true) (h j e)
    by j false e = right (pending w j)

module _ (f : Facts) (d : ℕ → ℕ) (i : ℕ) where
  refreshed_whole : (w : WorkerFacts) (p : ℕ × List (ℕ × ℕ)) → w.id ≡ i → list_any (λ h. eqb h.0 i) p.1 ≡ false → (has_any p.1 ≡ false → Unused w p.0) → whole f d (refresh w p) ≤ whole f d w + refresh_weight f d i p
  refreshed_whole w p id o u = listed_whole f d w p.0 (put w.asked p.0 false) (put w.sought p.0 (has_any p.1 && w.sought p.0)) (others w.id p.1) (refresh_weight f d i p)
      (λ q z. ap (λ b. cond b false (w.asked q)) z) (λ q z. ap (λ b. cond b (has_any p.1 && w.sought p.0) (w.sought q)) z) (by (has_any p.1) refl)
    where
      same : others w.id p.1 ≡ p.1
      same = ap (λ x. others x p.1) id ∙ others_all i p.1 o

      by : (b : Bool) → has_any p.1 ≡ b → seek_by f d p.0 (is_sought (refresh w p) p.0) (is_bare (refresh w p) p.0) (others w.id p.1) ≤ refresh_weight f d i p
      by true e =
          let l : seek_by f d p.0 (is_sought (refresh w p) p.0) (is_bare (refresh w p) p.0) (others w.id p.1) ≤ list_weight d p.0 (is_stale f p.0 (others w.id p.1)) =
          seek_listed f d p.0 (is_sought (refresh w p) p.0) (is_bare (refresh w p) p.0) (others w.id p.1) (ap (λ (x : List (ℕ × ℕ)). has_any x) same ∙ e) in
          let g : list_weight d p.0 (is_stale f p.0 (others w.id p.1)) ≡ refresh_weight f d i p = ap (λ x. list_weight d p.0 (is_stale f p.0 (others x p.1))) id in
          omega (arith, l, g)
      by false e =
          let z : seek_by f d p.0 (is_sought (refresh w p) p.0) (is_bare (refresh w p) p.0) (others w.id p.1) ≡ 0 = seek_closed f d p.0 (is_sought (refresh w p) p.0) (is_bare (refresh w p) p.0) (others w.id p.1) shut in
          omega (arith, z)
        where
          unsought : (refresh w p).sought p.0 ≡ false
          unsought = ap (λ b. cond b (has_any p.1 && w.sought p.0) (w.sought p.0)) (eq-eqb p.0 p.0 refl) ∙ ap (λ b. b && w.sought p.0) e

          shut : is_sought (refresh w p) p.0 ≡ false
          shut = ap (λ b. (not (w.mem p.0) && (b || awaited (refresh w p) p.0)) && not (flying (refresh w p) p.0)) unsought
              ∙ ap (λ b. (not (w.mem p.0) && b) && not (flying (refresh w p) p.0)) (unused_awaits (refresh w p) p.0 (u e)) ∙ closed (w.mem p.0) (flying (refresh w p) p.0)
            where
              closed : (x y : Bool) → ((not x && false) && not y) ≡ false
              closed true y = refl
              closed false y = refl

  refreshed_all : (w : WorkerFacts) (who : List (ℕ × List (ℕ × ℕ))) → w.id ≡ i → NamesOthers i (RefreshWhoHas who) → ((k : ℕ) → is_vain k (RefreshWhoHas who) ≡ true → Unused w k)
      → whole f d (fold refresh w who) ≤ whole f d w + sum_of (refresh_weight f d i) who
  refreshed_all w [] id o u = omega arith
  refreshed_all w (p ∷ who) id o u =
      let a : whole f d (refresh w p) ≤ whole f d w + refresh_weight f d i p = refreshed_whole w p id o.0 (λ e. u p.0 (vain e)) in
      let b : whole f d (fold refresh (refresh w p) who) ≤ whole f d (refresh w p) + sum_of (refresh_weight f d i) who = refreshed_all (refresh w p) who id o.1 (λ k e. u k (later k e)) in
      omega arith
    where
      vain : has_any p.1 ≡ false → is_vain p.0 (RefreshWhoHas (p ∷ who)) ≡ true
      vain e = ap (λ b. (eqb p.0 p.0 && not b) || is_vain p.0 (RefreshWhoHas who)) e ∙ ap (λ b. (b && true) || is_vain p.0 (RefreshWhoHas who)) (eq-eqb p.0 p.0 refl)

      later : (k : ℕ) → is_vain k (RefreshWhoHas who) ≡ true → is_vain k (RefreshWhoHas (p ∷ who)) ≡ true
      later k e = ap (λ b. (eqb p.0 k && not (has_any p.1)) || b) e ∙ or-true (eqb p.0 k && not (has_any p.1))

  -- a list that is given pays for itself, and for a question where it names nobody else
  pub given_most : (q : ℕ) (a c : Bool) (hs : List (ℕ × ℕ)) → seek_by f d q a c hs ≤ list_weight d q (is_stale f q hs || not (has_any hs))
  given_most q a c [] = by a c
    where
      by : (a c : Bool) → seek_by f d q a c [] ≤ 7 * (d q + 1) + 3
      by false c = omega arith
      by true false = omega arith
      by true true = omega arith
  given_most q a c (h ∷ hs) = let l : seek_by f d q a c (h ∷ hs) ≤ list_weight d q (is_stale f q (h ∷ hs)) = seek_listed f d q a c (h ∷ hs) refl in by (is_stale f q (h ∷ hs)) l
    where
      by : (b : Bool) → seek_by f d q a c (h ∷ hs) ≤ list_weight d q b → seek_by f d q a c (h ∷ hs) ≤ list_weight d q (b || false)
      by true l = l
      by false l = l

  acquired_whole : (w : WorkerFacts) (p : ℕ × List (ℕ × ℕ)) → w.id ≡ i → whole f d (acquire w p) ≤ whole f d w + given_weight f d i p
  acquired_whole w p id = pick (w.mem p.0)
    where
      sought_set : WorkerFacts
      sought_set = set_holders (record w { sought = put w.sought p.0 true }) p

      pick : (b : Bool) → whole f d (cond b w (set_holders (record w { sought = put w.sought p.0 true }) p)) ≤ whole f d w + given_weight f d i p
      pick true = omega arith
      pick false = listed_whole f d w p.0 w.asked (put w.sought p.0 true) (others w.id p.1) (given_weight f d i p) (λ q z. refl) (λ q z. ap (λ b. cond b true (w.sought q)) z)
          (subst (λ x. seek_by f d p.0 (is_sought (set_holders (record w { sought = put w.sought p.0 true }) p) p.0) (is_bare (set_holders (record w { sought = put w.sought p.0 true }) p) p.0) (others w.id p.1) ≤ given_weight f d x p) id
          (given_most p.0 _ _ (others w.id p.1)))

  acquired_all : (w : WorkerFacts) (who : List (ℕ × List (ℕ × ℕ))) → w.id ≡ i → whole f d (fold acquire w who) ≤ whole f d w + sum_of (given_weight f d i) who
  acquired_all w [] id = omega arith
  acquired_all w (p ∷ who) id =
      let a : whole f d (acquire w p) ≤ whole f d w + given_weight f d i p = acquired_whole w p id in
      let b : whole f d (fold acquire (acquire w p) who) ≤ whole f d (acquire w p) + sum_of (given_weight f d i) who = acquired_all (acquire w p) who (by (w.mem p.0)) in
      omega arith
    where
      by : (b : Bool) → (cond b w (set_holders (record w { sought = put w.sought p.0 true }) p)).id ≡ i
      by true = id
      by false = id

refreshed_asks : (w : WorkerFacts) (who : List (ℕ × List (ℕ × ℕ))) → (fold refresh w who).asks ≡ w.asks
refreshed_asks w [] = refl
refreshed_asks w (p ∷ who) = refreshed_asks (refresh w p) who

acquired_asks : (w : WorkerFacts) (who : List (ℕ × List (ℕ × ℕ))) → (fold acquire w who).asks ≡ w.asks
acquired_asks w [] = refl
acquired_asks w (p ∷ who) = acquired_asks (acquire w p) who ∙ by (w.mem p.0)
  where
    by : (b : Bool) → (cond b w (set_holders (record w { sought = put w.sought p.0 true }) p)).asks ≡ w.asks
    by true = refl
    by false = refl

-- ## The events

refreshed_falls : (w : World) (i : ℕ) (who : List (ℕ × List (ℕ × ℕ))) (ms : List Down) → IsFirst w i (RefreshWhoHas who) ms → NamesOthers i (RefreshWhoHas who) → IsVainInTime w i (RefreshWhoHas who)
    → Falls w (take_down_first w i (RefreshWhoHas who ∷ ms))
unfolding worker_step worker_row take_down
refreshed_falls w i who ms h o v = turn_falls w i (RefreshWhoHas who) ms h.first h.alive h.there (h.sound.numbers i h.there).0 (h.sound.numbers i h.there).1
    (quiet (fold refresh (taken (w.workers i)) who)) (refreshed_asks (taken (w.workers i)) who) no_peer refl
    (λ d. let a : whole w.sched d (fold refresh (taken (w.workers i)) who) ≤ whole w.sched d (taken (w.workers i)) + sum_of (refresh_weight w.sched d i) who = refreshed_all w.sched d i (taken (w.workers i)) who h.id o unused in
    let b : whole w.sched d (taken (w.workers i)) ≡ core_weight w.sched d (w.workers i) = whole_taken w.sched d (w.workers i) h.kept in
    omega arith)
  where
    unused : (k : ℕ) → is_vain k (RefreshWhoHas who) ≡ true → (j : ℕ) → is_in k (deps_of (w.workers i).shape j) ≡ true → (w.workers i).mine j ≡ None
    unused k e j m = v k j e (subst (λ (g : Shape). is_in k (deps_of g j) ≡ true) (h.inside.workers i).shape m)

pub refresh_falls : RefreshFalls
unfolding world_step
refresh_falls j w i who ms h o v = subst (λ (l : List Down). Falls w (take_down_first w i l)) (sym h.first) (refreshed_falls w i who ms h o v)

acquired_falls : (w : World) (i : ℕ) (who : List (ℕ × List (ℕ × ℕ))) (ms : List Down) → IsFirst w i (AcquireReplicas who) ms → Falls w (take_down_first w i (AcquireReplicas who ∷ ms))
unfolding worker_step worker_row take_down
acquired_falls w i who ms h = turn_falls w i (AcquireReplicas who) ms h.first h.alive h.there (h.sound.numbers i h.there).0 (h.sound.numbers i h.there).1
    (quiet (fold acquire (taken (w.workers i)) who)) (acquired_asks (taken (w.workers i)) who) no_peer refl
    (λ d. let a : whole w.sched d (fold acquire (taken (w.workers i)) who) ≤ whole w.sched d (taken (w.workers i)) + sum_of (given_weight w.sched d i) who = acquired_all w.sched d i (taken (w.workers i)) who h.id in
    let b : whole w.sched d (taken (w.workers i)) ≡ core_weight w.sched d (w.workers i) = whole_taken w.sched d (w.workers i) h.kept in
    omega arith)

pub acquire_falls : AcquireFalls
unfolding world_step
acquire_falls j w i who ms h = subst (λ (l : List Down). Falls w (take_down_first w i l)) (sym h.first) (acquired_falls w i who ms h)
