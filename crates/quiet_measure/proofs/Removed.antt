-- Replicas that a worker is to let go.
use Rattle.std.proofs.Common.{◌≡◌, ℕ, ◌+◌, ◌*◌, ◌-◌, ◌≤◌, Bool, true, false, cond, not, ◌&&◌, ◌||◌, List, [], ◌∷◌, ◌++◌, length, refl, sym, ap, ◌∙◌, subst, arith, filter}
use Rattle.std.proofs.Math.Dec.{eqb}
use Rattle.std.proofs.lemmas.Bool.{false≢true, eq-eqb, eqb-true, and_parts, false_from_ne_true}
use Rattle.cluster_msgs.specs.declared.messages.Down.{Down}
use Rattle.cluster_msgs.specs.declared.messages.Down.TheVariants.{RemoveReplicas}
use Rattle.cluster_msgs.specs.declared.messages.Up.{Up}
use Rattle.cluster_msgs.specs.declared.cores.Instruction.TheVariants.{Drop}
use Rattle.cluster_msgs.specs.Shape.{key_count}
use Rattle.cluster_rules.specs.Functions.{put, total}
use Rattle.cluster_rules.specs.Derived.{is_in, below}
use Rattle.cluster_rules.specs.Sched.{Facts, held}
use Rattle.cluster_rules.specs.Worker.{WorkerFacts, worker_keys, awaited, flying}
use Rattle.cluster_rules.specs.WorkerStep.{WorkerStep, quiet, after_out, each_key, taken, remove_replica, add_message, and_then, remove_replicas, take_down, worker_row, worker_step}
use Rattle.cluster_rules.specs.World.{World}
use Rattle.cluster_rules.specs.WorldStep.{sends, take_down_first, world_step}
use Rattle.quiet_measure.specs.Weights.{bit, sum_of, question, added_weight, up_weight, core_weight, is_sought}
use Rattle.quiet_measure.specs.Measure.{up_disturbs, Falls}
use Rattle.quiet_measure.specs.Turns.{IsFirst, RemoveFalls}
use Rattle.quiet_measure.proofs.Sums.{total_at_most}
use Rattle.quiet_measure.proofs.Asked.{sends_append}
use Rattle.quiet_measure.proofs.Fewer.{total_filter, total_nothing}
use Rattle.quiet_measure.proofs.KeyByKey.{whole, seeks, seek_closed, is_bare, agree_worth, whole_gain, awaited_less, paid_at, paid_total}
use Rattle.quiet_measure.proofs.Told.{AsksNoPeer, no_peer, no_peers, P, turn_falls, whole_taken}
use Rattle.quiet_measure.proofs.Freed.{IsSilent, silent_none, silent_both, silent_drop}

-- what is here isn't sought
abbrev HasUnsought : WorkerFacts → Type 0
HasUnsought w = (k : ℕ) → w.mem k ≡ true → w.sought k ≡ false

unseen : (w : WorkerFacts) (k : ℕ) → HasUnsought w → HasUnsought (record w { mem = put w.mem k false })
unseen w k u q e = u q (by (eqb q k) e)
  where
    by : (b : Bool) → cond b false (w.mem q) ≡ true → w.mem q ≡ true
    by true e = absurd (false≢true e)
    by false e = e

module _ (f : Facts) (d : ℕ → ℕ) where
  removed_whole : (w : WorkerFacts) (k : ℕ) → HasUnsought w → whole f d (remove_replica w k).facts ≤ whole f d w
  removed_whole w k u = pick (w.mem k && not (awaited w k)) refl
    where
      gone : (w.mem k && not (awaited w k)) ≡ true → whole f d (record w { mem = put w.mem k false }) ≤ whole f d w + 0
      gone e = whole_gain f d w (record w { mem = put w.mem k false }) refl k 0 refl
          (λ q o. agree_worth f d w (record w { mem = put w.mem k false }) q refl refl (λ j x. x) (record { mem = ap (λ b. cond b false (w.mem q)) o; sought = refl; running = refl; mine = refl; asked = refl; holders = refl }))
          (let z : seeks f d (record w { mem = put w.mem k false }) k ≡ 0 = seek_closed f d k (is_sought (record w { mem = put w.mem k false }) k) (is_bare (record w { mem = put w.mem k false }) k) (w.holders k) shut in omega (arith, z))
        where
          parts : (w.mem k ≡ true) × (not (awaited w k) ≡ true)
          parts = and_parts (w.mem k) (not (awaited w k)) e

          flip : (b : Bool) → not b ≡ true → b ≡ false
          flip true h = absurd (false≢true h)
          flip false h = refl

          unawaited : awaited (record w { mem = put w.mem k false }) k ≡ false
          unawaited = false_from_ne_true (awaited (record w { mem = put w.mem k false }) k)
              (λ x. false≢true (sym (flip (awaited w k) parts.1) ∙ awaited_less w (record w { mem = put w.mem k false }) refl (λ j y. y) k x))

          closed : (x y : Bool) → ((x && false) && not y) ≡ false
          closed true y = refl
          closed false y = refl

          shut : is_sought (record w { mem = put w.mem k false }) k ≡ false
          shut = ap (λ b. (not (put w.mem k false k) && (b || awaited (record w { mem = put w.mem k false }) k)) && not (flying (record w { mem = put w.mem k false }) k)) (u k parts.0)
              ∙ ap (λ b. (not (put w.mem k false k) && b) && not (flying (record w { mem = put w.mem k false }) k)) unawaited
              ∙ closed (not (put w.mem k false k)) (flying (record w { mem = put w.mem k false }) k)

      pick : (b : Bool) → (w.mem k && not (awaited w k)) ≡ b → whole f d (cond b (record { facts = record w { mem = put w.mem k false }; out = Drop k ∷ [] }) (quiet w)).facts ≤ whole f d w
      pick true e = omega (arith, gone e)
      pick false e = omega arith

  removed_all : (s : WorkerStep) (ks : List ℕ) → HasUnsought s.facts → whole f d (each_key remove_replica s ks).facts ≤ whole f d s.facts
  removed_all s [] u = omega arith
  removed_all s (k ∷ ks) u =
      let a : whole f d (remove_replica s.facts k).facts ≤ whole f d s.facts = removed_whole s.facts k u in
      let b : whole f d (each_key remove_replica (after_out s.out (remove_replica s.facts k)) ks).facts ≤ whole f d (remove_replica s.facts k).facts = removed_all (after_out s.out (remove_replica s.facts k)) ks (by (s.facts.mem k && not (awaited s.facts k))) in
      omega arith
    where
      by : (b : Bool) → HasUnsought (cond b (record { facts = record s.facts { mem = put s.facts.mem k false }; out = Drop k ∷ [] }) (quiet s.facts)).facts
      by true = unseen s.facts k u
      by false = u

removed_silent : (s : WorkerStep) (ks : List ℕ) → IsSilent s.out → IsSilent (each_key remove_replica s ks).out
removed_silent s [] h = h
removed_silent s (k ∷ ks) h = removed_silent (after_out s.out (remove_replica s.facts k)) ks (silent_both s.out (remove_replica s.facts k).out h (by (s.facts.mem k && not (awaited s.facts k))))
  where
    by : (b : Bool) → IsSilent (cond b (record { facts = record s.facts { mem = put s.facts.mem k false }; out = Drop k ∷ [] }) (quiet s.facts)).out
    by true = silent_drop k
    by false = silent_none

removed_asks : (s : WorkerStep) (ks : List ℕ) → (each_key remove_replica s ks).facts.asks ≡ s.facts.asks
removed_asks s [] = refl
removed_asks s (k ∷ ks) = removed_asks (after_out s.out (remove_replica s.facts k)) ks ∙ by (s.facts.mem k && not (awaited s.facts k))
  where
    by : (b : Bool) → (cond b (record { facts = record s.facts { mem = put s.facts.mem k false }; out = Drop k ∷ [] }) (quiet s.facts)).facts.asks ≡ s.facts.asks
    by true = refl
    by false = refl

-- ## The keys that stay

added_most : (f : Facts) (d : ℕ → ℕ) (k : ℕ) → added_weight f d k ≤ question d k + 1
added_most f d k = less (d k) (bit (held f k))
  where
    less : (n b : ℕ) → 7 * (n - b) + 6 ≤ 7 * n + 5 + 1
    less n b = omega arith

-- each key of the message is one of those that were named
named_pay : (g : ℕ → ℕ) (t : ℕ → Bool) (ks : List ℕ) (n : ℕ) → total g (filter (λ k. is_in k ks && t k) (below n)) ≤ total g ks
named_pay g t ks n =
    let a : total g (filter (λ k. is_in k ks && t k) (below n)) ≡ total (λ k. cond (is_in k ks && t k) (g k) 0) (below n) = total_filter g (λ k. is_in k ks && t k) (below n) in
    let b : total (λ k. cond (is_in k ks && t k) (g k) 0) (below n) ≤ total (λ x. 0) (below n) + sum_of g ks = paid_total (λ k. cond (is_in k ks && t k) (g k) 0) (λ x. 0) (λ k. k) g ks n (λ q. one q ks) in
    let c : total (λ x. 0) (below n) ≡ 0 = total_nothing (below n) in
    let e : sum_of g ks ≡ total g ks = same ks in
    omega arith
  where
    same : (xs : List ℕ) → sum_of g xs ≡ total g xs
    same [] = refl
    same (x ∷ xs) = ap (λ m. g x + m) (same xs)

    where_less : (b t : Bool) (m : ℕ) → cond (b && t) m 0 ≤ cond b m 0
    where_less true true m = omega arith
    where_less true false m = omega arith
    where_less false t m = omega arith

    listed : (q : ℕ) (xs : List ℕ) → cond (is_in q xs) (g q) 0 ≤ paid_at (λ k. k) g xs q
    listed q [] = omega arith
    listed q (x ∷ xs) = by (eqb x q) refl (listed q xs)
      where
        by : (b : Bool) → eqb x q ≡ b → cond (is_in q xs) (g q) 0 ≤ paid_at (λ k. k) g xs q → cond (b || is_in q xs) (g q) 0 ≤ cond (eqb q x) (g x) 0 + paid_at (λ k. k) g xs q
        by true e l =
            let same : x ≡ q = eqb-true x q e in
            let here : cond (eqb q x) (g x) 0 ≡ g x = ap (λ b. cond b (g x) 0) (eq-eqb q x (sym same)) in
            let there : g x ≡ g q = ap g same in
            omega arith
        by false e l = omega arith

    one : (q : ℕ) (xs : List ℕ) → cond (is_in q xs && t q) (g q) 0 ≤ 0 + paid_at (λ k. k) g xs q
    one q xs = omega (arith, where_less (is_in q xs) (t q) (g q), listed q xs)

add_weight : (f : Facts) (d : ℕ → ℕ) (seen : ℕ) (xs : List ℕ) → sum_of (up_weight f d) (sends (add_message seen xs)) ≤ 1 + total (added_weight f d) xs
add_weight f d seen [] = omega arith
add_weight f d seen (x ∷ xs) = omega arith

pub add_alone : (seen : ℕ) (xs : List ℕ) → AsksNoPeer (add_message seen xs)
add_alone seen [] = no_peer
add_alone seen (x ∷ xs) = record { same = λ i qs is. refl }

pub add_calm : (w : World) (i seen : ℕ) (xs : List ℕ) → w.alive i ≡ true → sum_of (up_disturbs w i) (sends (add_message seen xs)) ≡ 0
add_calm w i seen [] a = refl
add_calm w i seen (x ∷ xs) a = ap (λ b. cond b 0 (length (x ∷ xs)) + 0) a

module _ (w : World) (i : ℕ) (ks : List ℕ) (ms : List Down) (h : IsFirst w i (RemoveReplicas ks) ms) where
  abbrev W : WorkerFacts
  W = taken (w.workers i)

  abbrev stay : List ℕ
  stay = filter (λ k. is_in k ks && (W.mem k && awaited W k)) (worker_keys W)

  abbrev rows : WorkerStep
  rows = each_key remove_replica (quiet W) ks

  removed_falls : Falls w (take_down_first w i (RemoveReplicas ks ∷ ms))
  unfolding worker_step worker_row take_down remove_replicas
  removed_falls = turn_falls w i (RemoveReplicas ks) ms h.first h.alive h.there (h.sound.numbers i h.there).0 (h.sound.numbers i h.there).1 (and_then rows (add_message W.seen stay)) (removed_asks (quiet W) ks)
      (no_peers rows.out (add_message W.seen stay) silent.alone (add_alone W.seen stay)) (calm) less
    where
      silent : IsSilent rows.out
      silent = removed_silent (quiet W) ks silent_none

      split : (g : Up → ℕ) → sum_of g (sends (rows.out ++ add_message W.seen stay)) ≡ sum_of g (sends (add_message W.seen stay))
      split g = ap (sum_of g) (sends_append rows.out (add_message W.seen stay) ∙ ap (λ l. l ++ sends (add_message W.seen stay)) silent.sends)

      calm : sum_of (up_disturbs (P w i (RemoveReplicas ks) ms h.first h.alive h.there (h.sound.numbers i h.there).0 (h.sound.numbers i h.there).1) i) (sends (rows.out ++ add_message W.seen stay)) ≡ 0
      calm = split (up_disturbs (P w i (RemoveReplicas ks) ms h.first h.alive h.there (h.sound.numbers i h.there).0 (h.sound.numbers i h.there).1) i) ∙ add_calm (P w i (RemoveReplicas ks) ms h.first h.alive h.there (h.sound.numbers i h.there).0 (h.sound.numbers i h.there).1) i W.seen stay h.alive

      less : (d : ℕ → ℕ) → (whole w.sched d rows.facts + sum_of (up_weight w.sched d) (sends (rows.out ++ add_message W.seen stay))) + 1 ≤ core_weight w.sched d (w.workers i) + (2 + total (λ k. question d k + 1) ks)
      less d =
          let a : whole w.sched d rows.facts ≤ whole w.sched d W = removed_all w.sched d (quiet W) ks (λ k e. (h.kept.keys.at k).not_sought e) in
          let b : whole w.sched d W ≡ core_weight w.sched d (w.workers i) = whole_taken w.sched d (w.workers i) h.kept in
          let c : sum_of (up_weight w.sched d) (sends (rows.out ++ add_message W.seen stay)) ≡ sum_of (up_weight w.sched d) (sends (add_message W.seen stay)) = split (up_weight w.sched d) in
          let e : sum_of (up_weight w.sched d) (sends (add_message W.seen stay)) ≤ 1 + total (added_weight w.sched d) stay = add_weight w.sched d W.seen stay in
          let g : total (added_weight w.sched d) stay ≤ total (λ k. question d k + 1) stay = total_at_most (added_weight w.sched d) (λ k. question d k + 1) stay (added_most w.sched d) in
          let n : total (λ k. question d k + 1) stay ≤ total (λ k. question d k + 1) ks = named_pay (λ k. question d k + 1) (λ k. W.mem k && awaited W k) ks (key_count W.shape) in
          omega arith

pub remove_falls : RemoveFalls
unfolding world_step
remove_falls j w i ks ms h = subst (λ (l : List Down). Falls w (take_down_first w i l)) (sym h.first) (removed_falls w i ks ms h)
