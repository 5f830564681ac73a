-- A task that a worker is given.
use Rattle.std.proofs.Common.{◌≡◌, ℕ, ◌+◌, ◌≤◌, Bool, true, false, cond, not, ◌&&◌, ◌||◌, List, [], ◌∷◌, Some, refl, sym, ap, ◌∙◌, subst, arith, is_some, fold}
use Rattle.std.proofs.Math.Dec.{eqb}
use Rattle.std.proofs.lemmas.Bool.{false≢true, eq-eqb, eqb-true, ne_eqb, and_parts, eqb-false}
use Rattle.cluster_msgs.specs.Shape.{Shape, key_count, deps_of}
use Rattle.cluster_msgs.specs.declared.messages.Down.{Down}
use Rattle.cluster_msgs.specs.declared.messages.Down.TheVariants.{ComputeTask}
use Rattle.cluster_msgs.specs.declared.messages.Up.TheVariants.{TaskFinished}
use Rattle.cluster_msgs.specs.declared.cores.Instruction.TheVariants.{Send}
use Rattle.cluster_rules.specs.Functions.{put, total}
use Rattle.cluster_rules.specs.Derived.{is_in, below}
use Rattle.cluster_rules.specs.Sched.{Facts, deps}
use Rattle.cluster_rules.specs.Worker.{WorkerFacts, worker_keys, awaited, flying, has_any}
use Rattle.cluster_rules.specs.WorkerStep.{quiet, taken, others, set_holders, given, take_down, worker_row, worker_step, seek_missing}
use Rattle.cluster_rules.specs.Inside.{named_keys}
use Rattle.cluster_rules.specs.World.{World}
use Rattle.cluster_rules.specs.WorldStep.{take_down_first, world_step, worked}
use Rattle.quiet_measure.specs.Weights.{sum_of, bit, question, list_weight, is_stale, given_weight, task_weight, core_weight, is_sought}
use Rattle.quiet_measure.specs.Measure.{Falls}
use Rattle.quiet_measure.specs.Turns.{IsFirst, NamesDeps, TaskFalls}
use Rattle.quiet_measure.proofs.Sums.{total_gain}
use Rattle.quiet_measure.proofs.Falling.{same_most}
use Rattle.quiet_measure.proofs.Start.{any_more}
use Rattle.quiet_measure.proofs.KeyByKey.{whole, worth, seeks, seek_by, seek_less, is_bare, sought_less, paid_at, paid_total}
use Rattle.quiet_measure.proofs.Told.{no_peer, P, turn_falls, whole_taken}
use Rattle.quiet_measure.proofs.Listed.{given_most}

-- ## The lists

module _ (f : Facts) (d : ℕ → ℕ) (q : ℕ) (a c : Bool) where
  abbrev at : List (ℕ × ℕ) → ℕ
  at hs = seek_by f d q a c hs

  -- a key that is named is paid for by its list
  named_pays : (w : WorkerFacts) (who : List (ℕ × List (ℕ × ℕ))) → at ((fold set_holders w who).holders q) ≤ cond (is_in q (named_keys who)) 0 (at (w.holders q)) + paid_at (λ p. p.0) (given_weight f d w.id) who q
  named_pays w [] = omega arith
  named_pays w (p ∷ who) = by (eqb q p.0) refl (named_pays (set_holders w p) who)
    where
      mostly : (b : Bool) (n m : ℕ) → n ≤ m → cond b 0 n ≤ m
      mostly true n m l = omega arith
      mostly false n m l = l

      flip : eqb q p.0 ≡ false → eqb p.0 q ≡ false
      flip e = ne_eqb p.0 q (λ s. eqb-false q p.0 e (sym s))

      by : (b : Bool) → eqb q p.0 ≡ b
          → at ((fold set_holders (set_holders w p) who).holders q) ≤ cond (is_in q (named_keys who)) 0 (at (cond (eqb q p.0) (others w.id p.1) (w.holders q))) + paid_at (λ p. p.0) (given_weight f d w.id) who q
          → at ((fold set_holders (set_holders w p) who).holders q) ≤ cond (eqb p.0 q || is_in q (named_keys who)) 0 (at (w.holders q)) + (cond (eqb q p.0) (given_weight f d w.id p) 0 + paid_at (λ p. p.0) (given_weight f d w.id) who q)
      by true e l =
          let same : q ≡ p.0 = eqb-true q p.0 e in
          let g : at (others w.id p.1) ≤ given_weight f d w.id p = subst (λ k. seek_by f d q a c (others w.id p.1) ≤ list_weight d k (is_stale f k (others w.id p.1) || not (has_any (others w.id p.1)))) same (given_most f d w.id q a c (others w.id p.1)) in
          let x : at (cond (eqb q p.0) (others w.id p.1) (w.holders q)) ≡ at (others w.id p.1) = ap (λ b. at (cond b (others w.id p.1) (w.holders q))) e in
          let y : cond (eqb q p.0) (given_weight f d w.id p) 0 ≡ given_weight f d w.id p = ap (λ b. cond b (given_weight f d w.id p) 0) e in
          let m : cond (is_in q (named_keys who)) 0 (at (cond (eqb q p.0) (others w.id p.1) (w.holders q))) ≤ given_weight f d w.id p = mostly (is_in q (named_keys who)) _ _ (omega (arith, g, x)) in
          omega (arith, l, m, y)
      by false e l =
          let x : cond (is_in q (named_keys who)) 0 (at (cond (eqb q p.0) (others w.id p.1) (w.holders q))) ≡ cond (is_in q (named_keys who)) 0 (at (w.holders q)) =
          ap (λ b. cond (is_in q (named_keys who)) 0 (at (cond b (others w.id p.1) (w.holders q)))) e in
          let y : cond (eqb q p.0) (given_weight f d w.id p) 0 ≡ cond false (given_weight f d w.id p) 0 = ap (λ b. cond b (given_weight f d w.id p) 0) e in
          let z : cond (eqb p.0 q || is_in q (named_keys who)) 0 (at (w.holders q)) ≡ cond (is_in q (named_keys who)) 0 (at (w.holders q)) = ap (λ b. cond (b || is_in q (named_keys who)) 0 (at (w.holders q))) (flip e) in
          omega (arith, l, x, y, z)

only_holders : (w : WorkerFacts) (who : List (ℕ × List (ℕ × ℕ))) → fold set_holders w who ≡ record w { holders = (fold set_holders w who).holders }
only_holders w [] = refl
only_holders w (p ∷ who) = only_holders (set_holders w p) who

-- ## The task

module _ (f : Facts) (d : ℕ → ℕ) (w : WorkerFacts) (k a : ℕ) (who : List (ℕ × List (ℕ × ℕ))) (names : named_keys who ≡ deps_of w.shape k) where
  abbrev began : WorkerFacts
  began = record w { failed = put w.failed k false; mine = put w.mine k (Some a) }

  abbrev laden : WorkerFacts
  laden = record w { failed = put w.failed k false; mine = put w.mine k (Some a); holders = (fold set_holders began who).holders }

  -- another key is awaited only by tasks that were there
  awaits : (q : ℕ) → is_in q (named_keys who) ≡ false → awaited laden q ≡ true → awaited w q ≡ true
  unfolding awaited
  awaits q n e = any_more _ _ (worker_keys w) (λ j x. by j (eqb j k) refl x) e
    where
      by : (j : ℕ) (b : Bool) → eqb j k ≡ b → ((is_some (cond (eqb j k) (Some a) (w.mine j)) && not (w.running j)) && is_in q (deps_of w.shape j)) ≡ true → ((is_some (w.mine j) && not (w.running j)) && is_in q (deps_of w.shape j)) ≡ true
      by j true o x = absurd (false≢true (sym n ∙ ap (λ ks. is_in q ks) (names ∙ ap (deps_of w.shape) (sym (eqb-true j k o))) ∙ (and_parts (is_some (cond (eqb j k) (Some a) (w.mine j)) && not (w.running j)) _ x).1))
      by j false o x = sym (ap (λ b. (is_some (cond b (Some a) (w.mine j)) && not (w.running j)) && is_in q (deps_of w.shape j)) o) ∙ x

  same_flying : (q : ℕ) → flying laden q ≡ flying w q
  unfolding flying
  same_flying q = refl

  bare_before : (q : ℕ) → is_bare laden q ≡ true → is_bare w q ≡ true
  bare_before q e = by (eqb q k) e
    where
      none : (x y : Bool) → ((not x && false) && not y) ≡ false
      none true y = refl
      none false y = refl

      by : (b : Bool) → ((not (w.running q) && not (is_some (cond b (Some a) (w.mine q)))) && not (w.asked q)) ≡ true → ((not (w.running q) && not (is_some (w.mine q))) && not (w.asked q)) ≡ true
      by true x = absurd (false≢true (sym (none (w.running q) (w.asked q)) ∙ x))
      by false x = x

  bare_less : (q : ℕ) (s x y : Bool) (hs : List (ℕ × ℕ)) → (x ≡ true → y ≡ true) → seek_by f d q s x hs ≤ seek_by f d q s y hs
  bare_less q s true y hs h = same_most _ _ (ap (λ b. seek_by f d q s b hs) (sym (h refl)))
  bare_less q s false y hs h = by s (has_any hs) y
    where
      by : (s l y : Bool) → cond s (cond l (list_weight d q (is_stale f q hs)) 0) 0 ≤ cond s (cond l (list_weight d q (is_stale f q hs)) (cond y (question d q) 0)) 0
      by true true y = omega arith
      by true false y = omega arith
      by false l y = omega arith

  seeks_most : (q : ℕ) → seeks f d laden q ≤ seeks f d w q + paid_at (λ p. p.0) (given_weight f d w.id) who q
  seeks_most q = by (is_in q (named_keys who)) refl (named_pays f d q (is_sought laden q) (is_bare laden q) began who)
    where
      by : (b : Bool) → is_in q (named_keys who) ≡ b
          → seeks f d laden q ≤ cond (is_in q (named_keys who)) 0 (seek_by f d q (is_sought laden q) (is_bare laden q) (w.holders q)) + paid_at (λ p. p.0) (given_weight f d w.id) who q
          → seeks f d laden q ≤ seeks f d w q + paid_at (λ p. p.0) (given_weight f d w.id) who q
      by true n l = let x : cond (is_in q (named_keys who)) 0 (seek_by f d q (is_sought laden q) (is_bare laden q) (w.holders q)) ≡ cond true 0 (seek_by f d q (is_sought laden q) (is_bare laden q) (w.holders q)) =
          ap (λ b. cond b 0 (seek_by f d q (is_sought laden q) (is_bare laden q) (w.holders q))) n in
          omega (arith, l, x)
      by false n l =
          let x : cond (is_in q (named_keys who)) 0 (seek_by f d q (is_sought laden q) (is_bare laden q) (w.holders q)) ≡ seek_by f d q (is_sought laden q) (is_bare laden q) (w.holders q) =
          ap (λ b. cond b 0 (seek_by f d q (is_sought laden q) (is_bare laden q) (w.holders q))) n in
          let y : seek_by f d q (is_sought laden q) (is_bare laden q) (w.holders q) ≤ seek_by f d q (is_sought w q) (is_bare laden q) (w.holders q) =
          seek_less f d q (is_sought laden q) (is_sought w q) (is_bare laden q) (w.holders q) (sought_less w laden q (awaits q n) refl refl (same_flying q)) in
          let z : seek_by f d q (is_sought w q) (is_bare laden q) (w.holders q) ≤ seeks f d w q = bare_less q (is_sought w q) (is_bare laden q) (is_bare w q) (w.holders q) (bare_before q) in
          omega (arith, l, x, y, z)

  -- the task itself
  task_gain : (n : ℕ) → total (λ q. worth f d w q + cond (eqb q k) (question d k + 4) 0) (below n) ≤ total (worth f d w) (below n) + (question d k + 4)
  task_gain n = total_gain _ _ (question d k + 4) k 0 n (λ q l o. let z : cond (eqb q k) (question d k + 4) 0 ≡ cond false (question d k + 4) 0 = ap (λ b. cond b (question d k + 4) 0) o in omega arith)
      (let z : cond (eqb k k) (question d k + 4) 0 ≡ question d k + 4 = ap (λ b. cond b (question d k + 4) 0) (eq-eqb k k refl) in omega arith)

  tasks_most : (q : ℕ) → task_weight d laden q ≤ task_weight d w q + cond (eqb q k) (question d k + 4) 0
  tasks_most q = by (eqb q k) refl
    where
      some : (b r : Bool) → cond (true && not r) (question d q + 4) 0 + cond r (question d q + 3) 0 ≤ (cond (b && not r) (question d q + 4) 0 + cond r (question d q + 3) 0) + (question d q + 4)
      some true r = omega arith
      some false true = omega arith
      some false false = omega arith

      by : (b : Bool) → eqb q k ≡ b → cond (is_some (cond b (Some a) (w.mine q)) && not (w.running q)) (question d q + 4) 0 + cond (w.running q) (question d q + 3) 0 ≤ task_weight d w q + cond b (question d k + 4) 0
      by true o = let same : question d q ≡ question d k = ap (question d) (eqb-true q k o) in
          let l : cond (true && not (w.running q)) (question d q + 4) 0 + cond (w.running q) (question d q + 3) 0 ≤ task_weight d w q + (question d q + 4) = some (is_some (w.mine q)) (w.running q) in
          omega (arith, same, l)
      by false o = omega arith

  laden_whole : whole f d laden ≤ whole f d w + ((question d k + 4) + sum_of (given_weight f d w.id) who)
  laden_whole =
      let a : total (worth f d laden) (worker_keys w) ≤ total (λ q. worth f d w q + cond (eqb q k) (question d k + 4) 0) (worker_keys w) + sum_of (given_weight f d w.id) who =
      paid_total (worth f d laden) (λ q. worth f d w q + cond (eqb q k) (question d k + 4) 0) (λ p. p.0) (given_weight f d w.id) who (key_count w.shape)
      (λ q. let t : task_weight d laden q ≤ task_weight d w q + cond (eqb q k) (question d k + 4) 0 = tasks_most q in
      let s : seeks f d laden q ≤ seeks f d w q + paid_at (λ p. p.0) (given_weight f d w.id) who q = seeks_most q in
      omega arith) in
      let b : total (λ q. worth f d w q + cond (eqb q k) (question d k + 4) 0) (worker_keys w) ≤ total (worth f d w) (worker_keys w) + (question d k + 4) = task_gain (key_count w.shape) in
      omega arith

  laden_is : fold set_holders began who ≡ laden
  laden_is = only_holders began who

  given_whole : whole f d (fold set_holders began who) ≤ whole f d w + ((question d k + 4) + sum_of (given_weight f d w.id) who)
  given_whole = let e : whole f d (fold set_holders began who) ≡ whole f d laden = ap (whole f d) laden_is in omega (arith, e, laden_whole)

  given_asks : (fold set_holders began who).asks ≡ w.asks
  given_asks = ap (λ (x : WorkerFacts). x.asks) laden_is

failed_apart : (f : Facts) (d : ℕ → ℕ) (w : WorkerFacts) (F : ℕ → Bool) → whole f d (record w { failed = F }) ≡ whole f d w
unfolding awaited flying
failed_apart f d w F = refl

-- ## The event

module _ (w : World) (i k a : ℕ) (who : List (ℕ × List (ℕ × ℕ))) (ms : List Down) (h : IsFirst w i (ComputeTask k a who) ms) (names : NamesDeps (deps w.sched) (ComputeTask k a who)) where
  abbrev W : WorkerFacts
  W = taken (w.workers i)

  deps_named : named_keys who ≡ deps_of (w.workers i).shape k
  deps_named = names ∙ ap (λ (g : Shape). deps_of g k) (sym (h.inside.workers i).shape)

  tasked_falls : Falls w (take_down_first w i (ComputeTask k a who ∷ ms))
  unfolding worker_step worker_row take_down given
  tasked_falls = by ((w.workers i).mem k)
    where
      by : (b : Bool) → Falls w (worked (P w i (ComputeTask k a who) ms h.first h.alive h.there (h.sound.numbers i h.there).0 (h.sound.numbers i h.there).1) i (seek_missing (cond b
          (record { facts = record W { failed = put (w.workers i).failed k false }; out = Send (TaskFinished W.seen k a) ∷ [] })
          (quiet (fold set_holders (record W { failed = put (w.workers i).failed k false; mine = put (w.workers i).mine k (Some a) }) who)))))
      by true = turn_falls w i (ComputeTask k a who) ms h.first h.alive h.there (h.sound.numbers i h.there).0 (h.sound.numbers i h.there).1
          (record { facts = record W { failed = put (w.workers i).failed k false }; out = Send (TaskFinished W.seen k a) ∷ [] }) refl (record { same = λ i qs is. refl }) (ap (λ b. bit (not b) + 0) h.alive)
          (λ d. let x : whole w.sched d (record W { failed = put (w.workers i).failed k false }) ≡ whole w.sched d W = failed_apart w.sched d W (put (w.workers i).failed k false) in
          let y : whole w.sched d W ≡ core_weight w.sched d (w.workers i) = whole_taken w.sched d (w.workers i) h.kept in
          omega arith)
      by false = turn_falls w i (ComputeTask k a who) ms h.first h.alive h.there (h.sound.numbers i h.there).0 (h.sound.numbers i h.there).1
          (quiet (fold set_holders (record W { failed = put (w.workers i).failed k false; mine = put (w.workers i).mine k (Some a) }) who))
          (given_asks w.sched (λ x. 0) W k a who deps_named) no_peer refl
          (λ d. let x : whole w.sched d (fold set_holders (record W { failed = put (w.workers i).failed k false; mine = put (w.workers i).mine k (Some a) }) who) ≤ whole w.sched d W + ((question d k + 4) + sum_of (given_weight w.sched d (w.workers i).id) who) =
          given_whole w.sched d W k a who deps_named in
          let y : whole w.sched d W ≡ core_weight w.sched d (w.workers i) = whole_taken w.sched d (w.workers i) h.kept in
          let z : sum_of (given_weight w.sched d (w.workers i).id) who ≡ sum_of (given_weight w.sched d i) who = ap (λ x. sum_of (given_weight w.sched d x) who) h.id in
          omega arith)

pub task_falls : TaskFalls
unfolding world_step
task_falls j w i k a who ms h names = subst (λ (l : List Down). Falls w (take_down_first w i l)) (sym h.first) (tasked_falls w i k a who ms h names)
