-- Start lowers the measure.
use Rattle.std.proofs.Common.{◌≡◌, ℕ, ◌+◌, ◌≤◌, ◌<◌, Bool, true, false, cond, not, ◌&&◌, ◌||◌, List, [], ◌∷◌, Option, Some, None, refl, sym, ap, ◌∙◌, subst, arith, is_some, filter, find}
use Rattle.std.proofs.Math.Dec.{eqb}
use Rattle.std.specs.Prelude.{nat_lt}
use Rattle.std.specs.List.{list_any, Contains}
use Rattle.std.proofs.lemmas.Bool.{false≢true, and_parts, and_from}
use Rattle.cluster_msgs.specs.Shape.{key_count, deps_of}
use Rattle.cluster_msgs.specs.declared.cores.WorkerEvent.TheVariants.{Start as StartTask}
use Rattle.cluster_msgs.specs.declared.events.Event.TheVariants.{Start}
use Rattle.cluster_rules.specs.Functions.{put, total}
use Rattle.cluster_rules.specs.Derived.{is_in}
use Rattle.cluster_rules.specs.Sched.{Facts, IsSound}
use Rattle.cluster_rules.specs.Worker.{WorkerFacts, worker_keys, pending, awaited, flying, is_fed, is_wanted, has_any, wstate, is_ready_state, is_missing_state, running_count, would_start}
use Rattle.cluster_rules.specs.WorkerStep.{WorkerStep, start, worker_row, unasked_keys, ask_holders, seek_missing, worker_step}
use Rattle.cluster_rules.specs.WorkerKept.{IsKept}
use Rattle.cluster_rules.specs.World.{Job, World, is_connected}
use Rattle.cluster_rules.specs.WorldStep.{worked, world_step}
use Rattle.cluster_rules.specs.Enabled.{enabled}
use Rattle.cluster_rules.proofs.Members.{range_from}
use Rattle.cluster_rules.proofs.ChoiceLemmas.{FoundOf, find_found, contains_head, contains_tail}
use Rattle.std.proofs.Math.Bool.{or-true}
use Rattle.std.proofs.lemmas.Bool.{eq-eqb}
use Rattle.cluster_rules.proofs.WorkerLemmas.{ready_state-is, missing_state-is}
use Rattle.quiet_measure.specs.Weights.{is_stale, list_weight, question, task_weight, known_weight, is_sought, core_weight}
use Rattle.quiet_measure.specs.Measure.{disturbances, deaths}
use Rattle.quiet_measure.specs.Measure.{Falls}
use Rattle.quiet_measure.proofs.Sums.{total_at_most, total_trade}
use Rattle.quiet_measure.proofs.Falling.{same_most, falls}
use Rattle.quiet_measure.proofs.Turn.{disturbs_less, links_less}

-- ## Which keys are asked for

none_pass : {A : Type 0} (t : A → Bool) (xs : List A) → ((x : A) → Contains xs x → t x ≡ false) → filter t xs ≡ []
none_pass t [] h = refl
none_pass t (x ∷ xs) h = ap (λ b. cond b (x ∷ filter t xs) (filter t xs)) (h x (contains_head x xs)) ∙ none_pass t xs (λ y m. h y (contains_tail x xs y m))

-- where what is missing was so before, and asked for, nothing more is asked
pub asks_nothing : (w v : WorkerFacts) → IsKept w → v.shape ≡ w.shape → ((k : ℕ) → v.asked k ≡ w.asked k) → ((k : ℕ) → is_missing_state (wstate v k) ≡ true → is_missing_state (wstate w k) ≡ true) → unasked_keys v ≡ []
unfolding unasked_keys
asks_nothing w v h s a m = none_pass _ (worker_keys v) (λ k c. by k (let r = range_from 0 (key_count v.shape) k c in subst (λ g. k < key_count g) s (let l : k < key_count v.shape = omega (arith, r.1) in l)) (is_missing_state (wstate v k)) refl)
  where
    by : (k : ℕ) → k < key_count w.shape → (b : Bool) → is_missing_state (wstate v k) ≡ b → (b && not (v.asked k)) ≡ false
    by k l true e = ap not (a k ∙ h.missing k l (m k e))
    by k l false e = refl

-- ## Fewer keys are of use

pub any_more : (s t : ℕ → Bool) (xs : List ℕ) → ((x : ℕ) → s x ≡ true → t x ≡ true) → list_any s xs ≡ true → list_any t xs ≡ true
any_more s t [] h e = e
any_more s t (x ∷ xs) h e = pick (s x) refl e (any_more s t xs h)
  where
    pick : (b : Bool) → s x ≡ b → (b || list_any s xs) ≡ true → (list_any s xs ≡ true → list_any t xs ≡ true) → (t x || list_any t xs) ≡ true
    pick true q e r = ap (λ b. b || list_any t xs) (h x q)
    pick false q e r = ap (λ b. t x || b) (r e) ∙ or-true (t x)

pub less_known : (f : Facts) (d : ℕ → ℕ) (k : ℕ) (a b : Bool) (hs : List (ℕ × ℕ)) → (a ≡ true → b ≡ true) → known_weight f d k a hs ≤ known_weight f d k b hs
less_known f d k false b hs h = omega arith
less_known f d k true b hs h = same_most _ _ (ap (λ x. cond (x && has_any hs) (list_weight d k (is_stale f k hs)) 0) (sym (h refl)))

-- what was asked weighs nothing
pub asked_apart : (f : Facts) (d : ℕ → ℕ) (w : WorkerFacts) (a : ℕ → Bool) → core_weight f d (record w { asked = a }) ≡ core_weight f d w
unfolding core_weight awaited flying
asked_apart f d w a = refl

module _ (w : WorkerFacts) (k : ℕ) (r : is_ready_state (wstate w k) ≡ true) where
  abbrev pub started : WorkerFacts
  started = record w { running = put w.running k true }

  ready : (not (w.mem k) && (not (w.running k) && (not (flying w k) && (is_some (w.mine k) && is_fed w k)))) ≡ true
  ready = sym (ready_state-is w k) ∙ r

  still : w.running k ≡ false
  still = flip (w.running k) (and_parts (not (w.running k)) _ (and_parts (not (w.mem k)) _ ready).1).0
    where
      flip : (b : Bool) → not b ≡ true → b ≡ false
      flip true e = absurd (false≢true e)
      flip false e = refl

  mine : is_some (w.mine k) ≡ true
  mine = (and_parts (is_some (w.mine k)) (is_fed w k) (and_parts (not (flying w k)) _ (and_parts (not (w.running k)) _ (and_parts (not (w.mem k)) _ ready).1).1).1).0

  fewer_pending : (j : ℕ) → pending started j ≡ true → pending w j ≡ true
  fewer_pending j e = by (eqb j k) e
    where
      by : (b : Bool) → (is_some (w.mine j) && not (cond b true (w.running j))) ≡ true → (is_some (w.mine j) && not (w.running j)) ≡ true
      by true h = absurd (false≢true (sym (none (is_some (w.mine j))) ∙ h))
        where
          none : (x : Bool) → (x && false) ≡ false
          none true = refl
          none false = refl
      by false h = h

  fewer_awaited : (q : ℕ) → awaited started q ≡ true → awaited w q ≡ true
  unfolding awaited
  fewer_awaited q e = any_more _ _ (worker_keys w) (λ j h. let p = and_parts (pending started j) (is_in q (deps_of w.shape j)) h in and_from _ _ (fewer_pending j p.0) p.1) e

  fewer_wanted : (q : ℕ) → is_wanted started q ≡ true → is_wanted w q ≡ true
  fewer_wanted q e = let p = and_parts (not (w.mem q)) (w.sought q || awaited started q) e in and_from _ _ p.0 (by (w.sought q) p.1)
    where
      by : (b : Bool) → (b || awaited started q) ≡ true → (b || awaited w q) ≡ true
      by true h = refl
      by false h = fewer_awaited q h

  fewer_sought : (q : ℕ) → is_sought started q ≡ true → is_sought w q ≡ true
  unfolding flying
  fewer_sought q e = let p = and_parts (is_wanted started q) (not (flying started q)) e in and_from _ _ (fewer_wanted q p.0) p.1

  -- what is missing was so before
  fewer_missing : (q : ℕ) → is_missing_state (wstate started q) ≡ true → is_missing_state (wstate w q) ≡ true
  unfolding flying
  fewer_missing q e = missing_state-is w q ∙ by (eqb q k) (sym (missing_state-is started q) ∙ e)
    where
      by : (b : Bool) → (not (w.mem q) && (not (cond b true (w.running q)) && (not (flying w q) && (not (is_some (w.mine q)) && (is_wanted started q && not (has_any (w.holders q))))))) ≡ true
          → (not (w.mem q) && (not (w.running q) && (not (flying w q) && (not (is_some (w.mine q)) && (is_wanted w q && not (has_any (w.holders q))))))) ≡ true
      by true h = absurd (false≢true (and_parts (not (w.mem q)) _ h).1)
      by false h =
          let a = and_parts (not (w.mem q)) _ h in
          let b = and_parts (not (w.running q)) _ a.1 in
          let c = and_parts (not (flying w q)) _ b.1 in
          let g = and_parts (not (is_some (w.mine q))) _ c.1 in
          let p = and_parts (is_wanted started q) _ g.1 in
          and_from _ _ a.0 (and_from _ _ b.0 (and_from _ _ c.0 (and_from _ _ g.0 (and_from _ _ (fewer_wanted q p.0) p.1))))

  pub started_weight : (f : Facts) (d : ℕ → ℕ) → k < key_count w.shape → core_weight f d started + 1 ≤ core_weight f d w
  unfolding core_weight
  started_weight f d l =
      let t : total (task_weight d started) (worker_keys w) + 1 ≤ total (task_weight d w) (worker_keys w) + 0 = total_trade _ _ 1 0 k 0 (key_count w.shape) other here (omega arith) (omega (arith, l)) in
      let n : total (λ q. known_weight f d q (is_sought started q) (w.holders q)) (worker_keys w) ≤ total (λ q. known_weight f d q (is_sought w q) (w.holders q)) (worker_keys w) =
      total_at_most _ _ (worker_keys w) (λ q. less_known f d q _ _ (w.holders q) (fewer_sought q)) in
      omega arith
    where
      at : Bool → Bool → Bool → ℕ → ℕ
      at m b x q = cond (m && not (cond b true x)) (question d q + 4) 0 + cond (cond b true x) (question d q + 3) 0

      other : (y : ℕ) → eqb y k ≡ false → task_weight d started y ≤ task_weight d w y
      other y o = same_most _ _ (ap (λ b. cond (is_some (w.mine y) && not (cond b true (w.running y))) (question d y + 4) 0 + cond (cond b true (w.running y)) (question d y + 3) 0) o)

      here : task_weight d started k + 1 ≤ task_weight d w k + 0
      here =
          let a : task_weight d started k ≡ cond (is_some (w.mine k) && false) (question d k + 4) 0 + (question d k + 3) =
          ap (λ b. cond (is_some (w.mine k) && not (cond b true (w.running k))) (question d k + 4) 0 + cond (cond b true (w.running k)) (question d k + 3) 0) (eq-eqb k k refl) in
          let b : task_weight d w k ≡ cond (is_some (w.mine k) && true) (question d k + 4) 0 + 0 =
          ap (λ x. cond (is_some (w.mine k) && not x) (question d k + 4) 0 + cond x (question d k + 3) 0) still in
          let c : cond (is_some (w.mine k) && false) (question d k + 4) 0 ≡ 0 = ap (λ x. cond (x && false) (question d k + 4) 0) mine in
          let g : cond (is_some (w.mine k) && true) (question d k + 4) 0 ≡ question d k + 4 = ap (λ x. cond (x && true) (question d k + 4) 0) mine in
          omega (arith, a, b, c, g)

-- ## The event

-- the task that would start is one of the graph's
start_there : (w : WorkerFacts) (k : ℕ) → would_start w ≡ Some k → (k < key_count w.shape) × (is_ready_state (wstate w k) ≡ true)
unfolding would_start
start_there w k e = by (nat_lt (running_count w) w.threads) e
  where
    none_some : (x : ℕ) → None ≡ Some x → ⊥
    none_some x y = cc

    found : (o : Option ℕ) → FoundOf (λ q. is_ready_state (wstate w q)) (worker_keys w) o → o ≡ Some k → (k < key_count w.shape) × (is_ready_state (wstate w k) ≡ true)
    found None f h = absurd (none_some k h)
    found (Some x) f h = let z : x ≡ k = same h in
        subst (λ y. (y < key_count w.shape) × (is_ready_state (wstate w y) ≡ true)) z (let r = range_from 0 (key_count w.shape) x f.0 in (omega (arith, r.1), f.1))
      where
        same : Some x ≡ Some k → x ≡ k
        same h = cc

    by : (b : Bool) → cond b (find (λ q. is_ready_state (wstate w q)) (worker_keys w)) None ≡ Some k → (k < key_count w.shape) × (is_ready_state (wstate w k) ≡ true)
    by true h = found (find (λ q. is_ready_state (wstate w q)) (worker_keys w)) (find_found _ (worker_keys w)) h
    by false h = absurd (none_some k h)

abbrev pub start_step : WorkerFacts → ℕ → WorkerStep
start_step w k = ask_holders (start w (Some k)) []

start_is : (w : WorkerFacts) (k : ℕ) → IsKept w → would_start w ≡ Some k → is_ready_state (wstate w k) ≡ true → worker_step w StartTask ≡ start_step w k
unfolding worker_step worker_row
start_is w k h e r = ap (λ o. seek_missing (start w o)) e ∙ ap (λ ks. ask_holders (start w (Some k)) ks) (asks_nothing w (started w k r) h refl (λ q. refl) (fewer_missing w k r))

step_weight : (f : Facts) (d : ℕ → ℕ) (w : WorkerFacts) (k : ℕ) → is_ready_state (wstate w k) ≡ true → k < key_count w.shape → core_weight f d (start_step w k).facts + 1 ≤ core_weight f d w
step_weight f d w k r l = let e : core_weight f d (start_step w k).facts ≡ core_weight f d (started w k r) = same in omega (arith, e, started_weight w k r f d l)
  where
    same : core_weight f d (start_step w k).facts ≡ core_weight f d (started w k r)
    same = asked_apart f d (started w k r) (λ q. w.asked q || is_in q [])

pub start_falls : (j : Job) (w : World) (i : ℕ) → IsSound w.sched → IsKept (w.workers i) → is_connected w i ≡ true → enabled w (Start i) ≡ true → Falls w (world_step j w (Start i))
unfolding enabled world_step worked
start_falls j w i sound kept there t = by (would_start (w.workers i)) refl (and_parts (w.alive i) _ t).1
  where
    numbers : (1 ≤ i) × (i ≤ w.sched.last_worker)
    numbers = sound.numbers i there

    plain : {x y : ℕ} → x ≤ y + 0 → x ≤ y
    plain l = omega (arith, l)

    at : (k : ℕ) → is_ready_state (wstate (w.workers i) k) ≡ true → k < key_count (w.workers i).shape → Falls w (worked w i (start_step (w.workers i) k))
    at k r l = falls w (worked w i (start_step (w.workers i) k)) refl
        (disturbs_less w i (start_step (w.workers i) k) refl (λ q p. same_most _ _ refl))
        (plain (links_less w i (start_step (w.workers i) k) (deaths w.sched (disturbances w)) 0 (and_parts (w.alive i) _ t).0 there numbers.0 numbers.1
        (omega (arith, step_weight w.sched (deaths w.sched (disturbances w)) (w.workers i) k r l))))

    by : (o : Option ℕ) → would_start (w.workers i) ≡ o → is_some o ≡ true → Falls w (worked w i (worker_step (w.workers i) StartTask))
    by None e s = absurd (false≢true s)
    by (Some k) e s = let p = start_there (w.workers i) k e in
        subst (λ (x : WorkerStep). Falls w (worked w i x)) (sym (start_is (w.workers i) k kept e p.1)) (at k p.1 p.0)
