-- What a worker knows and does, with what it asks for at the end of its turn, key by key.
use Rattle.std.proofs.Common.{◌≡◌, ℕ, ◌+◌, ◌≤◌, Bool, true, false, cond, not, ◌&&◌, ◌||◌, List, [], ◌∷◌, refl, sym, ap, ◌∙◌, subst, arith, is_some, filter}
use Rattle.std.proofs.Math.Dec.{eqb}
use Rattle.std.specs.List.{list_any}
use Rattle.std.proofs.lemmas.Bool.{and_parts, and_from}
use Rattle.cluster_msgs.specs.Shape.{Shape, key_count, deps_of}
use Rattle.cluster_rules.specs.Functions.{total}
use Rattle.cluster_rules.specs.Derived.{is_in, below}
use Rattle.cluster_rules.specs.Sched.{Facts}
use Rattle.cluster_rules.specs.Worker.{WorkerFacts, worker_keys, is_asked_for, pending, awaited, flying, is_wanted, wstate, is_missing_state, has_any}
use Rattle.cluster_rules.specs.WorkerStep.{unasked_keys}
use Rattle.cluster_rules.proofs.WorkerLemmas.{missing_state-is}
use Rattle.quiet_measure.specs.Weights.{sum_of, question, list_weight, is_stale, known_weight, task_weight, ask_weight, is_sought, core_weight}
use Rattle.quiet_measure.proofs.Sums.{total_at_most, total_gain}
use Rattle.quiet_measure.proofs.Falling.{same_most}
use Rattle.quiet_measure.proofs.Start.{any_more}
use Rattle.quiet_measure.proofs.Fewer.{total_filter, total_nothing}

-- ## One key

-- a key that is open: its known list, or where there is none and nothing else is done about it, a question
abbrev pub seek_by : Facts → (ℕ → ℕ) → ℕ → Bool → Bool → List (ℕ × ℕ) → ℕ
seek_by f d q a bare hs = cond a (cond (has_any hs) (list_weight d q (is_stale f q hs)) (cond bare (question d q) 0)) 0

abbrev pub is_bare : WorkerFacts → ℕ → Bool
is_bare w q = (not (w.running q) && not (is_some (w.mine q))) && not (w.asked q)

abbrev pub seeks : Facts → (ℕ → ℕ) → WorkerFacts → ℕ → ℕ
seeks f d w q = seek_by f d q (is_sought w q) (is_bare w q) (w.holders q)

abbrev pub worth : Facts → (ℕ → ℕ) → WorkerFacts → ℕ → ℕ
worth f d w q = task_weight d w q + seeks f d w q

abbrev pub whole : Facts → (ℕ → ℕ) → WorkerFacts → ℕ
whole f d w = total (worth f d w) (worker_keys w) + sum_of (ask_weight f d) w.asks

total_three : (g h e : ℕ → ℕ) (xs : List ℕ) → total (λ x. (g x + h x) + e x) xs ≡ (total g xs + total h xs) + total e xs
total_three g h e [] = omega arith
total_three g h e (x ∷ xs) = let r : total (λ x. (g x + h x) + e x) xs ≡ (total g xs + total h xs) + total e xs = total_three g h e xs in omega arith

by_tests : (m r i x f l a : Bool) (n k : ℕ)
    → cond (((not m && x) && not f) && l) n 0 + cond ((not m && (not r && (not f && (not i && ((not m && x) && not l))))) && not a) k 0
    ≡ cond ((not m && x) && not f) (cond l n (cond ((not r && not i) && not a) k 0)) 0
by_tests true r i x f l a n k = omega arith
by_tests false true i false f l a n k = omega arith
by_tests false false i false true l a n k = omega arith
by_tests false false true false false l a n k = omega arith
by_tests false false false false false l a n k = omega arith
by_tests false true i true true l a n k = omega arith
by_tests false false i true true l a n k = omega arith
by_tests false true i true false true a n k = omega arith
by_tests false false true true false true a n k = omega arith
by_tests false false false true false true a n k = omega arith
by_tests false true i true false false a n k = omega arith
by_tests false false true true false false a n k = omega arith
by_tests false false false true false false true n k = omega arith
by_tests false false false true false false false n k = omega arith

module _ (f : Facts) (d : ℕ → ℕ) (w : WorkerFacts) where
  asks_for : ℕ → ℕ
  asks_for q = cond (is_missing_state (wstate w q) && not (w.asked q)) (question d q) 0

  one : (q : ℕ) → known_weight f d q (is_sought w q) (w.holders q) + asks_for q ≡ seeks f d w q
  unfolding asks_for
  one q = ap (λ b. known_weight f d q (is_sought w q) (w.holders q) + cond (b && not (w.asked q)) (question d q) 0) (missing_state-is w q)
      ∙ by_tests (w.mem q) (w.running q) (is_some (w.mine q)) (w.sought q || awaited w q) (flying w q) (has_any (w.holders q)) (w.asked q) (list_weight d q (is_stale f q (w.holders q))) (question d q)

  -- a key with no known holder that isn't missing is worth nothing
  pub seek_unmissed : (q : ℕ) → w.holders q ≡ [] → is_missing_state (wstate w q) ≡ false → seeks f d w q ≤ 0
  unfolding asks_for
  seek_unmissed q h m =
      let a : known_weight f d q (is_sought w q) (w.holders q) ≡ known_weight f d q (is_sought w q) [] = ap (λ hs. known_weight f d q (is_sought w q) hs) h in
      let b : known_weight f d q (is_sought w q) [] ≤ 0 = none (is_sought w q) (list_weight d q (is_stale f q [])) in
      let c : asks_for q ≡ cond false (question d q) 0 = ap (λ b. cond (b && not (w.asked q)) (question d q) 0) m in
      omega (arith, a, b, c, one q)
    where
      none : (x : Bool) (n : ℕ) → cond (x && false) n 0 ≤ 0
      none true n = omega arith
      none false n = omega arith

  pub whole_is : core_weight f d w + total (question d) (unasked_keys w) ≡ whole f d w
  unfolding core_weight unasked_keys asks_for
  whole_is =
      let e : total (question d) (filter (λ q. is_missing_state (wstate w q) && not (w.asked q)) (worker_keys w)) ≡ total asks_for (worker_keys w) = total_filter (question d) _ (worker_keys w) in
      let a : total (worth f d w) (worker_keys w) ≤ total (λ q. (task_weight d w q + known_weight f d q (is_sought w q) (w.holders q)) + asks_for q) (worker_keys w) =
      total_at_most _ _ (worker_keys w) (λ q. let x : known_weight f d q (is_sought w q) (w.holders q) + asks_for q ≡ seeks f d w q = one q in omega arith) in
      let b : total (λ q. (task_weight d w q + known_weight f d q (is_sought w q) (w.holders q)) + asks_for q) (worker_keys w) ≤ total (worth f d w) (worker_keys w) =
      total_at_most _ _ (worker_keys w) (λ q. let x : known_weight f d q (is_sought w q) (w.holders q) + asks_for q ≡ seeks f d w q = one q in omega arith) in
      let t : total (λ q. (task_weight d w q + known_weight f d q (is_sought w q) (w.holders q)) + asks_for q) (worker_keys w)
      ≡ (total (task_weight d w) (worker_keys w) + total (λ q. known_weight f d q (is_sought w q) (w.holders q)) (worker_keys w)) + total asks_for (worker_keys w) =
      total_three (task_weight d w) (λ q. known_weight f d q (is_sought w q) (w.holders q)) asks_for (worker_keys w) in
      omega arith

-- ## Comparisons of one key

module _ (f : Facts) (d : ℕ → ℕ) (q : ℕ) where
  pub seek_less : (a b c : Bool) (hs : List (ℕ × ℕ)) → (a ≡ true → b ≡ true) → seek_by f d q a c hs ≤ seek_by f d q b c hs
  seek_less false b c hs h = omega arith
  seek_less true b c hs h = same_most _ _ (ap (λ x. seek_by f d q x c hs) (sym (h refl)))

  pub seek_none : (a c : Bool) (hs : List (ℕ × ℕ)) → hs ≡ [] → seek_by f d q a c hs ≤ question d q
  seek_none a c hs e = let l : seek_by f d q a c hs ≡ seek_by f d q a c [] = ap (λ x. seek_by f d q a c x) e in omega (arith, l, by a c)
    where
      by : (a c : Bool) → seek_by f d q a c [] ≤ question d q
      by false c = omega arith
      by true false = omega arith
      by true true = omega arith

  pub seek_listed : (a c : Bool) (hs : List (ℕ × ℕ)) → has_any hs ≡ true → seek_by f d q a c hs ≤ list_weight d q (is_stale f q hs)
  seek_listed a c hs e = let l : seek_by f d q a c hs ≡ cond a (cond true (list_weight d q (is_stale f q hs)) (cond c (question d q) 0)) 0 = ap (λ x. cond a (cond x (list_weight d q (is_stale f q hs)) (cond c (question d q) 0)) 0) e in
      omega (arith, l, by a)
    where
      by : (a : Bool) → cond a (list_weight d q (is_stale f q hs)) 0 ≤ list_weight d q (is_stale f q hs)
      by false = omega arith
      by true = omega arith

  pub seek_closed : (a c : Bool) (hs : List (ℕ × ℕ)) → a ≡ false → seek_by f d q a c hs ≡ 0
  seek_closed a c hs e = ap (λ x. seek_by f d q x c hs) e

  -- a key that is asked for, is run or is a task asks nothing
  pub seek_settled : (a c : Bool) (hs : List (ℕ × ℕ)) → hs ≡ [] → c ≡ false → seek_by f d q a c hs ≤ 0
  seek_settled a c hs e z = let l : seek_by f d q a c hs ≡ cond a (cond false (question d q) 0) 0 = ap (λ x. seek_by f d q a c x) e ∙ ap (λ x. cond a (cond x (question d q) 0) 0) z in omega (arith, l, by a)
    where
      by : (a : Bool) → cond a (cond false (question d q) 0) 0 ≤ 0
      by true = omega arith
      by false = omega arith

pub task_less : (d : ℕ → ℕ) (q : ℕ) (a b r : Bool) → (a ≡ true → b ≡ true) → cond a (question d q + 4) 0 + cond r (question d q + 3) 0 ≤ cond b (question d q + 4) 0 + cond r (question d q + 3) 0
task_less d q false b r h = omega arith
task_less d q true b r h = same_most _ _ (ap (λ x. cond x (question d q + 4) 0 + cond r (question d q + 3) 0) (sym (h refl)))

-- two workers have the same of a key
pub record AgreesAt (w v : WorkerFacts) (q : ℕ) : Type 0 where
  pub mem : v.mem q ≡ w.mem q
  pub sought : v.sought q ≡ w.sought q
  pub running : v.running q ≡ w.running q
  pub mine : v.mine q ≡ w.mine q
  pub asked : v.asked q ≡ w.asked q
  pub holders : v.holders q ≡ w.holders q

-- no more tasks are pending
abbrev pub FewerPending : WorkerFacts → WorkerFacts → Type 0
FewerPending w v = (j : ℕ) → pending v j ≡ true → pending w j ≡ true

pub awaited_less : (w v : WorkerFacts) → v.shape ≡ w.shape → FewerPending w v → (q : ℕ) → awaited v q ≡ true → awaited w q ≡ true
unfolding awaited
awaited_less w v s p q e = any_more _ _ (worker_keys w) (λ j x. let r = and_parts (pending v j) (is_in q (deps_of w.shape j)) x in and_from _ _ (p j r.0) r.1)
    (subst (λ (g : Shape). list_any (λ j. pending v j && is_in q (deps_of g j)) (below (key_count g)) ≡ true) s e)

pub wanted_less : (w v : WorkerFacts) (q : ℕ) → (awaited v q ≡ true → awaited w q ≡ true) → v.mem q ≡ w.mem q → v.sought q ≡ w.sought q → is_wanted v q ≡ true → is_wanted w q ≡ true
wanted_less w v q p m s e = let r = and_parts (not (v.mem q)) (v.sought q || awaited v q) e in and_from _ _ (sym (ap not m) ∙ r.0) (by (w.sought q) (sym (ap (λ b. b || awaited v q) s) ∙ r.1))
  where
    by : (b : Bool) → (b || awaited v q) ≡ true → (b || awaited w q) ≡ true
    by true x = refl
    by false x = p x

pub flying_same : (w v : WorkerFacts) → v.asks ≡ w.asks → (q : ℕ) → flying v q ≡ flying w q
unfolding flying
flying_same w v h q = ap (λ l. is_asked_for l q) h

pub sought_less : (w v : WorkerFacts) (q : ℕ) → (awaited v q ≡ true → awaited w q ≡ true) → v.mem q ≡ w.mem q → v.sought q ≡ w.sought q → flying v q ≡ flying w q → is_sought v q ≡ true → is_sought w q ≡ true
sought_less w v q p m s f e = let r = and_parts (is_wanted v q) (not (flying v q)) e in and_from _ _ (wanted_less w v q p m s r.0) (sym (ap not f) ∙ r.1)

pub bare_same : (w v : WorkerFacts) (q : ℕ) → v.running q ≡ w.running q → v.mine q ≡ w.mine q → v.asked q ≡ w.asked q → is_bare v q ≡ is_bare w q
bare_same w v q r m a = ap (λ b. (not b && not (is_some (v.mine q))) && not (v.asked q)) r ∙ ap (λ o. (not (w.running q) && not (is_some o)) && not (v.asked q)) m ∙ ap (λ b. (not (w.running q) && not (is_some (w.mine q))) && not b) a

-- where a key is the same, and it isn't wanted or let go anew
pub seeks_less : (f : Facts) (d : ℕ → ℕ) (w v : WorkerFacts) (q : ℕ) → (is_sought v q ≡ true → is_sought w q ≡ true) → AgreesAt w v q → seeks f d v q ≤ seeks f d w q
seeks_less f d w v q o h =
    let l : seeks f d v q ≡ seek_by f d q (is_sought v q) (is_bare w q) (w.holders q) = ap (λ b. seek_by f d q (is_sought v q) b (v.holders q)) (bare_same w v q h.running h.mine h.asked) ∙ ap (λ hs. seek_by f d q (is_sought v q) (is_bare w q) hs) h.holders in
    let g : seek_by f d q (is_sought v q) (is_bare w q) (w.holders q) ≤ seeks f d w q = seek_less f d q _ _ (is_bare w q) (w.holders q) o in
    omega (arith, l, g)

pub tasks_less : (d : ℕ → ℕ) (w v : WorkerFacts) (q : ℕ) → (pending v q ≡ true → pending w q ≡ true) → v.running q ≡ w.running q → task_weight d v q ≤ task_weight d w q
tasks_less d w v q p r =
    let e : task_weight d v q ≡ cond (pending v q) (question d q + 4) 0 + cond (w.running q) (question d q + 3) 0 = ap (λ b. cond (pending v q) (question d q + 4) 0 + cond b (question d q + 3) 0) r in
    let l : cond (pending v q) (question d q + 4) 0 + cond (w.running q) (question d q + 3) 0 ≤ task_weight d w q = task_less d q _ _ (w.running q) p in
    omega (arith, e, l)

pub agree_worth : (f : Facts) (d : ℕ → ℕ) (w v : WorkerFacts) (q : ℕ) → v.shape ≡ w.shape → v.asks ≡ w.asks → FewerPending w v → AgreesAt w v q → worth f d v q ≤ worth f d w q
agree_worth f d w v q s a p h =
    let t : task_weight d v q ≤ task_weight d w q = tasks_less d w v q (p q) h.running in
    let k : seeks f d v q ≤ seeks f d w q = seeks_less f d w v q (sought_less w v q (awaited_less w v s p q) h.mem h.sought (flying_same w v a q)) h in
    omega arith

-- ## All keys

module _ (f : Facts) (d : ℕ → ℕ) (w v : WorkerFacts) (s : v.shape ≡ w.shape) where
  over : total (worth f d v) (worker_keys v) ≡ total (worth f d v) (worker_keys w)
  over = ap (λ (g : Shape). total (worth f d v) (below (key_count g))) s

  -- one key may be worth more
  pub whole_gain : (k n : ℕ) → v.asks ≡ w.asks → ((q : ℕ) → eqb q k ≡ false → worth f d v q ≤ worth f d w q) → worth f d v k ≤ worth f d w k + n → whole f d v ≤ whole f d w + n
  whole_gain k n a o h =
      let t : total (worth f d v) (worker_keys w) ≤ total (worth f d w) (worker_keys w) + n = total_gain _ _ n k 0 (key_count w.shape) (λ q l e. o q e) h in
      let e : sum_of (ask_weight f d) v.asks ≡ sum_of (ask_weight f d) w.asks = ap (sum_of (ask_weight f d)) a in
      omega (arith, t, e, over)

-- ## Keys that a list pays for

abbrev pub paid_at : {A : Type 0} → (A → ℕ) → (A → ℕ) → List A → ℕ → ℕ
paid_at key g xs q = sum_of (λ p. cond (eqb q (key p)) (g p) 0) xs

pub total_paid : {A : Type 0} (key g : A → ℕ) (xs : List A) (n : ℕ) → total (paid_at key g xs) (below n) ≤ sum_of g xs
total_paid key g [] n = let z : total (λ x. 0) (below n) ≡ 0 = total_nothing (below n) in omega arith
total_paid key g (x ∷ xs) n =
    let r : total (paid_at key g xs) (below n) ≤ sum_of g xs = total_paid key g xs n in
    let t : total (paid_at key g (x ∷ xs)) (below n) ≤ total (paid_at key g xs) (below n) + g x = total_gain (paid_at key g (x ∷ xs)) (paid_at key g xs) (g x) (key x) 0 n (λ q l e. away q e) here in
    omega arith
  where
    away : (q : ℕ) → eqb q (key x) ≡ false → cond (eqb q (key x)) (g x) 0 + paid_at key g xs q ≤ paid_at key g xs q
    away q e = let z : cond (eqb q (key x)) (g x) 0 ≡ cond false (g x) 0 = ap (λ b. cond b (g x) 0) e in omega arith

    some : (b : Bool) → cond b (g x) 0 ≤ g x
    some true = omega arith
    some false = omega arith

    here : cond (eqb (key x) (key x)) (g x) 0 + paid_at key g xs (key x) ≤ paid_at key g xs (key x) + g x
    here = omega (arith, some (eqb (key x) (key x)))

pub total_sum : (g h : ℕ → ℕ) (xs : List ℕ) → total (λ x. g x + h x) xs ≡ total g xs + total h xs
total_sum g h [] = omega arith
total_sum g h (x ∷ xs) = let r : total (λ x. g x + h x) xs ≡ total g xs + total h xs = total_sum g h xs in omega arith

pub paid_total : {A : Type 0} (u v : ℕ → ℕ) (key g : A → ℕ) (xs : List A) (n : ℕ) → ((q : ℕ) → u q ≤ v q + paid_at key g xs q) → total u (below n) ≤ total v (below n) + sum_of g xs
paid_total u v key g xs n h =
    let a : total u (below n) ≤ total (λ q. v q + paid_at key g xs q) (below n) = total_at_most _ _ (below n) h in
    let b : total (λ q. v q + paid_at key g xs q) (below n) ≡ total v (below n) + total (paid_at key g xs) (below n) = total_sum v (paid_at key g xs) (below n) in
    let c : total (paid_at key g xs) (below n) ≤ sum_of g xs = total_paid key g xs n in
    omega arith
