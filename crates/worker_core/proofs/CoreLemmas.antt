-- Lemmas on the rows of a worker's table, one key after another.
use Rattle.std.proofs.Common.{◌≡◌, ℕ, ◌+◌, ◌<◌, Bool, true, false, not, ◌&&◌, List, [], ◌∷◌, ◌++◌, Option, Some, None, refl, sym, ap, ◌∙◌, subst, cond, take, find, length, get_or, All}
use Rattle.std.specs.Prelude.{◌==◌, nat_lt}
use Rattle.std.specs.List.{list_any, list_all, AllByRecursion}
use Rattle.std.proofs.lemmas.Bool.{eq-eqb, and_parts, ltb-true}
use Rattle.std.proofs.lemmas.List.{take_more}
use Rattle.std.proofs.lemmas.List.Elements.{All-from_recursion, recursion_from_All, Contains-get_or, All-filter}
use Rattle.std.proofs.lemmas.Option.{same_Some}
use Rattle.cluster_msgs.specs.Shape.{key_count}
use Rattle.cluster_msgs.specs.declared.cores.Instruction.{Instruction}
use Rattle.cluster_rules.specs.Worker.{Ask, WorkerFacts, is_asked_for, ask_to, worker_keys, wstate, is_ready_state, is_missing_state, would_start, running_count}
use Rattle.cluster_rules.specs.WorkerStep.{WorkerStep, after_out, each_key, unasked_keys, keys_of}
use Rattle.cluster_rules.proofs.Members.{any_some}
use Rattle.cluster_rules.proofs.InsideWorker.{found_in, keys_below}
use Rattle.open_asks.specs.Kept.{asked_items}
use Rattle.open_asks.proofs.AskLemmas.{named_asked}

-- a row for one more member
each_key-push : {A : Type 0} (row : WorkerFacts → A → WorkerStep) (s : WorkerStep) (xs : List A) (x : A) → each_key row s (xs ++ x ∷ []) ≡ after_out (each_key row s xs).out (row (each_key row s xs).facts x)
each_key-push row s [] x = refl
each_key-push row s (y ∷ ys) x = each_key-push row (after_out s.out (row s.facts y)) ys x

pub each_key-more : {A : Type 0} (row : WorkerFacts → A → WorkerStep) (s : WorkerStep) (xs : List A) (i : ℕ) (d : A) → i < length xs → each_key row s (take (i + 1) xs) ≡ after_out (each_key row s (take i xs)).out (row (each_key row s (take i xs)).facts (get_or xs i d))
each_key-more row s xs i d l = ap (each_key row s) (take_more xs i d l) ∙ each_key-push row s (take i xs) (get_or xs i d)

-- a step of two parts
pub step_by : (s : WorkerStep) (f : WorkerFacts) (m : List Instruction) → f ≡ s.facts → m ≡ s.out → record { facts = f; out = m } ≡ s
step_by s f m e o = λ i. record { facts = e i; out = o i }

pub pushed_step : {A : Type 0} (row : WorkerFacts → A → WorkerStep) (q : WorkerStep) (xs : List A) (i : ℕ) (d : A) (f f' : WorkerFacts) (m m' : List Instruction) → i < length xs
    → record { facts = f; out = m } ≡ each_key row q (take i xs) → f' ≡ (row f (get_or xs i d)).facts → m' ≡ m ++ (row f (get_or xs i d)).out → record { facts = f'; out = m' } ≡ each_key row q (take (i + 1) xs)
pushed_step row q xs i d f f' m m' l h e o =
    step_by (after_out m (row f (get_or xs i d))) f' m' e o
    ∙ ap (λ (s : WorkerStep). after_out s.out (row s.facts (get_or xs i d))) h
    ∙ sym (each_key-more row q xs i d l)

-- keys that are there
pub all_below : {A : Type 0} (f : A → ℕ) (n : ℕ) (xs : List A) → list_all (λ x. nat_lt (f x) n) xs ≡ true → All (λ x. f x < n) xs
all_below {A = A} f n xs h = All-from_recursion (λ x. f x < n) xs (each xs h)
  where
    each : (ys : List A) → list_all (λ x. nat_lt (f x) n) ys ≡ true → AllByRecursion (λ x. f x < n) ys
    each [] e = tt
    each (y ∷ ys) e = let p = and_parts (nat_lt (f y) n) (list_all (λ x. nat_lt (f x) n) ys) e in (ltb-true (f y) n p.0, each ys p.1)

tested_below : (n : ℕ) (xs : List ℕ) → AllByRecursion (λ k. nat_lt k n ≡ true) xs → All (λ k. k < n) xs
tested_below n xs h = All-from_recursion (λ k. k < n) xs (each xs h)
  where
    each : (ys : List ℕ) → AllByRecursion (λ k. nat_lt k n ≡ true) ys → AllByRecursion (λ k. k < n) ys
    each [] e = tt
    each (y ∷ ys) e = (ltb-true y n e.0, each ys e.1)

pub all_keys : (w : WorkerFacts) → All (λ k. k < key_count w.shape) (worker_keys w)
all_keys w = tested_below (key_count w.shape) (worker_keys w) (keys_below w.shape)

pub unasked_below : (w : WorkerFacts) → All (λ k. k < key_count w.shape) (unasked_keys w)
unfolding unasked_keys
unasked_below w = All-filter (λ k. is_missing_state (wstate w k) && not (w.asked k)) (λ k. k < key_count w.shape) (worker_keys w) (all_keys w)

pub start_below : (w : WorkerFacts) (k : ℕ) → would_start w ≡ Some k → k < key_count w.shape
unfolding would_start
start_below w k h = pick (nat_lt (running_count w) w.threads) h
  where
    none : ◌≡◌ {A = Option ℕ} None (Some k) → ⊥
    none e = cc

    pick : (b : Bool) → cond b (find (λ j. is_ready_state (wstate w j)) (worker_keys w)) None ≡ Some k → k < key_count w.shape
    pick true e = ltb-true k (key_count w.shape) (found_in (λ j. nat_lt j (key_count w.shape) ≡ true) (λ j. is_ready_state (wstate w j)) (worker_keys w) k e (keys_below w.shape))
    pick false e = absurd (none e)

asked_parts : (o : Option Ask) (n : ℕ) (is : List (ℕ × ℕ)) → asked_items o n ≡ Some is → (a : Ask) × (o ≡ Some a) × (a.items ≡ is) × ((a.number == n) ≡ true)
asked_parts None n is h = absurd (none h)
  where
    none : ◌≡◌ {A = Option (List (ℕ × ℕ))} None (Some is) → ⊥
    none e = cc
asked_parts (Some a) n is h = pick (a.number == n) refl h
  where
    none : ◌≡◌ {A = Option (List (ℕ × ℕ))} None (Some is) → ⊥
    none e = cc

    pick : (b : Bool) → (a.number == n) ≡ b → cond b (Some a.items) None ≡ Some is → (c : Ask) × (Some a ≡ Some c) × (c.items ≡ is) × ((c.number == n) ≡ true)
    pick true e q = (a, refl, same_Some a.items is q, e)
    pick false e q = absurd (none q)

pub items_below : (asks : List Ask) (p n m : ℕ) (is : List (ℕ × ℕ)) → ((k : ℕ) → is_asked_for asks k ≡ true → k < m) → asked_items (ask_to asks p) n ≡ Some is → All (λ i. i.0 < m) is
items_below asks p n m is named h =
    let q = asked_parts (ask_to asks p) n is h in
    λ j d l. named (get_or is j d).0 (named_asked asks p q.0 (get_or is j d).0 q.1 (subst (λ xs. list_any (λ i. i.0 == (get_or is j d).0) xs ≡ true) (sym q.2) (any_some (λ i. i.0 == (get_or is j d).0) is (get_or is j d) (Contains-get_or is j d l) (eq-eqb (get_or is j d).0 (get_or is j d).0 refl))))

pub all_keys_of : (m : ℕ) (is : List (ℕ × ℕ)) → All (λ i. i.0 < m) is → All (λ k. k < m) (keys_of is)
all_keys_of m is h = All-from_recursion (λ k. k < m) (keys_of is) (each is (recursion_from_All (λ i. i.0 < m) is h))
  where
    each : (ys : List (ℕ × ℕ)) → AllByRecursion (λ i. i.0 < m) ys → AllByRecursion (λ k. k < m) (keys_of ys)
    each [] e = tt
    each (y ∷ ys) e = (e.0, each ys e.1)
