-- A change of one fact leaves the parts of the keys that it doesn't touch.
use Rattle.std.proofs.Common.{◌≡◌, ℕ, ◌+◌, ◌<◌, ◌≤◌, Bool, true, false, not, ◌&&◌, ◌||◌, List, [], ◌∷◌, Option, Some, None, refl, sym, ap, ◌∙◌, arith, cond, is_some, length, ⊎_elim}
use Rattle.std.specs.Prelude.{◌==◌}
use Rattle.std.specs.List.{list_any, list_all}
use Rattle.std.proofs.lemmas.Bool.{true≢false, eqb-true, cases_lt, and_right}
use Rattle.std.proofs.lemmas.List.{get_or_past}
use Rattle.cluster_msgs.specs.Shape.{Shape, key_count, deps_of}
use Rattle.cluster_rules.specs.Functions.{put, count, total}
use Rattle.cluster_rules.specs.Derived.{below, is_in}
use Rattle.cluster_rules.specs.Worker.{Ask, WorkerFacts, new_worker, names_key, is_asked_for, flying, pending, awaited, has_any, ask_to, with_ask, running_count, wstate, is_ready_state, is_fetch_state, is_missing_state}
use Rattle.std.proofs.lemmas.List.FromFn.{length-range_with_len}
use Rattle.small_facts.proofs.Truth.{one_at_most}
use Rattle.cluster_rules.proofs.TotalLemmas.{total-bound}
use Rattle.cluster_rules.proofs.FunctionLemmas.{same_function}
use Rattle.cluster_rules.proofs.WorkerLemmas.{ready_state-is, fetch_state-is, missing_state-is}
use Rattle.open_asks.specs.Kept.{without_first}
use Rattle.open_asks.proofs.AskLemmas.{asked-with}
use Rattle.open_asks.proofs.FirstLemmas.{asked-first, without_first-none}
use Rattle.worker_facts.proofs.FactLemmas.{total-put}
use Rattle.worker_table.specs.Parts.{parts, ready_of, fetch_of, unasked_of}

-- the states of a key are read off its parts
pub ready-is : (w : WorkerFacts) (k : ℕ) → is_ready_state (wstate w k) ≡ ready_of (parts w k)
ready-is w k = ready_state-is w k

pub fetch-is : (w : WorkerFacts) (k : ℕ) → is_fetch_state (wstate w k) ≡ fetch_of (parts w k)
fetch-is w k = fetch_state-is w k

pub unasked-is : (w : WorkerFacts) (k : ℕ) → (is_missing_state (wstate w k) && not (w.asked k)) ≡ unasked_of (parts w k)
unasked-is w k = ap (λ b. b && not (w.asked k)) (missing_state-is w k)

-- changes of one key's own facts
pub sought_apart : (f : WorkerFacts) (key k : ℕ) (to : Bool) → (k == key) ≡ false → parts f k ≡ parts (record f { sought = put f.sought key to }) k
unfolding flying awaited
sought_apart f key k to e = ap (λ b. record (parts f k) { sought = cond b to (f.sought k) }) (sym e)

pub asked_apart : (f : WorkerFacts) (key k : ℕ) (to : Bool) → (k == key) ≡ false → parts f k ≡ parts (record f { asked = put f.asked key to }) k
unfolding flying awaited
asked_apart f key k to e = ap (λ b. record (parts f k) { asked = cond b to (f.asked k) }) (sym e)

pub holders_apart : (f : WorkerFacts) (key k : ℕ) (to : List (ℕ × ℕ)) → (k == key) ≡ false → parts f k ≡ parts (record f { holders = put f.holders key to }) k
unfolding flying awaited
holders_apart f key k to e = ap (λ b. record (parts f k) { known = has_any (cond b to (f.holders k)) }) (sym e)

pub failed_apart : (f : WorkerFacts) (key k : ℕ) (to : Bool) → parts f k ≡ parts (record f { failed = put f.failed key to }) k
unfolding flying awaited
failed_apart f key k to = refl

pub seen_apart : (f : WorkerFacts) (k n : ℕ) → parts f k ≡ parts (record f { seen = n }) k
unfolding flying awaited
seen_apart f k n = refl

-- a block that isn't among the dependencies
all_apart : (mem : ℕ → Bool) (key : ℕ) (to : Bool) (ds : List ℕ) → is_in key ds ≡ false → list_all mem ds ≡ list_all (put mem key to) ds
all_apart mem key to [] h = refl
all_apart mem key to (d ∷ ds) h = pick (d == key) h (all_apart mem key to ds)
  where
    pick : (b : Bool) → (b || is_in key ds) ≡ false → (is_in key ds ≡ false → list_all mem ds ≡ list_all (put mem key to) ds) → (mem d && list_all mem ds) ≡ (cond b to (mem d) && list_all (put mem key to) ds)
    pick true e r = absurd (true≢false e)
    pick false e r = ap (λ b. mem d && b) (r e)

pub mem_apart : (f : WorkerFacts) (key k : ℕ) (to : Bool) → (k == key) ≡ false → is_in key (deps_of f.shape k) ≡ false → parts f k ≡ parts (record f { mem = put f.mem key to }) k
unfolding flying awaited
mem_apart f key k to e out = ap (λ b. record (parts f k) { here = cond b to (f.mem k) }) (sym e) ∙ ap (λ b. record (parts (record f { mem = put f.mem key to }) k) { fed = b }) (all_apart f.mem key to (deps_of f.shape k) out)

-- who waits, where one task changed that doesn't depend on the key
any_apart : (p q : ℕ → Bool) (g : Shape) (key k : ℕ) → ((j : ℕ) → (j == key) ≡ false → p j ≡ q j) → is_in k (deps_of g key) ≡ false
    → list_any (λ j. p j && is_in k (deps_of g j)) (below (key_count g)) ≡ list_any (λ j. q j && is_in k (deps_of g j)) (below (key_count g))
any_apart p q g key k same out = ap (λ (t : ℕ → Bool). list_any t (below (key_count g))) (same_function _ _ (λ j. at_key j (j == key) refl))
  where
    at_key : (j : ℕ) (b : Bool) → (j == key) ≡ b → (p j && is_in k (deps_of g j)) ≡ (q j && is_in k (deps_of g j))
    at_key j true e =
        let z : is_in k (deps_of g j) ≡ false = ap (λ x. is_in k (deps_of g x)) (eqb-true j key e) ∙ out in
        and_right (p j) _ z ∙ sym (and_right (q j) _ z)
    at_key j false e = ap (λ b. b && is_in k (deps_of g j)) (same j e)

pub mine_apart : (f : WorkerFacts) (key k : ℕ) (to : Option ℕ) → (k == key) ≡ false → is_in k (deps_of f.shape key) ≡ false → parts f k ≡ parts (record f { mine = put f.mine key to }) k
unfolding flying awaited
mine_apart f key k to e out =
    ap (λ b. record (parts f k) { given = is_some (cond b to (f.mine k)) }) (sym e)
    ∙ ap (λ b. record (parts (record f { mine = put f.mine key to }) k) { awaited = b }) (any_apart (pending f) (pending (record f { mine = put f.mine key to })) f.shape key k (λ j h. ap (λ b. is_some (cond b to (f.mine j)) && not (f.running j)) (sym h)) out)

pub running_apart : (f : WorkerFacts) (key k : ℕ) (to : Bool) → (k == key) ≡ false → is_in k (deps_of f.shape key) ≡ false → parts f k ≡ parts (record f { running = put f.running key to }) k
unfolding flying awaited
running_apart f key k to e out =
    ap (λ b. record (parts f k) { running = cond b to (f.running k) }) (sym e)
    ∙ ap (λ b. record (parts (record f { running = put f.running key to }) k) { awaited = b }) (any_apart (pending f) (pending (record f { running = put f.running key to })) f.shape key k (λ j h. ap (λ b. is_some (f.mine j) && not (cond b to (f.running j))) (sym h)) out)

-- asks that are opened and closed
pub opened_apart : (f : WorkerFacts) (a : Ask) (n k : ℕ) → names_key k a ≡ false → parts f k ≡ parts (record f { asks = with_ask a f.asks; next_ask = n }) k
unfolding flying awaited
opened_apart f a n k out = ap (λ b. record (parts f k) { flying = b }) (sym (asked-with a f.asks k ∙ ap (λ b. b || is_asked_for f.asks k) out))

pub closed_apart : (f : WorkerFacts) (p : ℕ) (a : Ask) (k : ℕ) → ask_to f.asks p ≡ Some a → names_key k a ≡ false → parts f k ≡ parts (record f { asks = without_first f.asks p }) k
unfolding flying awaited
closed_apart f p a k found out = ap (λ b. record (parts f k) { flying = b }) (asked-first p f.asks a k found ∙ ap (λ b. b || is_asked_for (without_first f.asks p) k) out)

pub closed_none : (f : WorkerFacts) (p k : ℕ) → ask_to f.asks p ≡ None → parts f k ≡ parts (record f { asks = without_first f.asks p }) k
closed_none f p k none = ap (λ bs. parts (record f { asks = bs }) k) (sym (without_first-none p f.asks none))

-- past the last key nothing depends on anything
pub depends_within : (g : Shape) (key k : ℕ) → is_in key (deps_of g k) ≡ true → k < key_count g
depends_within g key k e = ⊎_elim (λ h. h) (λ h. absurd (true≢false (sym e ∙ ap (is_in key) (get_or_past g.deps k [] h)))) (cases_lt k (key_count g))

-- the count of the tasks that run
pub count_same : (f h : WorkerFacts) (n : ℕ) → h.shape ≡ f.shape → h.running ≡ f.running → n ≡ running_count f → n ≡ running_count h
unfolding running_count
count_same f h n s r e = e ∙ ap (λ g. count f.running (below (key_count g))) (sym s) ∙ ap (λ p. count p (below (key_count h.shape))) (sym r)

pub count_put : (f h : WorkerFacts) (key m n : ℕ) (to : Bool) → h ≡ record f { running = put f.running key to } → key < key_count f.shape → m ≡ running_count f → n + cond (f.running key) 1 0 ≡ m + cond to 1 0 → n ≡ running_count h
unfolding running_count
count_put f h key m n to e l was now =
    let r : count (put f.running key to) (below (key_count f.shape)) + cond (f.running key) 1 0 ≡ count f.running (below (key_count f.shape)) + cond to 1 0
    = ap (λ (t : ℕ → ℕ). total t (below (key_count f.shape)) + cond (f.running key) 1 0) (same_function _ _ (λ j. inner j (j == key) refl)) ∙ total-put (λ (j : ℕ). cond (f.running j) 1 0) key (cond to 1 0) 0 (key_count f.shape) (omega arith) (omega arith) in
    let d : n ≡ count (put f.running key to) (below (key_count f.shape)) = cancel n m _ _ _ _ now was r in
    d ∙ sym (ap running_count e)
  where
    inner : (j : ℕ) (b : Bool) → (j == key) ≡ b → ◌≡◌ {A = ℕ} (cond (cond b to (f.running j)) 1 0) (cond b (cond to 1 0) (cond (f.running j) 1 0))
    inner j true q = refl
    inner j false q = refl

    cancel : (n m c x s t : ℕ) → n + x ≡ m + t → m ≡ s → c + x ≡ s + t → n ≡ c
    cancel n m c x s t a b d = omega arith

pub count_there : (f : WorkerFacts) (key m : ℕ) → key < key_count f.shape → m ≡ running_count f → f.running key ≡ true → 0 < m
unfolding running_count
count_there f key m l was e =
    let r = total-put (λ (j : ℕ). cond (f.running j) 1 0) key 0 0 (key_count f.shape) (omega arith) (omega arith) in
    let h : ◌≡◌ {A = ℕ} (cond (f.running key) 1 0) 1 = ap (λ b. cond b 1 0) e in
    omega (arith, was, r, h)

pub count_few : (f : WorkerFacts) (m : ℕ) → m ≡ running_count f → m ≤ key_count f.shape
unfolding running_count
count_few f m e = let r = total-bound (λ (j : ℕ). cond (f.running j) 1 0) 1 (below (key_count f.shape)) (λ j. one_at_most (f.running j)) in omega (arith, e, r, length-range_with_len 0 (key_count f.shape))

-- a worker as it starts
no_one : (xs : List ℕ) (t : ℕ → Bool) → list_any (λ j. false && t j) xs ≡ false
no_one [] t = refl
no_one (x ∷ xs) t = no_one xs t

pub awaited_none : (g : Shape) (id threads k : ℕ) → awaited (new_worker g id threads) k ≡ false
unfolding awaited
awaited_none g id threads k = no_one (below (key_count g)) (λ j. is_in k (deps_of g j))

pub count_none : (g : Shape) (id threads : ℕ) → 0 ≡ running_count (new_worker g id threads)
unfolding running_count
count_none g id threads = none (below (key_count g))
  where
    none : (xs : List ℕ) → 0 ≡ count (λ (j : ℕ). false) xs
    none [] = refl
    none (x ∷ xs) = none xs ∙ (let e : count (λ (j : ℕ). false) xs ≡ 0 + count (λ (j : ℕ). false) xs = omega arith in e)
