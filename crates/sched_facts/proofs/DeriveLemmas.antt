-- Rows that are filled with a derived fact, key by key.
use Rattle.std.proofs.Common.{◌≡◌, ℕ, zero, suc, ◌+◌, ◌*◌, ◌<◌, ◌≤◌, Bool, true, false, not, cond, ◌&&◌, ◌||◌, List, [], ◌∷◌, ◌++◌, Option, Some, None, is_some, refl, sym, ap, ◌∙◌, arith, length, get_or, ⊎_elim, ◌⊎◌, take, ◌-◌, add-one}
use Rattle.std.specs.List.{list_any, range_with_len, find, AllByRecursion}
use Rattle.std.specs.Option.{option_or}
use Rattle.std.proofs.lemmas.List.{get_or_past, take_more}
use Rattle.std.proofs.lemmas.List.FromFn.{length-range_with_len}
use Rattle.std.proofs.lemmas.List.Kept.{AllPairs-from_increasing}
use Rattle.std.specs.List.Sorted.{IsStrictlyIncreasing}
use Rattle.std.proofs.lemmas.Bool.{cases_lt, false≢true, eqb-true}
use Rattle.std.proofs.lemmas.Bool.Decides.{nat_tests}
use Rattle.std.proofs.Math.Dec.{eqb}
use Rattle.std.proofs.Math.Bool.{or-false, or-true}
use Rattle.std.proofs.lemmas.List.Folds.{list_any-append}
use Rattle.small_facts.proofs.Lists.{take_zero, any_push}
use Rattle.small_facts.proofs.Numbers.{equal_turned, unequal_below, plus_none_one, eqb_turned}
use Rattle.small_facts.proofs.Truth.{one_at_most}
use Rattle.fact_rows.specs.Rows.{read}
use Rattle.cluster_rules.specs.Functions.{put, total, count}
use Rattle.cluster_rules.specs.Derived.{IsBelow, below, is_in, reach}
use Rattle.cluster_rules.specs.Sched.{Facts, IsSound, keys, deps, held, erred, need, open_key, blame, blame_from}
use Rattle.cluster_rules.proofs.FunctionLemmas.{same_function}
use Rattle.cluster_rules.proofs.DerivedLemmas.{reach-is, any_none, All_below, none_in, below_split}
use Rattle.cluster_rules.proofs.SchedLemmas.{erred-is, is_some-blame, blame-is, deps-past}
use Rattle.cluster_rules.proofs.TotalLemmas.{count-below, total-bound}
use Rattle.sched_facts.specs.Derived.{first_some}

-- the members below i are those of the fact
pub record IsFilled {A : Type 0} (p : ℕ → A) (d : A) (row : List A) (n i : ℕ) : Type 0 where
  pub long : length row ≡ n
  pub each : (k : ℕ) → k < i → get_or row k d ≡ p k

pub filled_none : {A : Type 0} (p : ℕ → A) (d : A) (row : List A) (n : ℕ) → length row ≡ n → IsFilled p d row n 0
filled_none p d row n e = record { long = e; each = λ k h. absurd (omega arith) }

pub filled_more : {A : Type 0} (p : ℕ → A) (d : A) (row new : List A) (n i : ℕ) (v : A) → IsFilled p d row n i → length new ≡ length row → read new d ≡ put (read row d) i v → v ≡ p i → IsFilled p d new n (i + 1)
filled_more p d row new n i v g e w q = record { long = e ∙ g.long; each = λ k h. ap (λ f. f k) w ∙ pick k (eqb k i) refl h }
  where
    lower : (k i : ℕ) → eqb k i ≡ false → k < i + 1 → k < i
    lower k i t h = grind (arith, nat_tests)

    pick : (k : ℕ) (b : Bool) → eqb k i ≡ b → k < i + 1 → cond b v (get_or row k d) ≡ p k
    pick k true t h = q ∙ ap p (equal_turned k i t)
    pick k false t h = g.each k (lower k i t h)

-- a whole row is the fact
pub filled_all : {A : Type 0} (p : ℕ → A) (d : A) (row : List A) (n i : ℕ) → IsFilled p d row n i → n ≤ i → ((k : ℕ) → n ≤ k → p k ≡ d) → read row d ≡ p
filled_all p d row n i g m past = same_function (read row d) p (λ k. ⊎_elim (λ l. g.each k (omega arith)) (λ l. get_or_past row k d (omega (arith, g.long)) ∙ sym (past k l)) (cases_lt k n))

-- one more key of a list is marked
pub marked_more : (before old new : ℕ → Bool) (xs : List ℕ) (i key : ℕ) → i < length xs → key ≡ get_or xs i 0 → ((k : ℕ) → old k ≡ (before k || is_in k (take i xs))) → new ≡ put old key true → (k : ℕ) → new k ≡ (before k || is_in k (take (i + 1) xs))
marked_more before old new xs i key l at_i was now k =
    ap (λ f. f k) now ∙ ap (cond (eqb k key) true) (was k) ∙ turn (eqb k key) (before k) (is_in k (take i xs))
    ∙ ap (λ b. before k || b) (ap (λ b. is_in k (take i xs) || b) (eqb_turned k key ∙ ap (λ y. eqb y k) at_i) ∙ sym (any_push (λ d. eqb d k) (take i xs) (get_or xs i 0)) ∙ ap (list_any (λ d. eqb d k)) (sym (take_more xs i 0 l)))
  where
    turn : (a b c : Bool) → cond a true (b || c) ≡ (b || (c || a))
    turn true true c = refl
    turn true false true = refl
    turn true false false = refl
    turn false true c = refl
    turn false false true = refl
    turn false false false = refl

-- the dependents of a key, from the next key on, are all that count
pub reached_from_row : (deps : ℕ → List ℕ) (n : ℕ) (start pass : ℕ → Bool) → IsBelow deps → (key done : ℕ) → (key + 1) + done ≡ n → (b : Bool) → b ≡ (start key || list_any (λ j. is_in key (deps j) && (pass j && reach deps n start pass j)) (range_with_len (key + 1) done)) → b ≡ reach deps n start pass key
reached_from_row deps n start pass low key done e b was =
    was ∙ sym (reach-is deps n start pass low key ∙ ap (λ c. start key || c) (ap (list_any leads) (ap below (sym e) ∙ below_split (key + 1) done) ∙ list_any-append leads (below (key + 1)) (range_with_len (key + 1) done)
    ∙ ap (λ c. c || list_any leads (range_with_len (key + 1) done)) (any_none leads (below (key + 1)) (All_below 0 (key + 1) (λ j l m. ap (λ c. c && (pass j && reach deps n start pass j)) (none_in key j (deps j) (low j) (omega arith)))))))
  where
    leads : ℕ → Bool
    leads j = is_in key (deps j) && (pass j && reach deps n start pass j)

-- one more key is done
pub reached_more : (deps : ℕ → List ℕ) (n : ℕ) (start pass old new : ℕ → Bool) → IsBelow deps → (key done : ℕ) → (key + 1) + done ≡ n
    → ((k : ℕ) → old k ≡ (start k || list_any (λ j. is_in k (deps j) && (pass j && reach deps n start pass j)) (range_with_len (n - done) done)))
    → ((k : ℕ) → new k ≡ (old k || (is_in k (deps key) && (pass key && old key))))
    → (k : ℕ) → new k ≡ (start k || list_any (λ j. is_in k (deps j) && (pass j && reach deps n start pass j)) (range_with_len (n - (done + 1)) (done + 1)))
reached_more deps n start pass old new low key done e was now k =
    let from : n - done ≡ key + 1 = omega arith in
    let from_next : n - (done + 1) ≡ key = omega arith in
    let is_reached : old key ≡ reach deps n start pass key = reached_from_row deps n start pass low key done e (old key) (was key ∙ ap (λ a. start key || list_any (λ j. is_in key (deps j) && (pass j && reach deps n start pass j)) (range_with_len a done)) from) in
    now k ∙ ap (λ r. old k || (is_in k (deps key) && (pass key && r))) is_reached ∙ ap (λ o. o || (is_in k (deps key) && (pass key && reach deps n start pass key))) (was k ∙ ap (λ a. start k || list_any (λ j. is_in k (deps j) && (pass j && reach deps n start pass j)) (range_with_len a done)) from)
    ∙ turn (start k) (list_any (λ j. is_in k (deps j) && (pass j && reach deps n start pass j)) (range_with_len (key + 1) done)) (is_in k (deps key) && (pass key && reach deps n start pass key))
    ∙ ap (λ m. start k || list_any (λ j. is_in k (deps j) && (pass j && reach deps n start pass j)) (range_with_len key m)) (sym (add-one done))
    ∙ ap (λ a. start k || list_any (λ j. is_in k (deps j) && (pass j && reach deps n start pass j)) (range_with_len a (done + 1))) (sym from_next)
  where
    turn : (a b c : Bool) → ((a || b) || c) ≡ (a || (c || b))
    turn true b c = refl
    turn false true true = refl
    turn false true false = refl
    turn false false true = refl
    turn false false false = refl

-- all keys are done
pub reached_all : (deps : ℕ → List ℕ) (n : ℕ) (start pass old : ℕ → Bool) → IsBelow deps → (done : ℕ) → n ≡ done
    → ((k : ℕ) → old k ≡ (start k || list_any (λ j. is_in k (deps j) && (pass j && reach deps n start pass j)) (range_with_len (n - done) done)))
    → old ≡ reach deps n start pass
reached_all deps n start pass old low done e was = same_function old (reach deps n start pass) (λ k.
    was k ∙ ap (λ a. start k || list_any (λ j. is_in k (deps j) && (pass j && reach deps n start pass j)) (range_with_len a done)) (nothing n done e)
    ∙ ap (λ m. start k || list_any (λ j. is_in k (deps j) && (pass j && reach deps n start pass j)) (range_with_len 0 m)) (sym e)
    ∙ sym (reach-is deps n start pass low k))
  where
    nothing : (n done : ℕ) → n ≡ done → n - done ≡ 0
    nothing n done e = omega arith

-- what an erred key is blamed on, by its dependencies
option_or-assoc : (a b c : Option ℕ) → option_or (option_or a b) c ≡ option_or a (option_or b c)
option_or-assoc None b c = refl
option_or-assoc (Some x) b c = refl

option_or-none : (a : Option ℕ) → option_or a None ≡ a
option_or-none None = refl
option_or-none (Some x) = refl

pub first_some-push : (r : ℕ → Option ℕ) (xs : List ℕ) (x : ℕ) → first_some r (xs ++ x ∷ []) ≡ option_or (first_some r xs) (r x)
first_some-push r [] x = option_or-none (r x)
first_some-push r (y ∷ xs) x = ap (option_or (r y)) (first_some-push r xs x) ∙ sym (option_or-assoc (r y) (first_some r xs) (r x))

pub first_some-agree : (r q : ℕ → Option ℕ) (xs : List ℕ) → AllByRecursion (λ x. r x ≡ q x) xs → first_some r xs ≡ first_some q xs
first_some-agree r q [] h = refl
first_some-agree r q (x ∷ xs) h = ap (λ o. option_or o (first_some r xs)) h.0 ∙ ap (option_or (q x)) (first_some-agree r q xs h.1)

first_found : (e : ℕ → Bool) (b : ℕ → Option ℕ) → ((k : ℕ) → is_some (b k) ≡ e k) → (xs : List ℕ) → cond (list_any e xs) (blame_from b (find e xs)) None ≡ first_some b xs
first_found e b h [] = refl
first_found e b h (x ∷ xs) = pick (b x) (e x) refl (h x) (first_found e b h xs)
  where
    pick : (o : Option ℕ) (t : Bool) → b x ≡ o → is_some o ≡ t → cond (list_any e xs) (blame_from b (find e xs)) None ≡ first_some b xs → cond (t || list_any e xs) (blame_from b (cond t (Some x) (find e xs))) None ≡ option_or o (first_some b xs)
    pick None true i q r = absurd (false≢true q)
    pick None false i q r = r
    pick (Some y) true i q r = i
    pick (Some y) false i q r = absurd (false≢true (sym q))

-- a key is blamed by what its dependencies are blamed on
pub blame_by_first : (f : Facts) → IsSound f → (k : ℕ) → blame f k ≡ cond (held f k) None (cond (f.bad k) (Some k) (first_some (blame f) (deps f k)))
blame_by_first f s k = blame-is f s k ∙ ap (λ e. cond e (cond (f.bad k) (Some k) (blame_from (blame f) (find (erred f) (deps f k)))) None) (erred-is f s k) ∙ pick (held f k) (f.bad k)
  where
    pick : (h b : Bool) → cond (not h && (b || list_any (erred f) (deps f k))) (cond b (Some k) (blame_from (blame f) (find (erred f) (deps f k)))) None ≡ cond h None (cond b (Some k) (first_some (blame f) (deps f k)))
    pick true b = refl
    pick false true = refl
    pick false false = first_found (erred f) (blame f) (is_some-blame f s) (deps f k)

pub blame-past : (f : Facts) → IsSound f → (k : ℕ) → keys f ≤ k → blame f k ≡ None
blame-past f s k h = blame_by_first f s k ∙ ap (λ ds. cond (held f k) None (cond (f.bad k) (Some k) (first_some (blame f) ds))) (deps-past f k h) ∙ ap (λ b. cond (held f k) None (cond b (Some k) None)) (s.bad k h) ∙ none (held f k)
  where
    none : (b : Bool) → cond b None (cond false (Some k) None) ≡ None
    none true = refl
    none false = refl

-- one more key waits for its dependencies
pub waits_more : (f : Facts) (i : ℕ) (old new : ℕ → ℕ) (leads : Bool) → leads ≡ (need f i && open_key f i) → ((k : ℕ) → old k ≡ count (λ j. is_in k (deps f j) && (need f j && open_key f j)) (below i)) → ((k : ℕ) → new k ≡ old k + cond (is_in k (deps f i) && leads) 1 0) → (k : ℕ) → new k ≡ count (λ j. is_in k (deps f j) && (need f j && open_key f j)) (below (i + 1))
waits_more f i old new leads e was now k = now k ∙ ap (λ b. old k + cond (is_in k (deps f i) && b) 1 0) e ∙ ap (λ n. n + cond (is_in k (deps f i) && (need f i && open_key f i)) 1 0) (was k) ∙ sym (count-below (λ j. is_in k (deps f j) && (need f j && open_key f j)) i)

none_before : (xs : List ℕ) (x n : ℕ) → ((j : ℕ) → j < n → get_or xs j 0 < x) → n ≤ length xs → is_in x (take n xs) ≡ false
none_before xs x zero h l = ap (is_in x) (take_zero xs)
none_before xs x (suc n) h l =
    ap (is_in x) (ap (λ m. take m xs) (sym (add-one n)) ∙ take_more xs n 0 (omega arith))
    ∙ any_push (λ d. eqb d x) (take n xs) (get_or xs n 0)
    ∙ ap (λ b. b || eqb (get_or xs n 0) x) (none_before xs x n (λ j m. h j (omega arith)) (omega arith))
    ∙ unequal_below (get_or xs n 0) x (h n (omega arith))

-- one more key is counted. Keys rise, so none comes twice
pub counted_more : (before old new : ℕ → ℕ) (xs : List ℕ) (i x : ℕ) → IsStrictlyIncreasing xs → i < length xs → x ≡ get_or xs i 0 → ((k : ℕ) → old k ≡ before k + cond (is_in k (take i xs)) 1 0) → new ≡ put old x (old x + 1) → (k : ℕ) → new k ≡ before k + cond (is_in k (take (i + 1) xs)) 1 0
counted_more before old new xs i x up l at was now k =
    ap (λ f. f k) now ∙ pick (eqb k x) refl ∙ ap (λ b. before k + cond b 1 0) (sym taken)
  where
    taken : is_in k (take (i + 1) xs) ≡ (is_in k (take i xs) || eqb k x)
    taken = ap (is_in k) (take_more xs i 0 l) ∙ any_push (λ d. eqb d k) (take i xs) (get_or xs i 0) ∙ ap (λ y. is_in k (take i xs) || eqb y k) (sym at) ∙ ap (λ b. is_in k (take i xs) || b) (eqb_turned x k)

    fresh : is_in x (take i xs) ≡ false
    fresh = ap (λ y. is_in y (take i xs)) at ∙ none_before xs (get_or xs i 0) i (λ j m. AllPairs-from_increasing xs up j i 0 m l) (omega arith)

    pick : (b : Bool) → eqb k x ≡ b → cond b (old x + 1) (old k) ≡ before k + cond (is_in k (take i xs) || b) 1 0
    pick true e = ap (λ y. y + 1) (was x ∙ ap (λ b. before x + cond b 1 0) fresh) ∙ plus_none_one (before x) ∙ ap (λ y. before y + 1) (sym (eqb-true k x e)) ∙ ap (λ b. before k + cond b 1 0) (sym (or-true (is_in k (take i xs))))
    pick false e = was k ∙ ap (λ b. before k + cond b 1 0) (sym (or-false (is_in k (take i xs))))

pub count_few : (p : ℕ → Bool) (n : ℕ) → count p (below n) ≤ n
count_few p n = let b : count p (below n) ≤ length (below n) * 1 = total-bound (λ x. cond (p x) 1 0) 1 (below n) (λ x. one_at_most (p x)) in let l : length (below n) ≡ n = length-range_with_len 0 n in omega arith
