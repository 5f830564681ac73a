-- Lemmas on what a worker keeps by key.
use Rattle.std.proofs.Common.{◌≡◌, ℕ, zero, suc, ◌+◌, ◌-◌, ◌*◌, ◌<◌, ◌≤◌, Bool, true, false, not, ◌&&◌, ◌||◌, List, [], ◌∷◌, ◌++◌, Option, Some, None, refl, sym, ap, ◌∙◌, subst, arith, cond, is_some, take, filter, find, length, get_or, ⊎_elim}
use Rattle.std.specs.Prelude.{◌==◌, nat_lt}
use Rattle.std.specs.List.{list_any, filter_map, cons_option, range_with_len, AllByRecursion}
use Rattle.std.specs.Option.{option_or, option_map}
use Rattle.std.specs.List.Sorted.{IsStrictlyIncreasing}
use Rattle.std.proofs.lemmas.Bool.{false≢true, eqb-true, eq-eqb, cases_lt, le-ltb, ltb-true}
use Rattle.std.proofs.lemmas.Bool.Decides.{nat_tests}
use Rattle.std.proofs.lemmas.List.Folds.{list_any_more, find-append, list_any-append}
use Rattle.std.proofs.lemmas.List.Elements.{filter_map-append, Contains-get_or}
use Rattle.std.proofs.lemmas.List.FromFn.{length-range_with_len}
use Rattle.std.proofs.Math.Bool.{or-true, or-false}
use Rattle.std.proofs.lemmas.Option.{same_Some}
use Rattle.small_facts.proofs.Every.{all_of_filter}
use Rattle.small_facts.proofs.Numbers.{eqb_turned, unequal_below}
use Rattle.small_facts.proofs.Ranges.{range_has}
use Rattle.small_facts.proofs.Truth.{one_at_most}
use Rattle.cluster_msgs.specs.Shape.{Shape, key_count, deps_of}
use Rattle.cluster_rules.specs.Functions.{put, total, count}
use Rattle.cluster_rules.specs.Derived.{below, is_in}
use Rattle.cluster_rules.specs.Worker.{has_any, WorkerFacts, worker_keys, wstate, is_fetch_state, item_at, copy_at, fetchable, ask_items}
use Rattle.cluster_rules.proofs.DerivedLemmas.{below_split}
use Rattle.cluster_rules.proofs.FunctionLemmas.{same_function}
use Rattle.cluster_rules.proofs.SchedLemmas.{below-more, filter-below}
use Rattle.cluster_rules.proofs.TotalLemmas.{total-agree, total-bound}
use Rattle.cluster_rules.proofs.InsideWorker.{all_take_in, keys_below}
use Rattle.cluster_rules.proofs.Members.{range_from, any_some}
use Rattle.fact_rows.specs.Rows.{read}
use Rattle.worker_facts.specs.Stored.{pends, waiters}

-- a test of some member counts more than none
pub any_count : (p : ℕ → Bool) (xs : List ℕ) → list_any p xs ≡ nat_lt 0 (count p xs)
any_count p [] = refl
any_count p (x ∷ xs) = pick (p x) (any_count p xs)
  where
    more : (n : ℕ) → true ≡ nat_lt 0 (1 + n)
    more n = grind (arith, nat_tests)

    none : (n : ℕ) → nat_lt 0 n ≡ nat_lt 0 (0 + n)
    none n = ap (λ m. nat_lt 0 m) (let e : n ≡ 0 + n = omega arith in e)

    pick : (b : Bool) → list_any p xs ≡ nat_lt 0 (count p xs) → (b || list_any p xs) ≡ nat_lt 0 (cond b 1 0 + count p xs)
    pick true r = more (count p xs)
    pick false r = r ∙ none (count p xs)

unlike_above : (x j : ℕ) → j + 1 ≤ x → (x == j) ≡ false
unlike_above x j h = grind (arith, nat_tests)

-- the same members elsewhere
total-range_agree : (g h : ℕ → ℕ) (a n : ℕ) → ((x : ℕ) → a ≤ x → g x ≡ h x) → total g (range_with_len a n) ≡ total h (range_with_len a n)
total-range_agree g h a n e = total-agree g h (range_with_len a n) (λ x m. e x (range_from a n x m).0)

-- a sum with one member changed
pub total-put : (g : ℕ → ℕ) (j v a n : ℕ) → a ≤ j → j < a + n → total (put g j v) (range_with_len a n) + g j ≡ total g (range_with_len a n) + v
total-put g j v a zero l m = absurd (omega arith)
total-put g j v a (suc n) l m = ⊎_elim (λ h. later h (total-put g j v (a + 1) n (omega arith) (omega arith))) here (cases_lt a j)
  where
    later : a < j → total (put g j v) (range_with_len (a + 1) n) + g j ≡ total g (range_with_len (a + 1) n) + v → put g j v a + total (put g j v) (range_with_len (a + 1) n) + g j ≡ g a + total g (range_with_len (a + 1) n) + v
    later h r =
        let e : put g j v a ≡ g a = ap (λ b. cond b v (g a)) (unequal_below a j h) in
        omega (arith, r, e)

    here : j ≤ a → put g j v a + total (put g j v) (range_with_len (a + 1) n) + g j ≡ g a + total g (range_with_len (a + 1) n) + v
    here h =
        let same : a ≡ j = omega arith in
        let e : put g j v a ≡ v = ap (λ b. cond b v (g a)) (eq-eqb a j same) in
        let f : g a ≡ g j = ap g same in
        let r : total (put g j v) (range_with_len (a + 1) n) ≡ total g (range_with_len (a + 1) n) = total-range_agree (put g j v) g (a + 1) n (λ x l'. ap (λ b. cond b v (g x)) (unlike_above x j (omega arith))) in
        omega (arith, e, f, r)

-- one test changed among those that are counted
pub waiters-put : (g : Shape) (pend : ℕ → Bool) (j : ℕ) (b : Bool) (k : ℕ) → j < key_count g → waiters g (put pend j b) k + cond (pend j && is_in k (deps_of g j)) 1 0 ≡ waiters g pend k + cond (b && is_in k (deps_of g j)) 1 0
waiters-put g pend j b k l =
    ap (λ n. n + one j) (total-agree (λ i. cond (put pend j b i && is_in k (deps_of g i)) 1 0) (put one j new) (below (key_count g)) (λ i m. at_place i))
    ∙ total-put one j new 0 (key_count g) (omega arith) (omega arith)
  where
    one : ℕ → ℕ
    one i = cond (pend i && is_in k (deps_of g i)) 1 0

    new : ℕ
    new = cond (b && is_in k (deps_of g j)) 1 0

    pick : (i : ℕ) (c : Bool) → (i == j) ≡ c → cond (cond c b (pend i) && is_in k (deps_of g i)) 1 0 ≡ cond c new (one i)
    pick i true e = ap (λ x. cond (b && is_in k (deps_of g x)) 1 0) (eqb-true i j e)
    pick i false e = refl

    at_place : (i : ℕ) → cond (put pend j b i && is_in k (deps_of g i)) 1 0 ≡ put one j new i
    at_place i = pick i (i == j) refl

pub waiters-bound : (g : Shape) (pend : ℕ → Bool) (k : ℕ) → waiters g pend k ≤ key_count g
waiters-bound g pend k =
    let r : waiters g pend k ≤ length (below (key_count g)) * 1 = total-bound (λ j. cond (pend j && is_in k (deps_of g j)) 1 0) 1 (below (key_count g)) (λ j. one_at_most (pend j && is_in k (deps_of g j))) in
    omega (arith, r, length-range_with_len 0 (key_count g))

pub waiters-there : (g : Shape) (pend : ℕ → Bool) (j k : ℕ) → j < key_count g → pend j ≡ true → is_in k (deps_of g j) ≡ true → 0 < waiters g pend k
waiters-there g pend j k l e m =
    let r : waiters g (put pend j false) k + cond (pend j && is_in k (deps_of g j)) 1 0 ≡ waiters g pend k + 0 = waiters-put g pend j false k l in
    let h : ◌≡◌ {A = ℕ} (cond (pend j && is_in k (deps_of g j)) 1 0) 1 = ap (λ b. cond (b && is_in k (deps_of g j)) 1 0) e ∙ ap (λ b. cond b 1 0) m in
    omega (arith, r, h)

-- the counts after one test changed
pub recounted : (g : Shape) (pend pend' : ℕ → Bool) (key : ℕ) (row row' : List ℕ) (before after : Bool) → key < key_count g → pend' ≡ put pend key after → before ≡ pend key
    → ((k : ℕ) → read row 0 k ≡ waiters g pend k)
    → ((k : ℕ) → read row' 0 k + cond (before && is_in k (deps_of g key)) 1 0 ≡ read row 0 k + cond (after && is_in k (deps_of g key)) 1 0)
    → (k : ℕ) → read row' 0 k ≡ waiters g pend' k
recounted g pend pend' key row row' before after l e was old new k =
    let r : waiters g (put pend key after) k + cond (before && is_in k (deps_of g key)) 1 0 ≡ read row 0 k + cond (after && is_in k (deps_of g key)) 1 0
    = ap (λ b. waiters g (put pend key after) k + cond (b && is_in k (deps_of g key)) 1 0) was ∙ waiters-put g pend key after k l ∙ ap (λ n. n + cond (after && is_in k (deps_of g key)) 1 0) (sym (old k)) in
    let s : read row' 0 k ≡ waiters g (put pend key after) k = cancel _ _ _ (new k ∙ sym r) in
    s ∙ ap (λ p. waiters g p k) (sym e)
  where
    cancel : (a b c : ℕ) → a + c ≡ b + c → a ≡ b
    cancel a b c h = omega arith

pub pends-mine : (mine mine' : List (Option ℕ)) (running : List Bool) (key : ℕ) (to : Option ℕ) → read mine' None ≡ put (read mine None) key to → pends mine' running ≡ put (pends mine running) key (is_some to && not (read running false key))
pends-mine mine mine' running key to e = same_function _ _ at_place
  where
    pick : (j : ℕ) (c : Bool) → (j == key) ≡ c → (is_some (cond c to (read mine None j)) && not (read running false j)) ≡ cond c (is_some to && not (read running false key)) (pends mine running j)
    pick j true h = ap (λ x. is_some to && not (read running false x)) (eqb-true j key h)
    pick j false h = refl

    at_place : (j : ℕ) → pends mine' running j ≡ put (pends mine running) key (is_some to && not (read running false key)) j
    at_place j = ap (λ f. is_some (f j) && not (read running false j)) e ∙ pick j (j == key) refl

pub pends-running : (mine : List (Option ℕ)) (running running' : List Bool) (key : ℕ) (to : Bool) → read running' false ≡ put (read running false) key to → pends mine running' ≡ put (pends mine running) key (is_some (read mine None key) && not to)
pends-running mine running running' key to e = same_function _ _ at_place
  where
    pick : (j : ℕ) (c : Bool) → (j == key) ≡ c → (is_some (read mine None j) && not (cond c to (read running false j))) ≡ cond c (is_some (read mine None key) && not to) (pends mine running j)
    pick j true h = ap (λ x. is_some (read mine None x) && not to) (eqb-true j key h)
    pick j false h = refl

    at_place : (j : ℕ) → pends mine running' j ≡ put (pends mine running) key (is_some (read mine None key) && not to) j
    at_place j = ap (λ f. is_some (read mine None j) && not (f j)) e ∙ pick j (j == key) refl

-- searches over the keys
pub any_below : (p : ℕ → Bool) (j n : ℕ) → j < n → p j ≡ true → list_any p (below n) ≡ true
any_below p j n l e = any_some p (below n) j (range_has 0 n j (omega arith) (omega arith)) e

pub any_push : (p : ℕ → Bool) (n : ℕ) → list_any p (below n) ≡ false → p n ≡ false → list_any p (below (n + 1)) ≡ false
any_push p n h e = ap (list_any p) (below-more n) ∙ list_any-append p (below n) (n ∷ []) ∙ ap (λ b. b || (p n || false)) h ∙ ap (λ b. b || false) e

pub find_below : (p : ℕ → Bool) (j n : ℕ) → j < n → find p (below j) ≡ None → p j ≡ true → find p (below n) ≡ Some j
find_below p j n l h e =
    ap (λ m. find p (below m)) (let q : n ≡ j + suc (n - (j + 1)) = omega arith in q)
    ∙ ap (find p) (below_split j (suc (n - (j + 1))))
    ∙ find-append p (below j) (range_with_len j (suc (n - (j + 1))))
    ∙ ap (λ o. option_or o (find p (range_with_len j (suc (n - (j + 1)))))) h
    ∙ ap (λ b. cond b (Some j) (find p (range_with_len (j + 1) (n - (j + 1))))) e

pub find_push : (p : ℕ → Bool) (n : ℕ) → find p (below n) ≡ None → p n ≡ false → find p (below (n + 1)) ≡ None
find_push p n h e = ap (find p) (below-more n) ∙ find-append p (below n) (n ∷ []) ∙ ap (λ o. option_or o (cond (p n) (Some n) None)) h ∙ ap (λ b. cond b (Some n) None) e

-- what is kept of the keys that pass
pub picked : {A : Type 0} (h : ℕ → Option A) (q : ℕ → Bool) (n : ℕ) → filter_map h (filter q (below (n + 1))) ≡ filter_map h (filter q (below n)) ++ cons_option (cond (q n) (h n) None) []
picked h q n =
    ap (filter_map h) (filter-below q n)
    ∙ filter_map-append h (filter q (below n)) (cond (q n) (n ∷ []) [])
    ∙ ap (λ xs. filter_map h (filter q (below n)) ++ xs) (last (q n))
  where
    last : (b : Bool) → filter_map h (cond b (n ∷ []) []) ≡ cons_option (cond b (h n) None) []
    last true = refl
    last false = refl

pub any_picked : {A : Type 0} (h : ℕ → Option A) (q : ℕ → Bool) (ks : List ℕ) → has_any (filter_map h (filter q ks)) ≡ list_any (λ k. is_some (cond (q k) (h k) None)) ks
any_picked h q [] = refl
any_picked {A = A} h q (k ∷ ks) = pick (q k) (h k) (any_picked h q ks)
  where
    inner : (v : Option A) → has_any (filter_map h (filter q ks)) ≡ list_any (λ j. is_some (cond (q j) (h j) None)) ks → has_any (cons_option v (filter_map h (filter q ks))) ≡ (is_some v || list_any (λ j. is_some (cond (q j) (h j) None)) ks)
    inner None r = r
    inner (Some x) r = refl

    pick : (b : Bool) (v : Option A) → has_any (filter_map h (filter q ks)) ≡ list_any (λ j. is_some (cond (q j) (h j) None)) ks
        → has_any (filter_map h (cond b (k ∷ filter q ks) (filter q ks))) ≡ (is_some (cond b (h k) None) || list_any (λ j. is_some (cond (q j) (h j) None)) ks)
    pick true v r = inner (h k) r
    pick false v r = r

pub and4 : (a b c d : Bool) → (((a && b) && c) && d) ≡ (a && (b && (c && d)))
and4 true true c d = refl
and4 true false c d = refl
and4 false b c d = refl

pub and5 : (a b c d e : Bool) → ((((a && b) && c) && d) && e) ≡ (a && (b && (c && (d && e))))
and5 true true true d e = refl
and5 true true false d e = refl
and5 true false c d e = refl
and5 false b c d e = refl

pub and_last : (a b c d e f : Bool) → ((a && (b && (c && (d && e)))) && f) ≡ (a && (b && (c && (d && (e && f)))))
and_last true true true true e f = refl
and_last true true true false e f = refl
and_last true true false d e f = refl
and_last true false c d e f = refl
and_last false b c d e f = refl

pub ready-of : (a b c d e : Bool) → (a && (b && (c && d))) ≡ true → e ≡ (a && (b && (c && (d && e))))
ready-of true true true true e h = refl
ready-of true true true false e h = absurd (false≢true h)
ready-of true true false d e h = absurd (false≢true h)
ready-of true false c d e h = absurd (false≢true h)
ready-of false b c d e h = absurd (false≢true h)

-- a member of a rising list isn't among those before it
pub not_yet : (keys : List ℕ) (i : ℕ) → i < length keys → IsStrictlyIncreasing keys → is_in (get_or keys i 0) (take i keys) ≡ false
not_yet keys i l r = front i (omega arith)
  where
    rises : (j n : ℕ) → j + 1 + n < length keys → get_or keys j 0 < get_or keys (j + 1 + n) 0
    rises j zero h = subst (λ m. get_or keys j 0 < get_or keys m 0) (let e : j + 1 ≡ j + 1 + 0 = omega arith in e) (r j (omega arith))
    rises j (suc n) h =
        let e : j + 1 + n + 1 ≡ j + 1 + suc n = omega arith in
        let a : get_or keys j 0 < get_or keys (j + 1 + n) 0 = rises j n (omega arith) in
        let b : get_or keys (j + 1 + n) 0 < get_or keys (j + 1 + n + 1) 0 = r (j + 1 + n) (omega (arith, h)) in
        subst (λ m. get_or keys j 0 < get_or keys m 0) e (omega (arith, a, b))

    before : (j : ℕ) → j < i → get_or keys j 0 < get_or keys i 0
    before j h = subst (λ m. get_or keys j 0 < get_or keys m 0) (let e : j + 1 + (i - (j + 1)) ≡ i = omega arith in e) (rises j (i - (j + 1)) (omega arith))

    front : (j : ℕ) → j ≤ i → is_in (get_or keys i 0) (take j keys) ≡ false
    front zero h = refl
    front (suc j) h =
        ap (λ m. is_in (get_or keys i 0) (take m keys)) (let e : suc j ≡ j + 1 = omega arith in e)
        ∙ list_any_more (λ d. d == get_or keys i 0) keys j 0 (omega arith)
        ∙ ap (λ b. b || (get_or keys j 0 == get_or keys i 0)) (front j (omega arith))
        ∙ unequal_below (get_or keys j 0) (get_or keys i 0) (before j (omega arith))

pub there : (keys : List ℕ) (i : ℕ) → i < length keys → is_in (get_or keys i 0) keys ≡ true
there keys i l = any_some (λ d. d == get_or keys i 0) keys (get_or keys i 0) (Contains-get_or keys i 0 l) (eq-eqb (get_or keys i 0) (get_or keys i 0) refl)

-- one more at the next key
pub added : (row row' : List ℕ) (base : ℕ → ℕ) (keys : List ℕ) (i : ℕ) → i < length keys → IsStrictlyIncreasing keys
    → ((k : ℕ) → read row 0 k ≡ base k + cond (is_in k (take i keys)) 1 0) → read row' 0 ≡ put (read row 0) (get_or keys i 0) (read row 0 (get_or keys i 0) + 1)
    → (k : ℕ) → read row' 0 k ≡ base k + cond (is_in k (take (i + 1) keys)) 1 0
added row row' base keys i l r old new k = ap (λ f. f k) new ∙ pick (k == get_or keys i 0) refl ∙ ap (λ b. base k + cond b 1 0) (sym (list_any_more (λ d. d == k) keys i 0 l))
  where
    none : read row 0 (get_or keys i 0) ≡ base (get_or keys i 0) + 0
    none = old (get_or keys i 0) ∙ ap (λ b. base (get_or keys i 0) + cond b 1 0) (not_yet keys i l r)

    here : (x : ℕ) → x ≡ get_or keys i 0 → read row 0 (get_or keys i 0) + 1 ≡ base x + cond (is_in x (take i keys) || (get_or keys i 0 == x)) 1 0
    here x e =
        let a : (is_in x (take i keys) || (get_or keys i 0 == x)) ≡ true = ap (λ b. is_in x (take i keys) || b) (eq-eqb (get_or keys i 0) x (sym e)) ∙ or-true (is_in x (take i keys)) in
        let b : ◌≡◌ {A = ℕ} (cond (is_in x (take i keys) || (get_or keys i 0 == x)) 1 0) 1 = ap (λ t. cond t 1 0) a in
        let n : read row 0 (get_or keys i 0) ≡ base x + 0 = none ∙ ap (λ y. base y + 0) (sym e) in
        omega (arith, b, n)

    pick : (b : Bool) → (k == get_or keys i 0) ≡ b → cond b (read row 0 (get_or keys i 0) + 1) (read row 0 k) ≡ base k + cond (is_in k (take i keys) || (get_or keys i 0 == k)) 1 0
    pick true e = here k (eqb-true k (get_or keys i 0) e)
    pick false e = old k ∙ ap (λ b. base k + cond b 1 0) (sym (or-false (is_in k (take i keys)) ∙ refl)) ∙ ap (λ b. base k + cond (is_in k (take i keys) || b) 1 0) (sym (eqb_turned (get_or keys i 0) k ∙ e))

-- one less at the next key
pub enough : (row : List ℕ) (base : ℕ → ℕ) (keys : List ℕ) (i : ℕ) → i < length keys → IsStrictlyIncreasing keys
    → ((k : ℕ) → read row 0 k + cond (is_in k (take i keys)) 1 0 ≡ base k) → ((k : ℕ) → is_in k keys ≡ true → 0 < base k) → 1 ≤ read row 0 (get_or keys i 0)
enough row base keys i l r old has =
    let a : ◌≡◌ {A = ℕ} (cond (is_in (get_or keys i 0) (take i keys)) 1 0) 0 = ap (λ b. cond b 1 0) (not_yet keys i l r) in
    omega (arith, a, old (get_or keys i 0), has (get_or keys i 0) (there keys i l))

pub taken_off : (row row' : List ℕ) (base : ℕ → ℕ) (keys : List ℕ) (i : ℕ) → i < length keys → IsStrictlyIncreasing keys
    → ((k : ℕ) → read row 0 k + cond (is_in k (take i keys)) 1 0 ≡ base k) → 1 ≤ read row 0 (get_or keys i 0) → read row' 0 ≡ put (read row 0) (get_or keys i 0) (read row 0 (get_or keys i 0) - 1)
    → (k : ℕ) → read row' 0 k + cond (is_in k (take (i + 1) keys)) 1 0 ≡ base k
taken_off row row' base keys i l r old full new k =
    ap (λ n. n + cond (is_in k (take (i + 1) keys)) 1 0) (ap (λ f. f k) new) ∙ ap (λ b. put (read row 0) (get_or keys i 0) (read row 0 (get_or keys i 0) - 1) k + cond b 1 0) (list_any_more (λ d. d == k) keys i 0 l) ∙ pick (k == get_or keys i 0) refl
  where
    here : (x : ℕ) → x ≡ get_or keys i 0 → (read row 0 (get_or keys i 0) - 1) + cond (is_in x (take i keys) || (get_or keys i 0 == x)) 1 0 ≡ base x
    here x e =
        let a : (is_in x (take i keys) || (get_or keys i 0 == x)) ≡ true = ap (λ b. is_in x (take i keys) || b) (eq-eqb (get_or keys i 0) x (sym e)) ∙ or-true (is_in x (take i keys)) in
        let b : ◌≡◌ {A = ℕ} (cond (is_in x (take i keys) || (get_or keys i 0 == x)) 1 0) 1 = ap (λ t. cond t 1 0) a in
        let z : ◌≡◌ {A = ℕ} (cond (is_in (get_or keys i 0) (take i keys)) 1 0) 0 = ap (λ t. cond t 1 0) (not_yet keys i l r) in
        let n : base (get_or keys i 0) ≡ base x = ap base (sym e) in
        omega (arith, b, z, n, old (get_or keys i 0))

    pick : (b : Bool) → (k == get_or keys i 0) ≡ b → cond b (read row 0 (get_or keys i 0) - 1) (read row 0 k) + cond (is_in k (take i keys) || (get_or keys i 0 == k)) 1 0 ≡ base k
    pick true e = here k (eqb-true k (get_or keys i 0) e)
    pick false e = ap (λ b. read row 0 k + cond (is_in k (take i keys) || b) 1 0) (eqb_turned (get_or keys i 0) k ∙ e) ∙ ap (λ b. read row 0 k + cond b 1 0) (or-false (is_in k (take i keys))) ∙ old k

pub start_else : {A : Type 0} (a b : ℕ) (x y : A) → b ≤ a → y ≡ cond (nat_lt a b) x y
start_else a b x y h = sym (ap (λ t. cond t x y) (le-ltb a b h))

pub none_waits : (g : Shape) (pend : ℕ → Bool) → ((j : ℕ) → pend j ≡ false) → (k : ℕ) → 0 ≡ waiters g pend k
none_waits g pend h k = sym (total-agree (λ j. cond (pend j && is_in k (deps_of g j)) 1 0) (λ j. 0) (below (key_count g)) (λ j m. ap (λ b. cond (b && is_in k (deps_of g j)) 1 0) (h j)) ∙ zeros (below (key_count g)))
  where
    zeros : (xs : List ℕ) → total (λ j. 0) xs ≡ 0
    zeros [] = refl
    zeros (x ∷ xs) = let r : total (λ (j : ℕ). 0) xs ≡ 0 = zeros xs in omega (arith, r)

-- the keys that an ask names are of the graph
fetched_below : (h : ℕ → Option (ℕ × ℕ)) (n : ℕ) → ((k : ℕ) (i : ℕ × ℕ) → h k ≡ Some i → i.0 ≡ k) → (ks : List ℕ) → AllByRecursion (λ k. nat_lt k n ≡ true) ks → AllByRecursion (λ i. nat_lt i.0 n ≡ true) (filter_map h ks)
fetched_below h n own [] a = tt
fetched_below h n own (k ∷ ks) a = pick (h k) (own k) (fetched_below h n own ks a.1)
  where
    pick : (o : Option (ℕ × ℕ)) → ((i : ℕ × ℕ) → o ≡ Some i → i.0 ≡ k) → AllByRecursion (λ i. nat_lt i.0 n ≡ true) (filter_map h ks) → AllByRecursion (λ i. nat_lt i.0 n ≡ true) (cons_option o (filter_map h ks))
    pick None f r = r
    pick (Some i) f r = (ap (λ j. nat_lt j n) (f i refl) ∙ a.0, r)

own_item : (p k : ℕ) (hs : List (ℕ × ℕ)) (i : ℕ × ℕ) → item_at p k hs ≡ Some i → i.0 ≡ k
own_item p k hs i h = pick (copy_at p hs) h
  where
    none : ◌≡◌ {A = Option (ℕ × ℕ)} None (Some i) → ⊥
    none e = cc

    pick : (o : Option ℕ) → option_map (λ (c : ℕ). (k, c)) o ≡ Some i → i.0 ≡ k
    pick None e = absurd (none e)
    pick (Some c) e = ap (λ (x : ℕ × ℕ). x.0) (sym (same_Some (k, c) i e))

any_below_all : (n k : ℕ) (is : List (ℕ × ℕ)) → AllByRecursion (λ i. nat_lt i.0 n ≡ true) is → list_any (λ i. i.0 == k) is ≡ true → k < n
any_below_all n k [] a h = absurd (false≢true h)
any_below_all n k (i ∷ is) a h = pick (i.0 == k) refl (λ e. any_below_all n k is a.1 e) h
  where
    pick : (b : Bool) → (i.0 == k) ≡ b → (list_any (λ j. j.0 == k) is ≡ true → k < n) → (b || list_any (λ j. j.0 == k) is) ≡ true → k < n
    pick true e r q = subst (λ x. x < n) (eqb-true i.0 k e) (ltb-true i.0 n a.0)
    pick false e r q = r q

pub asked_below : (w : WorkerFacts) (p k : ℕ) → list_any (λ i. i.0 == k) (ask_items w.shape (fetchable w p)) ≡ true → k < key_count w.shape
unfolding ask_items fetchable
asked_below w p k h = any_below_all (key_count w.shape) k _
    (all_take_in (λ i. nat_lt i.0 (key_count w.shape) ≡ true) _ _
    (fetched_below (λ j. item_at p j (w.holders j)) (key_count w.shape) (λ j i e. own_item p j (w.holders j) i e) _
    (all_of_filter (λ j. nat_lt j (key_count w.shape) ≡ true) (λ j. is_fetch_state (wstate w j)) (worker_keys w) (keys_below w.shape))))
    h
