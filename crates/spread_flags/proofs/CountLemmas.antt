-- Counts by key, and sums after one change.
use Rattle.std.proofs.Common.{◌≡◌, ℕ, zero, suc, ◌+◌, ◌-◌, ◌*◌, ◌<◌, ◌≤◌, Bool, true, false, cond, ◌||◌, List, [], ◌∷◌, refl, sym, ap, ◌∙◌, arith, length, get_or, ⊎_elim, ◌⊎◌, take, add-one, ltb}
use Rattle.std.specs.List.{list_any, range_with_len, AllByRecursion}
use Rattle.std.proofs.lemmas.List.{take_more}
use Rattle.std.proofs.lemmas.List.FromFn.{length-range_with_len}
use Rattle.std.proofs.lemmas.List.Kept.{AllPairs-from_increasing}
use Rattle.std.specs.List.Sorted.{IsStrictlyIncreasing}
use Rattle.std.proofs.lemmas.Bool.{eqb-true}
use Rattle.std.proofs.Math.Dec.{eqb}
use Rattle.std.proofs.Math.Bool.{or-false, or-true}
use Rattle.std.proofs.Math.Nat.{zero-add}
use Rattle.small_facts.proofs.Lists.{take_zero, any_push}
use Rattle.small_facts.proofs.Numbers.{none_plus, next_positive, unequal_below, plus_none_one, eqb_self, unequal_next, eqb_turned, unequal_over, equal_or_above}
use Rattle.small_facts.proofs.Truth.{one_at_most}
use Rattle.cluster_rules.specs.Functions.{put, total, count}
use Rattle.cluster_rules.specs.Derived.{below, is_in}
use Rattle.cluster_rules.proofs.TotalLemmas.{total-bound}

pub none_before : (xs : List ℕ) (x n : ℕ) → ((j : ℕ) → j < n → get_or xs j 0 < x) → n ≤ length xs → is_in x (take n xs) ≡ false
none_before xs x zero h l = ap (is_in x) (take_zero xs)
none_before xs x (suc n) h l =
    ap (is_in x) (ap (λ m. take m xs) (sym (add-one n)) ∙ take_more xs n 0 (omega arith))
    ∙ any_push (λ d. eqb d x) (take n xs) (get_or xs n 0)
    ∙ ap (λ b. b || eqb (get_or xs n 0) x) (none_before xs x n (λ j m. h j (omega arith)) (omega arith))
    ∙ unequal_below (get_or xs n 0) x (h n (omega arith))

-- one more key is counted. Keys rise, so none comes twice
pub counted_more : (before old new : ℕ → ℕ) (xs : List ℕ) (i x : ℕ) → IsStrictlyIncreasing xs → i < length xs → x ≡ get_or xs i 0 → ((k : ℕ) → old k ≡ before k + cond (is_in k (take i xs)) 1 0) → new ≡ put old x (old x + 1) → (k : ℕ) → new k ≡ before k + cond (is_in k (take (i + 1) xs)) 1 0
counted_more before old new xs i x up l at was now k =
    ap (λ f. f k) now ∙ pick (eqb k x) refl ∙ ap (λ b. before k + cond b 1 0) (sym taken)
  where
    taken : is_in k (take (i + 1) xs) ≡ (is_in k (take i xs) || eqb k x)
    taken = ap (is_in k) (take_more xs i 0 l) ∙ any_push (λ d. eqb d k) (take i xs) (get_or xs i 0) ∙ ap (λ y. is_in k (take i xs) || eqb y k) (sym at) ∙ ap (λ b. is_in k (take i xs) || b) (eqb_turned x k)

    fresh : is_in x (take i xs) ≡ false
    fresh = ap (λ y. is_in y (take i xs)) at ∙ none_before xs (get_or xs i 0) i (λ j m. AllPairs-from_increasing xs up j i 0 m l) (omega arith)

    pick : (b : Bool) → eqb k x ≡ b → cond b (old x + 1) (old k) ≡ before k + cond (is_in k (take i xs) || b) 1 0
    pick true e = ap (λ y. y + 1) (was x ∙ ap (λ b. before x + cond b 1 0) fresh) ∙ plus_none_one (before x) ∙ ap (λ y. before y + 1) (sym (eqb-true k x e)) ∙ ap (λ b. before k + cond b 1 0) (sym (or-true (is_in k (take i xs))))
    pick false e = was k ∙ ap (λ b. before k + cond b 1 0) (sym (or-false (is_in k (take i xs))))

-- the same with one less
pub counted_less : (before old new : ℕ → ℕ) (xs : List ℕ) (i x : ℕ) → IsStrictlyIncreasing xs → i < length xs → x ≡ get_or xs i 0 → 1 ≤ old x → ((k : ℕ) → old k + cond (is_in k (take i xs)) 1 0 ≡ before k) → new ≡ put old x (old x - 1) → (k : ℕ) → new k + cond (is_in k (take (i + 1) xs)) 1 0 ≡ before k
counted_less before old new xs i x up l at some was now k =
    ap (λ f. f k + cond (is_in k (take (i + 1) xs)) 1 0) now ∙ ap (λ b. put old x (old x - 1) k + cond b 1 0) taken ∙ pick (eqb k x) refl
  where
    taken : is_in k (take (i + 1) xs) ≡ (is_in k (take i xs) || eqb k x)
    taken = ap (is_in k) (take_more xs i 0 l) ∙ any_push (λ d. eqb d k) (take i xs) (get_or xs i 0) ∙ ap (λ y. is_in k (take i xs) || eqb y k) (sym at) ∙ ap (λ b. is_in k (take i xs) || b) (eqb_turned x k)

    fresh : is_in x (take i xs) ≡ false
    fresh = ap (λ y. is_in y (take i xs)) at ∙ none_before xs (get_or xs i 0) i (λ j m. AllPairs-from_increasing xs up j i 0 m l) (omega arith)

    there : old x ≡ before x
    there = none_plus (old x) ∙ ap (λ b. old x + cond b 1 0) (sym fresh) ∙ was x

    pick : (b : Bool) → eqb k x ≡ b → cond b (old x - 1) (old k) + cond (is_in k (take i xs) || b) 1 0 ≡ before k
    pick true e = ap (λ b. old x - 1 + cond b 1 0) (or-true (is_in k (take i xs))) ∙ back (old x) some ∙ there ∙ ap before (sym (eqb-true k x e))
      where
        back : (n : ℕ) → 1 ≤ n → n - 1 + 1 ≡ n
        back n h = omega arith
    pick false e = ap (λ b. old k + cond b 1 0) (or-false (is_in k (take i xs))) ∙ was k

-- a key of a list that is not yet among the first has one to lose
pub one_to_lose : (before old : ℕ → ℕ) (xs : List ℕ) (i x : ℕ) → IsStrictlyIncreasing xs → i < length xs → x ≡ get_or xs i 0 → ((k : ℕ) → old k + cond (is_in k (take i xs)) 1 0 ≡ before k) → ((k : ℕ) → is_in k xs ≡ true → 1 ≤ before k) → 1 ≤ old x
one_to_lose before old xs i x up l at was some =
    let e : old x ≡ before x = there in
    let m : 1 ≤ before x = some x (ap (λ y. is_in y xs) at ∙ in_at xs i l) in
    omega arith
  where
    fresh : is_in x (take i xs) ≡ false
    fresh = ap (λ y. is_in y (take i xs)) at ∙ none_before xs (get_or xs i 0) i (λ j m. AllPairs-from_increasing xs up j i 0 m l) (omega arith)

    there : old x ≡ before x
    there = none_plus (old x) ∙ ap (λ b. old x + cond b 1 0) (sym fresh) ∙ was x

    in_at : (ys : List ℕ) (j : ℕ) → j < length ys → is_in (get_or ys j 0) ys ≡ true
    in_at [] j h = absurd (omega arith)
    in_at (y ∷ ys) zero h = ap (λ b. b || is_in y ys) (eqb_self y)
    in_at (y ∷ ys) (suc j) h = ap (λ b. eqb y (get_or ys j 0) || b) (in_at ys j (omega arith)) ∙ or-true (eqb y (get_or ys j 0))

-- what holds of each member holds at each place
pub rec_at : (P : ℕ → Type 0) (xs : List ℕ) → AllByRecursion P xs → (i d : ℕ) → i < length xs → P (get_or xs i d)
rec_at P [] h i d l = absurd (omega arith)
rec_at P (x ∷ xs) h zero d l = h.0
rec_at P (x ∷ xs) h (suc i) d l = rec_at P xs h.1 i d (omega arith)

pub count_few : (p : ℕ → Bool) (n : ℕ) → count p (below n) ≤ n
count_few p n = let b : count p (below n) ≤ length (below n) * 1 = total-bound (λ x. cond (p x) 1 0) 1 (below n) (λ x. one_at_most (p x)) in let l : length (below n) ≡ n = length-range_with_len 0 n in omega arith

-- above the changed place
total_away : (g h : ℕ → ℕ) (k x : ℕ) → ((j : ℕ) → h j ≡ cond (eqb j k) x (g j)) → (a n : ℕ) → k < a → total h (range_with_len a n) ≡ total g (range_with_len a n)
total_away g h k x e a zero l = refl
total_away g h k x e a (suc n) l =
    let first : h a ≡ g a = e a ∙ ap (λ b. cond b x (g a)) (unequal_over a k l) in
    let rest : total h (range_with_len (a + 1) n) ≡ total g (range_with_len (a + 1) n) = total_away g h k x e (a + 1) n (omega arith) in
    omega arith

-- the sum after one number changed
pub total_put : (g h : ℕ → ℕ) (k x : ℕ) → ((j : ℕ) → h j ≡ cond (eqb j k) x (g j)) → (a n : ℕ) → a ≤ k → k < a + n → total h (range_with_len a n) + g k ≡ total g (range_with_len a n) + x
total_put g h k x e a zero l m = absurd (omega arith)
total_put g h k x e a (suc n) l m = ⊎_elim here (λ i. above i (total_put g h k x e (a + 1) n i (omega arith))) (equal_or_above a k l)
  where
    here : a ≡ k → h a + total h (range_with_len (a + 1) n) + g k ≡ g a + total g (range_with_len (a + 1) n) + x
    here i =
        let first : h a ≡ x = e a ∙ ap (λ b. cond b x (g a)) (ap (λ y. eqb a y) (sym i) ∙ eqb_self a) in
        let same : g a ≡ g k = ap g i in
        let rest : total h (range_with_len (a + 1) n) ≡ total g (range_with_len (a + 1) n) = total_away g h k x e (a + 1) n (omega arith) in
        omega arith

    above : a + 1 ≤ k → total h (range_with_len (a + 1) n) + g k ≡ total g (range_with_len (a + 1) n) + x → h a + total h (range_with_len (a + 1) n) + g k ≡ g a + total g (range_with_len (a + 1) n) + x
    above i rest =
        let first : h a ≡ g a = e a ∙ ap (λ b. cond b x (g a)) (unequal_next a k i) in
        omega arith

-- some member passes where the count is not 0
pub any-count : (p : ℕ → Bool) (xs : List ℕ) → list_any p xs ≡ ltb 0 (count p xs)
any-count p [] = refl
any-count p (x ∷ xs) = pick (p x) (any-count p xs)
  where
    pick : (b : Bool) → list_any p xs ≡ ltb 0 (count p xs) → (b || list_any p xs) ≡ ltb 0 (cond b 1 0 + count p xs)
    pick true e = sym (next_positive (count p xs))
    pick false e = e ∙ ap (ltb 0) (sym (zero-add (count p xs)))

none_less : (k : ℕ) → k < 0 → ⊥
none_less k l = omega (arith, l)
