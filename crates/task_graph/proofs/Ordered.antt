-- Keys that are sorted with their places.
use Rattle.std.proofs.Common.{◌≡◌, ℕ, zero, suc, ◌+◌, ◌<◌, ◌≤◌, true, false, List, [], ◌∷◌, length, map, get_or, refl, ap, sym, subst, ◌∙◌, arith, inl, inr, eq-eqb, ne_eqb}
use Rattle.std.specs.Prelude.{nat_eq, nat_lt, ◌==◌, eqb, Contains, cond, Result, Ok, Err}
use Rattle.std.specs.Ordering.{nat_cmp, is_lt, ordering_then}
use Rattle.std.specs.declared.cmp.Ordering.TheVariants.{Less, Equal, Greater}
use Rattle.std.specs.List.{AllByRecursion, IsDistinct}
use Rattle.std.specs.List.Sorted.{IsPermutation, IsNonDecreasing, IsSorted, IsBinarySearchResult}
use Rattle.std.proofs.lemmas.Bool.{cases_eq, cases_lt, lt-ltb}
use Rattle.std.proofs.lemmas.List.{length-map, get_or-map, get_or_default}
use Rattle.std.proofs.lemmas.List.Sums.{position_or_len_is}
use Rattle.std.proofs.lemmas.List.Sorted.{IsPermutation-map, IsPermutation-sym, Contains-permutation, IsNonDecreasingBy-from_all_adjacent, searched}
use Rattle.std.proofs.lemmas.List.FromFn.{get_or-range_with_len}
use Rattle.std.proofs.lemmas.Map.Keys.{IsDistinct-IsPermutation, IsStrictlyIncreasing-from_distinct, sorted_from_strictly_increasing, below_from_sorted, apart_from_distinct}
use Rattle.std.proofs.lemmas.Simd.{map-map}
use Rattle.small_facts.proofs.Numbers.{eqb_turned, unequal_turned}
use Rattle.task_graph.specs.Orders.{ascending, position}
use Rattle.task_graph.specs.Moves.{AreOrdered, ArePlaced, shapes_now}
use Rattle.task_graph.proofs.Bounds.{ascending-length}
use Rattle.task_graph.proofs.Keys.{ascending-has, contains-later}
use Rattle.task_graph.proofs.Renumbered.{ascending-from}
use Rattle.task_graph.proofs.Rising.{Rising, all-member, ascending-rises, rising-at}

-- ---- lists that rise and have the same members

pub rises-from : (xs : List ℕ) → ((i j : ℕ) → i < j → j < length xs → get_or xs i 0 < get_or xs j 0) → Rising xs
rises-from [] h = tt
rises-from (x ∷ xs) h = (above xs (λ j lt. h 0 (suc j) (omega arith) (omega arith)), rises-from xs (λ i j a b. h (suc i) (suc j) (omega arith) (omega arith)))
  where
    above : (ys : List ℕ) → ((j : ℕ) → j < length ys → x < get_or ys j 0) → AllByRecursion (λ y. x < y) ys
    above [] h = tt
    above (y ∷ ys) h = (h 0 (omega arith), above ys (λ j lt. h (suc j) (omega arith)))

least : (y k : ℕ) (ys : List ℕ) → Rising (y ∷ ys) → Contains (y ∷ ys) k → y ≤ k
least y k ys r c = at c.0 c.1 c.2
  where
    at : (i : ℕ) → i < length (y ∷ ys) → get_or (y ∷ ys) i k ≡ k → y ≤ k
    at zero h e = omega arith
    at (suc i) h e = let l : y < get_or ys i k = all-member (λ z. y < z) ys i k r.0 (omega arith) in omega arith

behind : (y k : ℕ) (ys : List ℕ) → Contains (y ∷ ys) k → y < k → Contains ys k
behind y k ys c lt = at c.0 c.1 c.2
  where
    at : (i : ℕ) → i < length (y ∷ ys) → get_or (y ∷ ys) i k ≡ k → Contains ys k
    at zero h e = absurd (omega arith)
    at (suc i) h e = (i, omega arith, e)

above-first : (x k : ℕ) (xs : List ℕ) → Rising (x ∷ xs) → Contains xs k → x < k
above-first x k xs r c = let l : x < get_or xs c.0 k = all-member (λ z. x < z) xs c.0 k r.0 c.1 in let e : get_or xs c.0 k ≡ k = c.2 in omega arith

pub rising-same : (xs ys : List ℕ) → Rising xs → Rising ys → ((k : ℕ) → Contains xs k → Contains ys k) → ((k : ℕ) → Contains ys k → Contains xs k) → xs ≡ ys
rising-same [] [] r s f g = refl
rising-same [] (y ∷ ys) r s f g = absurd (let c = g y (0, omega arith, refl) in omega (arith, c.1))
rising-same (x ∷ xs) [] r s f g = absurd (let c = f x (0, omega arith, refl) in omega (arith, c.1))
rising-same (x ∷ xs) (y ∷ ys) r s f g =
    let a : y ≤ x = least y x ys s (f x (0, omega arith, refl)) in
    let b : x ≤ y = least x y xs r (g y (0, omega arith, refl)) in
    let e : x ≡ y = omega arith in
    let rest : xs ≡ ys = rising-same xs ys r.1 s.1
    (λ k c. let q : x < k = above-first x k xs r c in behind y k ys (f k (contains-later k x xs c)) (omega arith))
    (λ k c. let q : y < k = above-first y k ys s c in behind x k xs (g k (contains-later k y ys c)) (omega arith)) in
    ap (λ z. z ∷ xs) e ∙ ap (λ zs. y ∷ zs) rest

-- ---- each key once

pub once-of : (keys : List ℕ) (p : ℕ) → IsDistinct eqb keys → p < length keys → position keys (get_or keys p 0) ≡ p
once-of keys p d h =
    position_or_len_is (nat_eq (get_or keys p 0)) keys p 0 (omega arith) (λ i lt. let a : eqb (get_or keys i 0) (get_or keys p 0) ≡ false = apart_from_distinct eqb keys i p 0 d lt h in unequal_turned (get_or keys p 0) (get_or keys i 0) a) (λ lt. eq-eqb (get_or keys p 0) (get_or keys p 0) refl)

-- ---- pairs of a key and its place, sorted

record IsPair (keys : List ℕ) (pair : ℕ × ℕ) : Type 0 where
  there : pair.1 < length keys
  key_is : get_or keys pair.1 0 ≡ pair.0

pair-at : (keys : List ℕ) (pairs : List (ℕ × ℕ)) → ArePlaced keys pairs → (i : ℕ) (d : ℕ × ℕ) → i < length pairs → IsPair keys (get_or pairs i d)
pair-at keys pairs a i d h =
    let n : length pairs ≡ length keys = sym (length-map pairs (λ (p : ℕ × ℕ). p.0)) ∙ ap (λ (xs : List ℕ). length xs) a.keys_are in
    let lt : i < length keys = omega arith in
    let first : get_or keys i 0 ≡ (get_or pairs i d).0 = sym (ap (λ (xs : List ℕ). get_or xs i 0) a.keys_are) ∙ get_or-map (λ (p : ℕ × ℕ). p.0) pairs i d 0 h in
    let zero_plus : 0 + i ≡ i = omega arith in
    let second : (get_or pairs i d).1 ≡ i = sym (get_or-map (λ (p : ℕ × ℕ). p.1) pairs i d 0 h) ∙ ap (λ (xs : List ℕ). get_or xs i 0) a.places_are ∙ get_or-range_with_len 0 (length keys) i 0 lt ∙ zero_plus in
    record { there = omega arith; key_is = ap (λ k. get_or keys k 0) second ∙ first }

pub ordered : (keys : List ℕ) (placed sorted : List (ℕ × ℕ)) → length keys ≤ 262144 → IsDistinct eqb keys → ArePlaced keys placed → IsPermutation placed sorted
    → ((i j : ℕ) (d : ℕ × ℕ) → i ≤ j → j < length sorted → (get_or sorted i d).0 ≤ (get_or sorted j d).0)
    → AreOrdered keys (map (λ (p : ℕ × ℕ). p.0) sorted) (map (λ (p : ℕ × ℕ). p.1) sorted)
ordered keys placed sorted few once a perm up =
    let fst : ℕ × ℕ → ℕ = λ p. p.0 in
    let deps = map (λ (p : ℕ × ℕ). p.0) sorted in
    let count : length (map (λ (p : ℕ × ℕ). p.0) sorted) ≡ length sorted = length-map sorted (λ (p : ℕ × ℕ). p.0) in
    let moved : IsPermutation keys (map (λ (p : ℕ × ℕ). p.0) sorted) = subst (λ (ks : List ℕ). IsPermutation ks (map (λ (p : ℕ × ℕ). p.0) sorted)) a.keys_are (IsPermutation-map (λ (p : ℕ × ℕ). p.0) placed sorted perm) in
    let apart : IsDistinct eqb (map (λ (p : ℕ × ℕ). p.0) sorted) = IsDistinct-IsPermutation eqb eqb_turned keys (map (λ (p : ℕ × ℕ). p.0) sorted) moved once in
    let not_falling : IsNonDecreasing (map (λ (p : ℕ × ℕ). p.0) sorted) = λ i j d le lt.
    let li : i < length sorted = omega arith in
    let lj : j < length sorted = omega arith in
    let u : (get_or sorted i (0, 0)).0 ≤ (get_or sorted j (0, 0)).0 = up i j (0, 0) le lj in
    let ei : get_or (map (λ (p : ℕ × ℕ). p.0) sorted) i d ≡ (get_or sorted i (0, 0)).0 = get_or-map (λ (p : ℕ × ℕ). p.0) sorted i (0, 0) d li in
    let ej : get_or (map (λ (p : ℕ × ℕ). p.0) sorted) j d ≡ (get_or sorted j (0, 0)).0 = get_or-map (λ (p : ℕ × ℕ). p.0) sorted j (0, 0) d lj in
    omega arith in
    let rising : Rising (map (λ (p : ℕ × ℕ). p.0) sorted) = rises-from (map (λ (p : ℕ × ℕ). p.0) sorted) (λ i j a b.
    below_from_sorted (map (λ (p : ℕ × ℕ). p.0) sorted) i j 0 (sorted_from_strictly_increasing (map (λ (p : ℕ × ℕ). p.0) sorted) (IsStrictlyIncreasing-from_distinct (map (λ (p : ℕ × ℕ). p.0) sorted) not_falling apart)) a b) in
    let same : map (λ (p : ℕ × ℕ). p.0) sorted ≡ ascending keys = rising-same (map (λ (p : ℕ × ℕ). p.0) sorted) (ascending keys) rising (ascending-rises keys)
    (λ k c. ascending-has keys k (Contains-permutation (map (λ (p : ℕ × ℕ). p.0) sorted) keys k (IsPermutation-sym keys (map (λ (p : ℕ × ℕ). p.0) sorted) moved) c))
    (λ k c. Contains-permutation keys (map (λ (p : ℕ × ℕ). p.0) sorted) k moved (ascending-from keys k c)) in
    let short : length (ascending keys) ≤ length keys = ascending-length keys in
    let long : length (map (λ (p : ℕ × ℕ). p.0) sorted) ≡ length (ascending keys) = ap (λ (xs : List ℕ). length xs) same in
    record {
      once = once;
      few = few;
      deps_are = same;
      few_deps = omega arith;
      rising = λ i j a b. rising-at (map (λ (p : ℕ × ℕ). p.0) sorted) i j rising a b;
      sources_are = places sorted (λ i d h. pair-at-sorted i d h);
    }
  where
    pair-at-sorted : (i : ℕ) (d : ℕ × ℕ) → i < length sorted → IsPair keys (get_or sorted i d)
    pair-at-sorted i d h =
        let x = get_or sorted i d in
        let c : Contains placed (get_or sorted i d) = Contains-permutation sorted placed (get_or sorted i d) (IsPermutation-sym placed sorted perm) (i, h, get_or_default sorted i (get_or sorted i d) d h) in
        subst (IsPair keys) c.2 (pair-at keys placed a c.0 (get_or sorted i d) c.1)

    places : (xs : List (ℕ × ℕ)) → ((i : ℕ) (d : ℕ × ℕ) → i < length xs → IsPair keys (get_or xs i d)) → map (λ (p : ℕ × ℕ). p.1) xs ≡ map (position keys) (map (λ (p : ℕ × ℕ). p.0) xs)
    places [] h = refl
    places (x ∷ xs) h =
        let it : IsPair keys x = h 0 x (omega arith) in
        let e : x.1 ≡ position keys x.0 = sym (once-of keys x.1 once it.there) ∙ ap (position keys) it.key_is in
        ap (λ k. k ∷ map (λ (p : ℕ × ℕ). p.1) xs) e ∙ ap (λ ks. position keys x.0 ∷ ks) (places xs (λ i d lt. h (suc i) d (omega arith)))

-- ---- the place of a key among ascending ones

place-found : (xs : List ℕ) (x i : ℕ) → ((i j : ℕ) → i < j → j < length xs → get_or xs i 0 < get_or xs j 0) → i < length xs → get_or xs i 0 ≡ x → i ≡ position xs x
place-found xs x i up lt e =
    sym (position_or_len_is (nat_eq x) xs i 0 (omega arith) (λ k h. ne_eqb x (get_or xs k 0) (λ z. let l : get_or xs k 0 < get_or xs i 0 = up k i h lt in absurd (omega arith))) (λ h. eq-eqb x (get_or xs i 0) (sym e)))

place-missing : (xs : List ℕ) (x i : ℕ) → ((k : ℕ) → k < i → get_or xs k 0 < x) → ((k : ℕ) → i ≤ k → k < length xs → x < get_or xs k 0) → length xs ≡ position xs x
place-missing xs x i low high =
    sym (position_or_len_is (nat_eq x) xs (length xs) 0 (omega arith) (λ k h. ne_eqb x (get_or xs k 0) (λ z. elim (cases_lt k i) [
      | inl a ↦ let l : get_or xs k 0 < x = low k a in absurd (omega arith)
      | inr a ↦ let l : x < get_or xs k 0 = high k a h in absurd (omega arith)
    ])) (λ h. absurd (omega arith)))

abbrev pub found_or : Result ℕ ℕ → ℕ → ℕ
found_or (Ok i) n = i
found_or (Err i) n = n

not-falling : (xs : List ℕ) → ((i j : ℕ) → i < j → j < length xs → get_or xs i 0 < get_or xs j 0) → (i j : ℕ) → i ≤ j → j < length xs → get_or xs i 0 ≤ get_or xs j 0
not-falling xs up i j le lt = elim (cases_eq i j) [
  | inl e ↦ let q : get_or xs i 0 ≡ get_or xs j 0 = ap (λ k. get_or xs k 0) e in omega arith
  | inr d ↦ let q : get_or xs i 0 < get_or xs j 0 = up i j (omega arith) lt in omega arith
]

pub place-searched : (xs : List ℕ) (x : ℕ) (r : Result ℕ ℕ) → ((i j : ℕ) → i < j → j < length xs → get_or xs i 0 < get_or xs j 0) → IsBinarySearchResult (λ y. nat_cmp y x) xs r → found_or r (length xs) ≡ position xs x
place-searched xs x (Ok i) up s = let f = searched xs x (Ok i) s (λ i j le lt. not-falling xs up i j le lt) in place-found xs x i up f.0 f.1
place-searched xs x (Err i) up s = let f = searched xs x (Err i) s (λ i j le lt. not-falling xs up i j le lt) in place-missing xs x i f.1 f.2

-- ---- pairs in order

pair-order : (a b c d : ℕ) → is_lt (ordering_then (nat_cmp a c) (nat_cmp b d)) ≡ false → c ≤ a
pair-order a b c d h = elim (cases_lt a c) [
  | inl lt ↦ absurd (let t : nat_lt a c ≡ true = lt-ltb a c lt in let e : is_lt (ordering_then (cond (nat_lt a c) Less (cond (a == c) Equal Greater)) (nat_cmp b d)) ≡ true = ap (λ x. is_lt (ordering_then (cond x Less (cond (a == c) Equal Greater)) (nat_cmp b d))) t in let no : true ≡ false = sym e ∙ h in cc)
  | inr ge ↦ ge
]

pub pairs-rise : (pairs : List (ℕ × ℕ)) → IsSorted (λ (x y : ℕ × ℕ). ordering_then (nat_cmp x.0 y.0) (nat_cmp x.1 y.1)) pairs → (i j : ℕ) (d : ℕ × ℕ) → i ≤ j → j < length pairs → (get_or pairs i d).0 ≤ (get_or pairs j d).0
pairs-rise pairs s = IsNonDecreasingBy-from_all_adjacent (λ (p : ℕ × ℕ). p.0) pairs (λ k d lt. pair-order (get_or pairs (k + 1) d).0 (get_or pairs (k + 1) d).1 (get_or pairs k d).0 (get_or pairs k d).1 (s k d (omega arith) lt))

-- ---- the shapes of inputs

pub shapes-of : (keys deps sources : List ℕ) (inputs : List (List ℕ)) → AreOrdered keys deps sources → map (λ p. get_or inputs p []) sources ≡ shapes_now keys inputs
shapes-of keys deps sources inputs o =
    ap (map (λ p. get_or inputs p [])) o.sources_are
    ∙ map-map (λ p. get_or inputs p []) (position keys) deps
    ∙ ap (map (λ k. get_or inputs (position keys k) [])) o.deps_are
