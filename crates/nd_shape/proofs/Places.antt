-- `place` and `index_at` are inverse on a shape.
use Rattle.std.proofs.Common.{◌≡◌, ℕ, zero, suc, ◌+◌, ◌*◌, ◌/◌, ◌%◌, ◌<◌, ◌≤◌, ◌^◌, List, [], ◌∷◌, ◌≢◌, length, drop, take, set, get_or, ◌++◌, append_assoc, refl, ap, sym, ◌∙◌, arith}
use Rattle.std.proofs.lemmas.Nat.{mul-add-lt, div-mul-add, mod-mul-add, div-add-mod', div_below, mod_below}
use Rattle.std.proofs.Math.Nat.{mul_comm}
use Rattle.std.proofs.lemmas.List.{drop_more, take_more_set}
use Rattle.small_facts.proofs.Numbers.{below_product_right}
use Rattle.nd_shape.specs.Shape.{elements}
use Rattle.nd_shape.specs.Index.{IsIn, place, index_at}

pub place-below : (ns is : List ℕ) → IsIn ns is → place ns is < elements ns
place-below [] [] h = omega arith
place-below [] (i ∷ is) h = absurd h
place-below (n ∷ ns) [] h = absurd h
place-below (n ∷ ns) (i ∷ is) h = rw (mul_comm n (elements ns)) (mul-add-lt i (elements ns) (place ns is) n h.0 (place-below ns is h.1))

pub index_at-place : (ns is : List ℕ) → IsIn ns is → index_at ns (place ns is) ≡ is
index_at-place [] [] h = refl
index_at-place [] (i ∷ is) h = absurd h
index_at-place (n ∷ ns) [] h = absurd h
index_at-place (n ∷ ns) (i ∷ is) h =
    rw (div-mul-add i (elements ns) (place ns is) (place-below ns is h.1), mod-mul-add i (elements ns) (place ns is) (place-below ns is h.1))
    (ap (λ ks. i ∷ ks) (index_at-place ns is h.1))

pub place-index_at : (ns : List ℕ) (p : ℕ) → p < elements ns → place ns (index_at ns p) ≡ p
place-index_at [] p h = omega arith
place-index_at (n ∷ ns) p h =
    ap (λ k. p / elements ns * elements ns + k) (place-index_at ns (p % elements ns) (mod_below p (elements ns) (below_product_right n (elements ns) p h)))
    ∙ div-add-mod' p (elements ns)

pub index_at-in : (ns : List ℕ) (p : ℕ) → p < elements ns → IsIn ns (index_at ns p)
index_at-in [] p h = tt
index_at-in (n ∷ ns) p h =
    (div_below p (elements ns) n (below_product_right n (elements ns) p h) h, index_at-in ns (p % elements ns) (mod_below p (elements ns) (below_product_right n (elements ns) p h)))

-- ---- along the axes, for loops

pub IsIn-length : (ns is : List ℕ) → IsIn ns is → length is ≡ length ns
IsIn-length [] [] h = refl
IsIn-length [] (i ∷ is) h = absurd h
IsIn-length (n ∷ ns) [] h = absurd h
IsIn-length (n ∷ ns) (i ∷ is) h = ap suc (IsIn-length ns is h.1)

pub elements-pos_in : (ns is : List ℕ) → IsIn ns is → 0 < elements ns
elements-pos_in ns is h = omega (arith, place-below ns is h)

-- what an index is known to be from axis k on
pub record Along (ns is : List ℕ) (k : ℕ) : Type 0 where
  pub axis : IsIn (drop k ns) (drop k is)
  pub below : get_or is k 0 < get_or ns k 0
  pub rest : IsIn (drop (k + 1) ns) (drop (k + 1) is)
  pub size_is : elements (drop k ns) ≡ get_or ns k 0 * elements (drop (k + 1) ns)
  pub place_is : place (drop k ns) (drop k is) ≡ get_or is k 0 * elements (drop (k + 1) ns) + place (drop (k + 1) ns) (drop (k + 1) is)

pub along : (ns is : List ℕ) (k : ℕ) → k < length ns → length is ≡ length ns → IsIn (drop k ns) (drop k is) → Along ns is k
along ns is k h e a =
    let k_in : k < length is = omega arith in
    let dn : drop k ns ≡ get_or ns k 0 ∷ drop (k + 1) ns = drop_more ns k 0 h in
    let di : drop k is ≡ get_or is k 0 ∷ drop (k + 1) is = drop_more is k 0 k_in in
    let b : IsIn (get_or ns k 0 ∷ drop (k + 1) ns) (get_or is k 0 ∷ drop (k + 1) is) = rw (dn, di) at a in
    record {
      axis = a;
      below = b.0;
      rest = b.1;
      size_is = ap elements dn;
      place_is = ap (λ xs. place xs (drop k is)) dn ∙ ap (place (get_or ns k 0 ∷ drop (k + 1) ns)) di;
    }

-- one step of the sum: a is what stands before axis k
pub along-step : (ns is : List ℕ) (k a p : ℕ) → k < length ns → length is ≡ length ns → IsIn (drop k ns) (drop k is) → a * elements (drop k ns) + place (drop k ns) (drop k is) ≡ p
    → (a * get_or ns k 0 + get_or is k 0) * elements (drop (k + 1) ns) + place (drop (k + 1) ns) (drop (k + 1) is) ≡ p
along-step ns is k a p h e i q =
    let s = along ns is k h e i in
    let s1 : elements (drop k ns) ≡ get_or ns k 0 * elements (drop (k + 1) ns) = s.size_is in
    let s2 : place (drop k ns) (drop k is) ≡ get_or is k 0 * elements (drop (k + 1) ns) + place (drop (k + 1) ns) (drop (k + 1) is) = s.place_is in
    let q1 : a * (get_or ns k 0 * elements (drop (k + 1) ns)) + (get_or is k 0 * elements (drop (k + 1) ns) + place (drop (k + 1) ns) (drop (k + 1) is)) ≡ p = rw (s1, s2) at q in
    omega (arith, q1)

-- and it stays small
pub along-bound : (a s r p : ℕ) → 0 < s → a * s + r ≡ p → a ≤ p
along-bound a zero r p h e = absurd (omega arith)
along-bound a (suc s) r p h e = omega arith

pub along-fits : (ns is : List ℕ) (k a : ℕ) → elements ns ≤ 2 ^ 31 → IsIn ns is → k < length ns → IsIn (drop k ns) (drop k is) → a * elements (drop k ns) + place (drop k ns) (drop k is) ≡ place ns is
    → a * get_or ns k 0 + get_or is k 0 < 2 ^ 31
along-fits ns is k a small inside h rest e =
    let len : length is ≡ length ns = IsIn-length ns is inside in
    let s = along ns is k h len rest in
    omega (
      arith,
      along-bound (a * get_or ns k 0 + get_or is k 0) (elements (drop (k + 1) ns)) _ _ (elements-pos_in _ _ s.rest) (along-step ns is k a _ h len rest e),
      place-below ns is inside,
    )

factor-pos : (n s p : ℕ) → p < n * s → 0 < n
factor-pos zero s p h = absurd (omega arith)
factor-pos (suc n) s p h = omega arith

-- `index_of`, one axis on
pub record Unfolded (ns ix res : List ℕ) (k left row : ℕ) : Type 0 where
  pub row_is : row / get_or ns k 0 ≡ elements (drop (k + 1) ns)
  pub inside : left % (row / get_or ns k 0) < row / get_or ns k 0
  pub index : take (k + 1) (set ix k (left / (row / get_or ns k 0))) ++ index_at (drop (k + 1) ns) (left % (row / get_or ns k 0)) ≡ res

pub unfolded : (ns ix res : List ℕ) (k left row : ℕ) → k < length ns → k < length ix → row ≡ elements (drop k ns) → left < row → take k ix ++ index_at (drop k ns) left ≡ res → Unfolded ns ix res k left row
unfolded ns ix res k left row h hx r b e =
    let n = get_or ns k 0 in
    let s = elements (drop (k + 1) ns) in
    let dn : drop k ns ≡ n ∷ drop (k + 1) ns = drop_more ns k 0 h in
    let rs : row ≡ s * n + 0 = omega (arith, ap elements dn) in
    let bs : left < n * s = omega arith in
    let np : 0 < n = factor-pos n s left bs in
    let sp : 0 < s = below_product_right n s left bs in
    let q : row / n ≡ s = ap (λ x. x / n) rs ∙ div-mul-add s n 0 np in
    let e1 : take k ix ++ (left / s ∷ index_at (drop (k + 1) ns) (left % s)) ≡ res = ap (λ xs. take k ix ++ index_at xs left) (sym dn) ∙ e in
    record {
      row_is = q;
      inside = rw q (mod_below left s sp);
      index = rw q (rw (take_more_set ix k (left / s) hx, append_assoc) e1);
    }

-- ---- the number of elements

pub elements-zero : (ns : List ℕ) (k : ℕ) → k < length ns → get_or ns k 0 ≡ 0 → elements ns ≡ 0
elements-zero [] k h e = absurd (omega arith)
elements-zero (n ∷ ns) zero h e = rw e (omega arith)
elements-zero (n ∷ ns) (suc k) h e = rw (elements-zero ns k (omega arith) e) (omega arith)

pub elements-positive : (ns : List ℕ) → ((k : ℕ) → k < length ns → get_or ns k 0 ≢ 0) → 0 < elements ns
elements-positive [] h = omega arith
elements-positive (n ∷ ns) h =
    product-positive n (elements ns) (h 0 (omega arith)) (elements-positive ns (λ k b. h (suc k) (omega arith)))
  where
    product-positive : (m n : ℕ) → m ≢ 0 → 0 < n → 0 < m * n
    product-positive zero n h p = absurd (h refl)
    product-positive (suc m) n h p = omega arith

-- a running product stays small
pub product-fits : (ns : List ℕ) (k a : ℕ) → elements ns ≤ 2 ^ 31 → 0 < elements ns → k < length ns → a * elements (drop k ns) ≡ elements ns → a * get_or ns k 0 ≤ 2 ^ 31
product-fits ns k a small p h e =
    let d : elements (drop k ns) ≡ get_or ns k 0 * elements (drop (k + 1) ns) = ap elements (drop_more ns k 0 h) in
    let e1 : a * (get_or ns k 0 * elements (drop (k + 1) ns)) ≡ elements ns = rw d at e in
    let e2 : (a * get_or ns k 0) * elements (drop (k + 1) ns) + 0 ≡ elements ns = omega (arith, e1) in
    let s : 0 < elements (drop (k + 1) ns) = below_product_right (a * get_or ns k 0) (elements (drop (k + 1) ns)) 0 (omega arith) in
    omega (arith, along-bound (a * get_or ns k 0) (elements (drop (k + 1) ns)) 0 (elements ns) s e2)
