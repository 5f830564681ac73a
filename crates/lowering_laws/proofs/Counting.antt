-- Sums over numbers of which each stands once.
use Rattle.std.proofs.Common.{◌≡◌, ◌≢◌, ℕ, zero, suc, ◌+◌, ◌*◌, ◌<◌, ◌≤◌, cond, List, [], ◌∷◌, length, map, get_or, refl, ap, ◌∙◌, arith, inl, inr}
use Rattle.std.specs.Prelude.{nat_eq}
use Rattle.std.specs.List.{AllByRecursion}
use Rattle.std.proofs.lemmas.Bool.{cases_eq}
use Rattle.std.proofs.Math.Nat.{add_assoc}
use Rattle.nd_shape.specs.Chunk.{total}
use Rattle.cluster_msgs.specs.Shape.{total_length}

-- the sum of what stands for the numbers below n
abbrev pub sum_below : ℕ → (ℕ → ℕ) → ℕ
sum_below zero f = 0
sum_below (suc n) f = sum_below n f + f n

abbrev pub sum_over : List ℕ → (ℕ → ℕ) → ℕ
sum_over [] f = 0
sum_over (k ∷ ks) f = f k + sum_over ks f

abbrev without : ℕ → (ℕ → ℕ) → ℕ → ℕ
without k f j = cond (nat_eq k j) 0 (f j)

here : (k j : ℕ) (f : ℕ → ℕ) → k ≡ j → without k f j ≡ 0
here k j f e = grind arith

other : (k j : ℕ) (f : ℕ → ℕ) → k ≢ j → without k f j ≡ f j
other k j f e = grind arith

below-past : (n k : ℕ) (f : ℕ → ℕ) → n ≤ k → sum_below n (without k f) ≡ sum_below n f
below-past zero k f h = refl
below-past (suc n) k f h =
    let r = below-past n k f (omega arith) in
    let o : without k f n ≡ f n = other k n f (omega arith) in
    ap (λ s. s + without k f n) r ∙ ap (λ x. sum_below n f + x) o

below-without : (n k : ℕ) (f : ℕ → ℕ) → k < n → f k + sum_below n (without k f) ≡ sum_below n f
below-without zero k f h = absurd (omega arith)
below-without (suc n) k f h = elim (cases_eq k n) [
  | inl e ↦
      let p = below-past n k f (omega arith) in
      let z : without k f n ≡ 0 = here k n f e in
      let same : f k ≡ f n = ap f e in
      at-end (f k) (sum_below n (without k f)) (without k f n) (sum_below n f) (f n) p z same
  | inr d ↦
      let r = below-without n k f (omega arith) in
      let o : without k f n ≡ f n = other k n f d in
      inside (f k) (sum_below n (without k f)) (without k f n) (sum_below n f) (f n) r o
]
  where
    at-end : (a s w t b : ℕ) → s ≡ t → w ≡ 0 → a ≡ b → a + (s + w) ≡ t + b
    at-end a s w t b p z e = omega arith

    inside : (a s w t b : ℕ) → a + s ≡ t → w ≡ b → a + (s + w) ≡ t + b
    inside a s w t b r o = omega arith

over-without : (ks : List ℕ) (k : ℕ) (f : ℕ → ℕ) → AllByRecursion (λ j. k ≢ j) ks → sum_over ks (without k f) ≡ sum_over ks f
over-without [] k f h = refl
over-without (j ∷ ks) k f h = ap (λ x. x + sum_over ks (without k f)) (other k j f h.0) ∙ ap (λ s. f j + s) (over-without ks k f h.1)

abbrev pub AreDistinct : List ℕ → Type 0
AreDistinct [] = Unit {0}
AreDistinct (k ∷ ks) = AllByRecursion (λ j. k ≢ j) ks × AreDistinct ks

-- numbers below n, each once, have at most the sum of all numbers below n
pub distinct-sum : (ks : List ℕ) (n : ℕ) (f : ℕ → ℕ) → AreDistinct ks → AllByRecursion (λ k. k < n) ks → sum_over ks f ≤ sum_below n f
distinct-sum [] n f d b = omega arith
distinct-sum (k ∷ ks) n f d b =
    let r : sum_over ks (without k f) ≤ sum_below n (without k f) = distinct-sum ks n (without k f) d.1 b.1 in
    let o : sum_over ks (without k f) ≡ sum_over ks f = over-without ks k f d.0 in
    let w : f k + sum_below n (without k f) ≡ sum_below n f = below-without n k f b.0 in
    bound (f k) (sum_over ks (without k f)) (sum_below n (without k f)) (sum_over ks f) (sum_below n f) r o w
  where
    bound : (a s t u v : ℕ) → s ≤ t → s ≡ u → a + t ≡ v → a + u ≤ v
    bound a s t u v r o w = omega arith

all-index : (ks : List ℕ) (P : ℕ → Type 0) → ((i : ℕ) → i < length ks → P (get_or ks i 0)) → AllByRecursion P ks
all-index [] P h = tt
all-index (k ∷ ks) P h = (h 0 (omega arith), all-index ks P (λ i l. h (suc i) (omega arith)))

pub distinct-from : (ks : List ℕ) → ((i j : ℕ) → i < j → j < length ks → get_or ks i 0 ≢ get_or ks j 0) → AreDistinct ks
distinct-from [] h = tt
distinct-from (k ∷ ks) h = (all-index ks (λ j. k ≢ j) (λ i l. h 0 (suc i) (omega arith) (omega arith)), distinct-from ks (λ i j a b. h (suc i) (suc j) (omega arith) (omega arith)))

-- ---- lists

pub sum-ones : (ks : List ℕ) → sum_over ks (λ k. 1) ≡ length ks
sum-ones [] = refl
sum-ones (k ∷ ks) = ap (λ s. 1 + s) (sum-ones ks) ∙ omega arith

pub below-ones : (n : ℕ) → sum_below n (λ k. 1) ≡ n
below-ones zero = refl
below-ones (suc n) = ap (λ s. s + 1) (below-ones n) ∙ omega arith

below-shift : (n : ℕ) (f : ℕ → ℕ) → sum_below (suc n) f ≡ f 0 + sum_below n (λ k. f (suc k))
below-shift zero f = omega arith
below-shift (suc n) f =
    let r : sum_below (suc n) f ≡ f 0 + sum_below n (λ k. f (suc k)) = below-shift n f in
    ap (λ s. s + f (suc n)) r ∙ add_assoc (f 0) (sum_below n (λ k. f (suc k))) (f (suc n))

-- the members of a list of lists
pub total-below : (xss : List (List ℕ)) → sum_below (length xss) (λ k. length (get_or xss k [])) ≡ total_length xss
total-below [] = refl
total-below (xs ∷ xss) = below-shift (length xss) (λ k. length (get_or (xs ∷ xss) k [])) ∙ ap (λ s. length xs + s) (total-below xss)

-- so many numbers of which none passes a bound
pub total-bounded : (xs : List ℕ) (f : ℕ → ℕ) (bound : ℕ) → ((x : ℕ) → f x ≤ bound) → total (map f xs) ≤ length xs * bound
total-bounded [] f bound h = omega arith
total-bounded (x ∷ xs) f bound h = let r = total-bounded xs f bound h in step (f x) (total (map f xs)) (length xs) bound (h x) r
  where
    step : (a s n b : ℕ) → a ≤ b → s ≤ n * b → a + s ≤ suc n * b
    step a s n b h r = omega (arith, h, r)
