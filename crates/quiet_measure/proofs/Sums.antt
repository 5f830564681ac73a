-- Sums whose terms are the same but at one place.
use Rattle.std.proofs.Common.{◌≡◌, ℕ, zero, suc, ◌+◌, ◌≤◌, ◌<◌, Bool, true, false, List, [], ◌∷◌, ◌++◌, refl, sym, ◌∙◌, subst, arith, ⊎_elim}
use Rattle.std.specs.List.{Contains, range_with_len}
use Rattle.std.proofs.Math.Dec.{eqb}
use Rattle.std.proofs.lemmas.Bool.{false≢true, eqb-true, cases_lt}
use Rattle.std.proofs.lemmas.Bool.{eq-eqb}
use Rattle.cluster_rules.specs.Functions.{total}
use Rattle.cluster_rules.proofs.ChoiceLemmas.{contains_cases, contains_none}
use Rattle.quiet_measure.specs.Weights.{sum_of}

pub total_at_most : (h g : ℕ → ℕ) (xs : List ℕ) → ((x : ℕ) → h x ≤ g x) → total h xs ≤ total g xs
total_at_most h g [] a = omega arith
total_at_most h g (x ∷ xs) a =
    let rest : total h xs ≤ total g xs = total_at_most h g xs a in
    let first : h x ≤ g x = a x in
    omega arith

-- no term is more, and the one at a member is less by n
pub total_falls : (h g : ℕ → ℕ) (n x : ℕ) (xs : List ℕ) → ((y : ℕ) → h y ≤ g y) → Contains xs x → h x + n ≤ g x → total h xs + n ≤ total g xs
total_falls h g n x [] a m f = absurd (contains_none x m)
total_falls h g n x (y ∷ ys) a m f = ⊎_elim here (there (λ t. total_falls h g n x ys a t f)) (contains_cases y ys x m)
  where
    here : y ≡ x → (h y + total h ys) + n ≤ g y + total g ys
    here e =
        let rest : total h ys ≤ total g ys = total_at_most h g ys a in
        let first : h y + n ≤ g y = subst (λ z. h z + n ≤ g z) (sym e) f in
        omega arith

    there : (Contains ys x → total h ys + n ≤ total g ys) → Contains ys x → (h y + total h ys) + n ≤ g y + total g ys
    there again t =
        let rest : total h ys + n ≤ total g ys = again t in
        let first : h y ≤ g y = a y in
        omega arith

pub sum_at_most : {A : Type 0} (h g : A → ℕ) (xs : List A) → ((x : A) → h x ≤ g x) → sum_of h xs ≤ sum_of g xs
sum_at_most h g [] a = omega arith
sum_at_most h g (x ∷ xs) a =
    let rest : sum_of h xs ≤ sum_of g xs = sum_at_most h g xs a in
    let first : h x ≤ g x = a x in
    omega arith

pub sum_append : {A : Type 0} (g : A → ℕ) (xs ys : List A) → sum_of g (xs ++ ys) ≡ sum_of g xs + sum_of g ys
sum_append g [] ys = omega arith
sum_append g (x ∷ xs) ys = let rest : sum_of g (xs ++ ys) ≡ sum_of g xs + sum_of g ys = sum_append g xs ys in omega arith

-- ## Over numbers in a row

-- past the place
pub total_before : (h g : ℕ → ℕ) (i a n : ℕ) → ((y : ℕ) → eqb y i ≡ false → h y ≤ g y) → i < a → total h (range_with_len a n) ≤ total g (range_with_len a n)
total_before h g i a zero o l = omega arith
total_before h g i a (suc n) o l = let rest : total h (range_with_len (a + 1) n) ≤ total g (range_with_len (a + 1) n) = total_before h g i (a + 1) n o (omega arith) in
    let here : h a ≤ g a = o a (apart (eqb a i) refl) in omega arith
  where
    apart : (b : Bool) → eqb a i ≡ b → b ≡ false
    apart true e = absurd (let same : a ≡ i = eqb-true a i e in omega arith)
    apart false e = refl

-- the same, of the terms that are summed
pub total_gain_past : (h g : ℕ → ℕ) (i a n : ℕ) → ((y : ℕ) → y < a + n → eqb y i ≡ false → h y ≤ g y) → i < a → total h (range_with_len a n) ≤ total g (range_with_len a n)
total_gain_past h g i a zero o l = omega arith
total_gain_past h g i a (suc n) o l = let rest : total h (range_with_len (a + 1) n) ≤ total g (range_with_len (a + 1) n) = total_gain_past h g i (a + 1) n (λ y m. o y (omega arith)) (omega arith) in
    let here : h a ≤ g a = o a (omega arith) (apart (eqb a i) refl) in omega arith
  where
    apart : (b : Bool) → eqb a i ≡ b → b ≡ false
    apart true e = absurd (let same : a ≡ i = eqb-true a i e in omega arith)
    apart false e = refl

-- one term may be more by what another sum is less
pub total_gain : (h g : ℕ → ℕ) (q i a n : ℕ) → ((y : ℕ) → y < a + n → eqb y i ≡ false → h y ≤ g y) → h i ≤ g i + q → total h (range_with_len a n) ≤ total g (range_with_len a n) + q
total_gain h g q i a zero o f = omega arith
total_gain h g q i a (suc n) o f = by (eqb a i) refl (total_gain h g q i (a + 1) n (λ y l. o y (omega arith)) f) (total_gain_past h g i (a + 1) n (λ y l. o y (omega arith)))
  where
    by : (b : Bool) → eqb a i ≡ b → total h (range_with_len (a + 1) n) ≤ total g (range_with_len (a + 1) n) + q
        → (i < a + 1 → total h (range_with_len (a + 1) n) ≤ total g (range_with_len (a + 1) n))
        → h a + total h (range_with_len (a + 1) n) ≤ (g a + total g (range_with_len (a + 1) n)) + q
    by true e again rest =
        let same : a ≡ i = eqb-true a i e in
        let here : h a ≤ g a + q = subst (λ z. h z ≤ g z + q) (sym same) f in
        let there : total h (range_with_len (a + 1) n) ≤ total g (range_with_len (a + 1) n) = rest (omega arith) in
        omega arith
    by false e again rest = let here : h a ≤ g a = o a (omega arith) e in omega arith

-- the same, with a fall at the place
pub total_trade : (h g : ℕ → ℕ) (p q i a n : ℕ) → ((y : ℕ) → eqb y i ≡ false → h y ≤ g y) → h i + p ≤ g i + q → a ≤ i → i < a + n
    → total h (range_with_len a n) + p ≤ total g (range_with_len a n) + q
total_trade h g p q i a zero o f l m = absurd (omega arith)
total_trade h g p q i a (suc n) o f l m = by (eqb a i) refl (λ x y. total_trade h g p q i (a + 1) n o f x y)
  where
    by : (b : Bool) → eqb a i ≡ b
        → (a + 1 ≤ i → i < (a + 1) + n → total h (range_with_len (a + 1) n) + p ≤ total g (range_with_len (a + 1) n) + q)
        → (h a + total h (range_with_len (a + 1) n)) + p ≤ (g a + total g (range_with_len (a + 1) n)) + q
    by true e again =
        let same : a ≡ i = eqb-true a i e in
        let here : h a + p ≤ g a + q = subst (λ z. h z + p ≤ g z + q) (sym same) f in
        let there : total h (range_with_len (a + 1) n) ≤ total g (range_with_len (a + 1) n) = total_before h g i (a + 1) n o (omega arith) in
        omega arith
    by false e again =
        let here : h a ≤ g a = o a e in
        let rest : total h (range_with_len (a + 1) n) + p ≤ total g (range_with_len (a + 1) n) + q = again (more (apart e)) (omega arith) in
        omega arith
      where
        apart : eqb a i ≡ false → a ≡ i → ⊥
        apart e s = false≢true (sym e ∙ eq-eqb a i s)

        more : (a ≡ i → ⊥) → a + 1 ≤ i
        more n = ⊎_elim (λ x. omega arith) (λ x. absurd (n (omega arith))) (cases_lt a i)
