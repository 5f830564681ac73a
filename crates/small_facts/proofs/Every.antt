-- What holds of each member of a list, by recursion over it.
use Rattle.std.proofs.Common.{◌≡◌, eqb, sym, [], List, ◌∷◌, ◌++◌, ℕ, ◌<◌, ◌≤◌, arith, suc, refl, length, get_or, zero, Bool, true, false, cond, filter, map}
use Rattle.std.proofs.lemmas.Bool.{eqb-true}
use Rattle.std.specs.List.{AllByRecursion}
use Rattle.std.specs.Prelude.{Contains}

pub all_join : {A : Type 0} (P : A → Type 0) (xs ys : List A) → AllByRecursion P xs → AllByRecursion P ys → AllByRecursion P (xs ++ ys)
all_join P [] ys a b = b
all_join P (x ∷ xs) ys a b = (a.0, all_join P xs ys a.1 b)

pub all_weaker : {A : Type 0} (P Q : A → Type 0) → ((x : A) → P x → Q x) → (xs : List A) → AllByRecursion P xs → AllByRecursion Q xs
all_weaker P Q f [] h = tt
all_weaker P Q f (x ∷ xs) h = (f x h.0, all_weaker P Q f xs h.1)

pub all_below_weaker : (k n : ℕ) (xs : List ℕ) → k ≤ n → AllByRecursion (λ d. d < k) xs → AllByRecursion (λ d. d < n) xs
all_below_weaker k n [] l h = tt
all_below_weaker k n (x ∷ xs) l h = (omega (arith, h.0), all_below_weaker k n xs l h.1)

pub all_push : {A : Type 0} (P : A → Type 0) (xs : List A) (x : A) → AllByRecursion P xs → P x → AllByRecursion P (xs ++ x ∷ [])
all_push P [] x h p = (p, tt)
all_push P (y ∷ xs) x h p = (h.0, all_push P xs x h.1 p)

pub all_from_members : (P : ℕ → Type 0) (xs : List ℕ) → ((k : ℕ) → Contains xs k → P k) → AllByRecursion P xs
all_from_members P [] h = tt
all_from_members P (x ∷ xs) h = (h x (0, omega arith, refl), all_from_members P xs (λ k c. h k (suc c.0, omega (arith, c.1), c.2)))

pub all_from_places : (P : ℕ → Type 0) (xs : List ℕ) → ((i : ℕ) → i < length xs → P (get_or xs i 0)) → AllByRecursion P xs
all_from_places P [] h = tt
all_from_places P (x ∷ xs) h = (h 0 (omega arith), all_from_places P xs (λ i l. h (suc i) (omega arith)))

pub all_below_at : (ks : List ℕ) (n j : ℕ) → AllByRecursion (λ k. k < n) ks → j < length ks → get_or ks j 0 < n
all_below_at [] n j a h = absurd (omega arith)
all_below_at (k ∷ ks) n zero a h = a.0
all_below_at (k ∷ ks) n (suc j) a h = all_below_at ks n j a.1 (omega arith)

pub all_of_filter : {A : Type 0} (P : A → Type 0) (q : A → Bool) (xs : List A) → AllByRecursion P xs → AllByRecursion P (filter q xs)
all_of_filter P q [] h = tt
all_of_filter P q (x ∷ xs) h = pick (q x) (all_of_filter P q xs h.1)
  where
    pick : (b : Bool) → AllByRecursion P (filter q xs) → AllByRecursion P (cond b (x ∷ filter q xs) (filter q xs))
    pick true r = (h.0, r)
    pick false r = r

pub all_of_map : {A B : Type 0} (P : B → Type 0) (f : A → B) (xs : List A) → AllByRecursion P (map f xs) → AllByRecursion (λ x. P (f x)) xs
all_of_map P f [] h = tt
all_of_map P f (x ∷ xs) h = (h.0, all_of_map P f xs h.1)

pub unequal_to_each : (a : ℕ) (xs : List ℕ) → (Contains xs a → ⊥) → AllByRecursion (λ x. eqb a x ≡ false) xs
unequal_to_each a [] f = tt
unequal_to_each a (x ∷ xs) f = (differs (eqb a x) refl, unequal_to_each a xs (λ c. f (suc c.0, omega (arith, c.1), c.2)))
  where
    differs : (b : Bool) → eqb a x ≡ b → eqb a x ≡ false
    differs false e = e
    differs true e = absurd (f (0, omega arith, sym (eqb-true a x e)))
