-- A loop over ascending numbers keeps the best so far.
use Rattle.std.proofs.Common.{◌≡◌, ℕ, ◌+◌, Bool, true, false, not, cond, ◌||◌, List, [], ◌∷◌, Option, Some, None, refl, ap, ◌∙◌, arith, map}
use Rattle.std.specs.List.{find, list_any, filter_map, range_with_len, cons_option}
use Rattle.std.specs.Option.{option_map}
use Rattle.cluster_rules.specs.Functions.{from_one}
use Rattle.cluster_rules.specs.Choice.{unbeaten, better}
use Rattle.cluster_rules.proofs.ChoiceLemmas.{IsPreference}
use Rattle.cluster_rules.proofs.ChoiceAppend.{unbeaten-append, unbeaten-push}
use Rattle.cluster_rules.proofs.SchedLemmas.{filter_map-more}

alone : {A : Type 0} (beats : A → A → Bool) → IsPreference beats → (r : Option A) → unbeaten beats (cons_option r []) ≡ r
alone beats o None = refl
alone beats o (Some x) = unbeaten-push beats o [] x

-- one more number
pub best-more : {A : Type 0} (beats : A → A → Bool) → IsPreference beats → (h : ℕ → Option A) (a n : ℕ) → unbeaten beats (filter_map h (range_with_len a (n + 1))) ≡ better beats (unbeaten beats (filter_map h (range_with_len a n))) (h (a + n))
best-more beats o h a n =
    ap (unbeaten beats) (filter_map-more h a n)
    ∙ unbeaten-append beats o (filter_map h (range_with_len a n)) (cons_option (h (a + n)) [])
    ∙ ap (better beats (unbeaten beats (filter_map h (range_with_len a n)))) (alone beats o (h (a + n)))

-- the same for workers, which count from 1
pub best-next : {A : Type 0} (beats : A → A → Bool) → IsPreference beats → (h : ℕ → Option A) (n : ℕ) → unbeaten beats (filter_map h (from_one (n + 1))) ≡ better beats (unbeaten beats (filter_map h (from_one n))) (h (n + 1))
best-next beats o h n =
    let d : 1 + n ≡ n + 1 = omega arith in
    best-more beats o h 1 n ∙ ap (λ m. better beats (unbeaten beats (filter_map h (from_one n))) (h m)) d

any-map : {A B : Type 0} (g : A → B) (p : B → Bool) (xs : List A) → list_any p (map g xs) ≡ list_any (λ x. p (g x)) xs
any-map g p [] = refl
any-map g p (x ∷ xs) = ap (λ b. p (g x) || b) (any-map g p xs)

find-map : {A B : Type 0} (g : A → B) (p : B → Bool) (xs : List A) → find p (map g xs) ≡ option_map g (find (λ x. p (g x)) xs)
find-map g p [] = refl
find-map {A = A} {B = B} g p (x ∷ xs) = pick (p (g x)) (find-map g p xs)
  where
    pick : (b : Bool) → find p (map g xs) ≡ option_map g (find (λ x. p (g x)) xs) → cond b (Some (g x)) (find p (map g xs)) ≡ option_map g (cond b (Some x) (find (λ x. p (g x)) xs))
    pick true e = refl
    pick false e = e

-- the best of images is the image of the best
pub best-map : {A B : Type 0} (g : A → B) (beats : B → B → Bool) (xs : List A) → unbeaten beats (map g xs) ≡ option_map g (unbeaten (λ y x. beats (g y) (g x)) xs)
best-map g beats xs =
    find-map g (λ z. not (list_any (λ y. beats y z) (map g xs))) xs
    ∙ (λ i. option_map g (find (λ x. not (any-map g (λ y. beats y (g x)) xs i)) xs))
