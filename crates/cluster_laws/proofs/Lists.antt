-- Tests over lists, and truth of joined tests.
use Rattle.std.proofs.Common.{◌≡◌, ℕ, ◌+◌, ◌<◌, ◌≤◌, Bool, true, false, not, cond, List, [], ◌∷◌, refl, sym, ap, ◌∙◌, arith, ⊎_elim}
use Rattle.std.proofs.lemmas.Bool.{or_cases, false≢true, eq-eqb, or_left, or_right}
use Rattle.std.proofs.Math.Dec.{eqb}
use Rattle.std.specs.List.{list_any, AllByRecursion, filter}
use Rattle.small_facts.proofs.Lists.{cons_not_nil}
use Rattle.cluster_rules.specs.Functions.{count}
use Rattle.cluster_rules.specs.Derived.{is_in}

-- where the first holds only if the second does, the second fails only if the first does
pub not_back : (a b : Bool) → (b ≡ true → a ≡ true) → not a ≡ true → not b ≡ true
not_back a true h e = absurd (false≢true (sym (ap not (h refl)) ∙ e))
not_back a false h e = refl

-- what each member passes only where it passes another test
pub any_weaken : (p q : ℕ → Bool) (xs : List ℕ) → ((x : ℕ) → p x ≡ true → q x ≡ true) → list_any p xs ≡ true → list_any q xs ≡ true
any_weaken p q [] h e = e
any_weaken p q (x ∷ xs) h e = ⊎_elim
    (λ a. or_left (q x) (list_any q xs) (h x a))
    (λ a. or_right (q x) (list_any q xs) (any_weaken p q xs h a))
    (or_cases (p x) (list_any p xs) e)

-- the same for the dependencies of a key, which are below it
pub any_weaken_at : (C : ℕ → Type 0) (p q : ℕ → Bool) (xs : List ℕ) (k : ℕ) → AllByRecursion (λ d. d < k) xs → ((d : ℕ) → is_in d xs ≡ true → C d) → ((d : ℕ) → d < k → C d → p d ≡ true → q d ≡ true) → list_any p xs ≡ true → list_any q xs ≡ true
any_weaken_at C p q [] k l sub h e = e
any_weaken_at C p q (x ∷ xs) k l sub h e = ⊎_elim
    (λ a. or_left (q x) (list_any q xs) (h x l.0 (sub x (or_left (eqb x x) (is_in x xs) (eq-eqb x x refl))) a))
    (λ a. or_right (q x) (list_any q xs) (any_weaken_at C p q xs k l.1 (λ d i. sub d (or_right (eqb x d) (is_in d xs) i)) h a))
    (or_cases (p x) (list_any p xs) e)

-- a filter that passes less
pub filter_less : (p q : ℕ → Bool) (xs : List ℕ) → ((x : ℕ) → q x ≡ true → p x ≡ true) → filter p xs ≡ [] → filter q xs ≡ []
filter_less p q [] h e = refl
filter_less p q (x ∷ xs) h e = pick (p x) (q x) (h x) (filter_less p q xs h) e
  where
    pick : (b c : Bool) → (c ≡ true → b ≡ true) → (filter p xs ≡ [] → filter q xs ≡ []) → cond b (x ∷ filter p xs) (filter p xs) ≡ [] → cond c (x ∷ filter q xs) (filter q xs) ≡ []
    pick true c i rest r = absurd (cons_not_nil x (filter p xs) r)
    pick false true i rest r = absurd (false≢true (i refl))
    pick false false i rest r = rest r

-- a count that passes more
pub count_less : (p q : ℕ → Bool) (xs : List ℕ) → ((x : ℕ) → p x ≡ true → q x ≡ true) → count p xs ≤ count q xs
count_less p q [] h = omega arith
count_less p q (x ∷ xs) h = pick (p x) (q x) (h x) (count_less p q xs h)
  where
    pick : (b c : Bool) → (b ≡ true → c ≡ true) → count p xs ≤ count q xs → cond b 1 0 + count p xs ≤ cond c 1 0 + count q xs
    pick true true i r = omega (arith, r)
    pick true false i r = absurd (false≢true (i refl))
    pick false true i r = omega (arith, r)
    pick false false i r = omega (arith, r)
