-- The members of lists that are filtered, mapped, joined or counted up.
use Rattle.std.proofs.Common.{◌≡◌, ℕ, zero, suc, ◌+◌, ◌<◌, ◌≤◌, Bool, true, false, cond, ◌||◌, List, [], ◌∷◌, refl, sym, ap, ◌∙◌, subst, arith, ⊎_elim, map}
use Rattle.std.proofs.lemmas.Bool.{false≢true}
use Rattle.std.proofs.lemmas.List.Elements.{Contains-append_cases, Contains-append_left, Contains-append_right}
use Rattle.std.specs.List.{filter, flat_map, range_with_len, list_any, Contains}
use Rattle.std.proofs.Math.Bool.{or-true}
use Rattle.cluster_rules.specs.Functions.{total, count}
use Rattle.cluster_rules.proofs.ChoiceLemmas.{contains_head, contains_tail, contains_cases, contains_none}

pub filter_from : {A : Type 0} (p : A → Bool) (xs : List A) (y : A) → Contains (filter p xs) y → Contains xs y × (p y ≡ true)
filter_from p [] y h = absurd (contains_none y h)
filter_from {A = A} p (x ∷ xs) y h = pick (p x) refl h (filter_from p xs y)
  where
    pick : (b : Bool) → p x ≡ b → Contains (cond b (x ∷ filter p xs) (filter p xs)) y → (Contains (filter p xs) y → Contains xs y × (p y ≡ true)) → Contains (x ∷ xs) y × (p y ≡ true)
    pick true e m rest = ⊎_elim
        (λ s. (subst (λ z. Contains (x ∷ xs) z) s (contains_head x xs), ap p (sym s) ∙ e))
        (λ t. let r = rest t in (contains_tail x xs y r.0, r.1))
        (contains_cases x (filter p xs) y m)
    pick false e m rest = let r = rest m in (contains_tail x xs y r.0, r.1)

pub filter_to : {A : Type 0} (p : A → Bool) (xs : List A) (y : A) → Contains xs y → p y ≡ true → Contains (filter p xs) y
filter_to p [] y h e = absurd (contains_none y h)
filter_to {A = A} p (x ∷ xs) y h e = pick (p x) refl (λ t. filter_to p xs y t e)
  where
    pick : (b : Bool) → p x ≡ b → (Contains xs y → Contains (filter p xs) y) → Contains (cond b (x ∷ filter p xs) (filter p xs)) y
    pick true q rest = ⊎_elim
        (λ s. subst (λ z. Contains (x ∷ filter p xs) z) s (contains_head x (filter p xs)))
        (λ t. contains_tail x (filter p xs) y (rest t))
        (contains_cases x xs y h)
    pick false q rest = ⊎_elim (λ s. absurd (false≢true (sym q ∙ ap p s ∙ e))) rest (contains_cases x xs y h)

pub map_to : {A B : Type 0} (g : A → B) (xs : List A) (x : A) → Contains xs x → Contains (map g xs) (g x)
map_to g [] x h = absurd (contains_none x h)
map_to g (z ∷ zs) x h = ⊎_elim
    (λ s. subst (λ v. Contains (g z ∷ map g zs) (g v)) s (contains_head (g z) (map g zs)))
    (λ t. contains_tail (g z) (map g zs) (g x) (map_to g zs x t))
    (contains_cases z zs x h)

pub map_from : {A B : Type 0} (g : A → B) (xs : List A) (y : B) → Contains (map g xs) y → (x : A) × Contains xs x × (g x ≡ y)
map_from g [] y h = absurd (contains_none y h)
map_from {A = A} g (z ∷ zs) y h = ⊎_elim (λ s. (z, contains_head z zs, s)) (λ t. later (map_from g zs y t)) (contains_cases (g z) (map g zs) y h)
  where
    later : (x : A) × Contains zs x × (g x ≡ y) → (x : A) × Contains (z ∷ zs) x × (g x ≡ y)
    later (x, m, e) = (x, contains_tail z zs x m, e)

pub flat_map_to : {A B : Type 0} (g : A → List B) (xs : List A) (x : A) (y : B) → Contains xs x → Contains (g x) y → Contains (flat_map g xs) y
flat_map_to g [] x y h m = absurd (contains_none x h)
flat_map_to g (z ∷ zs) x y h m = ⊎_elim
    (λ s. Contains-append_left (g z) (flat_map g zs) y (subst (λ v. Contains (g v) y) (sym s) m))
    (λ t. Contains-append_right (g z) (flat_map g zs) y (flat_map_to g zs x y t m))
    (contains_cases z zs x h)

pub flat_map_from : {A B : Type 0} (g : A → List B) (xs : List A) (y : B) → Contains (flat_map g xs) y → (x : A) × Contains xs x × Contains (g x) y
flat_map_from g [] y h = absurd (contains_none y h)
flat_map_from {A = A} g (z ∷ zs) y h = ⊎_elim (λ s. (z, contains_head z zs, s)) (λ t. later (flat_map_from g zs y t)) (Contains-append_cases (g z) (flat_map g zs) y h)
  where
    later : (x : A) × Contains zs x × Contains (g x) y → (x : A) × Contains (z ∷ zs) x × Contains (g x) y
    later (x, m, e) = (x, contains_tail z zs x m, e)

pub range_from : (a n x : ℕ) → Contains (range_with_len a n) x → (a ≤ x) × (x < a + n)
range_from a zero x h = absurd (contains_none x h)
range_from a (suc n) x h = ⊎_elim
    (λ e. (omega arith, omega arith))
    (λ t. let r = range_from (a + 1) n x t in (omega (arith, r.0), omega (arith, r.1)))
    (contains_cases a (range_with_len (a + 1) n) x h)

-- a test that some member passes
pub any_some : {A : Type 0} (p : A → Bool) (xs : List A) (y : A) → Contains xs y → p y ≡ true → list_any p xs ≡ true
any_some p [] y h e = absurd (contains_none y h)
any_some p (x ∷ xs) y h e = ⊎_elim
    (λ s. ap (λ b. b || list_any p xs) (ap p s ∙ e))
    (λ t. ap (λ b. p x || b) (any_some p xs y t e) ∙ or-true (p x))
    (contains_cases x xs y h)

-- where the count is not 0, some member passes
pub counted : (p : ℕ → Bool) (xs : List ℕ) → 0 < count p xs → (x : ℕ) × Contains xs x × (p x ≡ true)
counted p [] h = absurd (omega arith)
counted p (x ∷ xs) h = pick (p x) refl (counted p xs)
  where
    later : (y : ℕ) × Contains xs y × (p y ≡ true) → (y : ℕ) × Contains (x ∷ xs) y × (p y ≡ true)
    later (y, m, e) = (y, contains_tail x xs y m, e)

    pick : (b : Bool) → p x ≡ b → (0 < count p xs → (y : ℕ) × Contains xs y × (p y ≡ true)) → (y : ℕ) × Contains (x ∷ xs) y × (p y ≡ true)
    pick true e rest = (x, contains_head x xs, e)
    pick false e rest = later (rest (more e))
      where
        more : p x ≡ false → 0 < total (λ z. cond (p z) 1 0) xs
        more q = let g : 0 < 0 + total (λ z. cond (p z) 1 0) xs = subst (λ b. 0 < cond b 1 0 + total (λ z. cond (p z) 1 0) xs) q h in omega arith
