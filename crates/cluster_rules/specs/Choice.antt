-- The best among several: the first member that no member beats.
use Rattle.std.specs.Prelude.{◌≡◌, ℕ, ◌==◌, nat_lt, Bool, true, false, not, ◌&&◌, ◌||◌, List, [], ◌∷◌, Option, Some, None, find, cond}
use Rattle.std.specs.List.{list_any, Contains}

-- the order of a dictionary
abbrev pub is_before : List ℕ → List ℕ → Bool
is_before [] [] = false
is_before [] (y ∷ ys) = true
is_before (x ∷ xs) [] = false
is_before (x ∷ xs) (y ∷ ys) = nat_lt x y || (x == y && is_before xs ys)

-- the first member that no member beats
abbrev pub unbeaten : {A : Type 0} → (A → A → Bool) → List A → Option A
unbeaten beats xs = find (λ x. not (list_any (λ y. beats y x) xs)) xs

-- the member with the least rank, the first of several
abbrev pub least_by : {A : Type 0} → (A → List ℕ) → List A → Option A
least_by rank xs = unbeaten (λ y x. is_before (rank y) (rank x)) xs

-- a member that no member beats
pub record IsBest {A : Type 0} (beats : A → A → Bool) (xs : List A) (x : A) : Type 0 where
  pub member : Contains xs x
  pub best : (y : A) → Contains xs y → beats y x ≡ false

-- a member with the least rank
abbrev pub IsLeast : {A : Type 0} → (A → List ℕ) → List A → A → Type 0
IsLeast rank xs x = IsBest (λ y z. is_before (rank y) (rank z)) xs x

-- the list's best, or nothing where it is empty
abbrev pub IsBestOf : {A : Type 0} → (A → A → Bool) → List A → Option A → Type 0
IsBestOf beats xs None = xs ≡ []
IsBestOf beats xs (Some x) = IsBest beats xs x

abbrev pub IsLeastOf : {A : Type 0} → (A → List ℕ) → List A → Option A → Type 0
IsLeastOf rank xs o = IsBestOf (λ y z. is_before (rank y) (rank z)) xs o

-- the better of two, the first where neither beats the other
abbrev pub better : {A : Type 0} → (A → A → Bool) → Option A → Option A → Option A
better beats None o = o
better beats (Some y) None = Some y
better beats (Some y) (Some z) = cond (beats z y) (Some z) (Some y)
