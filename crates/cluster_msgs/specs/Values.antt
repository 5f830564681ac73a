-- The value of each key of a job, and the keys at fault. Nothing stands for Bad: no value.
-- A job is seen here as the dependencies of each key, and as its operation on the values of those, which gives nothing
-- where it meets a zero divisor.
use Rattle.std.specs.Prelude.{ℕ, ◌==◌, Bool, false, ◌&&◌, ◌||◌, List, [], ◌∷◌, Option, Some, None, is_some, is_none, option_and_then}
use Rattle.std.specs.List.{list_any, list_all}
use Rattle.cluster_msgs.specs.Dags.{dag}

abbrev pub with_first : {A : Type 0} → Option A → Option (List A) → Option (List A)
with_first None xs = None
with_first (Some x) None = None
with_first (Some x) (Some xs) = Some (x ∷ xs)

-- all of them, or nothing where one is missing
abbrev pub all_of : {A : Type 0} → List (Option A) → Option (List A)
all_of [] = Some []
all_of (x ∷ xs) = with_first x (all_of xs)

-- what the operation of a key makes of what its dependencies have
abbrev pub val_step : {V : Type 0} → (ℕ → List V → Option V) → ℕ → List (Option V) → Option V
val_step op k vs = option_and_then (op k) (all_of vs)

-- the value of a key: its operation over the values of its dependencies
unfoldable pub val : {V : Type 0} → (ℕ → List ℕ) → (ℕ → List V → Option V) → ℕ → Option V
val deps op k = dag deps (val_step op) None k

abbrev pub is_true : Bool → Bool
is_true b = b

-- the key itself, or in the cone of a dependency
abbrev pub cone_step : ℕ → ℕ → List Bool → Bool
cone_step j k below = (k == j) || list_any is_true below

-- whether j is in the cone of k: k and all that it depends on, directly or not
unfoldable pub cone : (ℕ → List ℕ) → ℕ → ℕ → Bool
cone deps k j = dag deps (cone_step j) false k

-- whether j is in the cone of one of these keys
abbrev pub needed : (ℕ → List ℕ) → List ℕ → ℕ → Bool
needed deps wanted j = list_any (λ k. cone deps k j) wanted

-- whether each dependency of a key has a value, and the key has none: its own operation meets a zero divisor
abbrev pub faulty : {V : Type 0} → (ℕ → List ℕ) → (ℕ → Option V) → ℕ → Bool
faulty deps value k = list_all (λ d. is_some (value d)) (deps k) && is_none (value k)
