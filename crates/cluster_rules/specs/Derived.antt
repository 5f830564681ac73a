-- What is derived of a key from the facts of all keys: erred, and reached from a start.
use Rattle.std.specs.Prelude.{ℕ, zero, suc, ◌<◌, ◌==◌, Bool, false, not, ◌&&◌, ◌||◌, List}
use Rattle.std.specs.List.{list_any, range_with_len, AllByRecursion}

-- dependencies have smaller numbers
abbrev pub IsBelow : (ℕ → List ℕ) → Type 0
IsBelow deps = (k : ℕ) → AllByRecursion (λ d. d < k) (deps k)

-- the keys below n, ascending
abbrev pub below : ℕ → List ℕ
below n = range_with_len 0 n

abbrev pub is_in : ℕ → List ℕ → Bool
is_in k ks = list_any (λ d. d == k) ks

-- not held, and bad or with an erred dependency
abbrev pub err_step : (ℕ → List ℕ) → (ℕ → Bool) → (ℕ → Bool) → (ℕ → Bool) → ℕ → Bool
err_step deps held bad errs k = not (held k) && (bad k || list_any errs (deps k))

-- the same, seen this many steps down
abbrev pub err_in : (ℕ → List ℕ) → (ℕ → Bool) → (ℕ → Bool) → ℕ → ℕ → Bool
err_in deps held bad zero k = false
err_in deps held bad (suc f) k = err_step deps held bad (λ d. err_in deps held bad f d) k

-- a key has erred. Its dependencies have smaller numbers, so as many steps as its number are enough
unfoldable pub err : (ℕ → List ℕ) → (ℕ → Bool) → (ℕ → Bool) → ℕ → Bool
err deps held bad k = err_in deps held bad (suc k) k

-- a start, or a dependency of a reached key that passes
abbrev pub reach_step : (ℕ → List ℕ) → ℕ → (ℕ → Bool) → (ℕ → Bool) → (ℕ → Bool) → ℕ → Bool
reach_step deps n start pass reached k = start k || list_any (λ j. is_in k (deps j) && (pass j && reached j)) (below n)

abbrev pub reach_in : (ℕ → List ℕ) → ℕ → (ℕ → Bool) → (ℕ → Bool) → ℕ → ℕ → Bool
reach_in deps n start pass zero k = false
reach_in deps n start pass (suc f) k = reach_step deps n start pass (λ j. reach_in deps n start pass f j) k

-- reached from a start down the dependencies, through keys that pass. A walk has at most as many steps as there are keys
unfoldable pub reach : (ℕ → List ℕ) → ℕ → (ℕ → Bool) → (ℕ → Bool) → ℕ → Bool
reach deps n start pass k = reach_in deps n start pass (suc n) k
