-- The links of keys: down to the dependencies, or up to the dependents.
use Rattle.std.specs.Prelude.{◌≡◌, ℕ, ◌<◌, nat_lt, ◌&&◌, ◌++◌, ◌∷◌, cond, List, [], slice_index_or, length}
use Rattle.std.specs.List.{AllByRecursion}
use Rattle.std.specs.List.Sorted.{IsStrictlyIncreasing}
use Rattle.cluster_msgs.specs.Shape.{Shape, key_count, deps_of}
use Rattle.cluster_rules.specs.Derived.{is_in}

abbrev pub linked_to : List (List ℕ) → ℕ → List ℕ
linked_to links k = slice_index_or links k []

-- the list of a key after this one was added to the lists of these keys
abbrev pub with_link : List (List ℕ) → List ℕ → ℕ → ℕ → List ℕ
with_link links keys key j = cond (is_in j keys) (linked_to links j ++ key ∷ []) (linked_to links j)

-- each key leads to those that depend on it
pub record IsReverse (g : Shape) (links : List (List ℕ)) : Type 0 where
  pub same : length links ≡ key_count g
  pub each : (j k : ℕ) → j < key_count g → k < key_count g → is_in k (linked_to links j) ≡ is_in j (deps_of g k)
  pub above : (k : ℕ) → AllByRecursion (λ d. k < d) (linked_to links k)

-- the same of the dependents below this key
pub record IsReverseBelow (g : Shape) (links : List (List ℕ)) (n : ℕ) : Type 0 where
  pub same : length links ≡ key_count g
  pub each : (j k : ℕ) → j < key_count g → k < key_count g → is_in k (linked_to links j) ≡ (nat_lt k n && is_in j (deps_of g k))
  pub above : (k : ℕ) → AllByRecursion (λ d. k < d) (linked_to links k)
  pub low : (k : ℕ) → AllByRecursion (λ d. d < n) (linked_to links k)
  pub rising : (k : ℕ) → IsStrictlyIncreasing (linked_to links k)
