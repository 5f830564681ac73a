-- The lists of the keys that depend on each key.
use Rattle.std.specs.Prelude.{◌≡◌, ℕ, ◌<◌, true, List, [], length, slice_index_or, All}
use Rattle.cluster_msgs.specs.Shape.{Shape, key_count, deps_of}
use Rattle.cluster_rules.specs.Derived.{is_in}

-- the keys that depend on a key
abbrev pub dependents : List (List ℕ) → ℕ → List ℕ
dependents lists d = slice_index_or lists d []

-- the lists name each of the first n keys at its dependencies, and keys of the graph alone
pub record IsLinkedBelow (g : Shape) (n : ℕ) (lists : List (List ℕ)) : Type 0 where
  pub each : (j d : ℕ) → j < n → is_in d (deps_of g j) ≡ true → is_in j (dependents lists d) ≡ true
  pub within : (d : ℕ) → All (λ j. j < key_count g) (dependents lists d)
  pub long : length lists ≡ key_count g

-- the same of all keys
abbrev pub IsLinked : Shape → List (List ℕ) → Type 0
IsLinked g lists = IsLinkedBelow g (key_count g) lists

-- the lists after this key was named at these dependencies
pub record IsAdded (key : ℕ) (deps : List ℕ) (old new : List (List ℕ)) : Type 0 where
  pub long : length new ≡ length old
  pub there : (d : ℕ) → is_in d deps ≡ true → is_in key (dependents new d) ≡ true
  pub kept : (d j : ℕ) → is_in j (dependents old d) ≡ true → is_in j (dependents new d) ≡ true
  pub within : (n d : ℕ) → key < n → All (λ j. j < n) (dependents old d) → All (λ j. j < n) (dependents new d)
