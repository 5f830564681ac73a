-- The shape of a graph of tasks: the dependencies, the work and the bytes of each key.
use Rattle.std.specs.Prelude.{◌≡◌, ℕ, ◌+◌, ◌<◌, ◌≤◌, ◌^◌, List, [], ◌∷◌, ◌++◌, length, slice_index_or}
use Rattle.std.specs.List.Sorted.{IsStrictlyIncreasing}
use Rattle.std.specs.List.{AllByRecursion}

-- a list per fact, each with one member per key
pub record Shape : Type 0 where
  pub deps : List (List ℕ)
  pub work : List ℕ
  pub nbytes : List ℕ

-- how many keys there are
abbrev pub key_count : Shape → ℕ
key_count g = length g.deps

-- the dependencies of a key
abbrev pub deps_of : Shape → ℕ → List ℕ
deps_of g k = slice_index_or g.deps k []

abbrev pub work_of : Shape → ℕ → ℕ
work_of g k = slice_index_or g.work k 0

abbrev pub nbytes_of : Shape → ℕ → ℕ
nbytes_of g k = slice_index_or g.nbytes k 0

abbrev pub total_length : List (List ℕ) → ℕ
total_length [] = 0
total_length (xs ∷ xss) = length xs + total_length xss

-- how many dependencies all keys have together
abbrev pub edge_count : Shape → ℕ
edge_count g = total_length g.deps

-- the graph with one more key
abbrev pub pushed : Shape → List ℕ → ℕ → ℕ → Shape
pushed g deps work nbytes = record { deps = g.deps ++ deps ∷ []; work = g.work ++ work ∷ []; nbytes = g.nbytes ++ nbytes ∷ [] }

-- what the next key of a graph keeps to: its dependencies rise and are below it, and no limit is passed
pub record Follows (g : Shape) (deps : List ℕ) (work nbytes : ℕ) : Type 0 where
  pub room : key_count g < 32768
  pub edges : edge_count g + length deps ≤ 262144
  pub rising : IsStrictlyIncreasing deps
  pub below : AllByRecursion (λ d. d < key_count g) deps
  pub light : work ≤ 2 ^ 46
  pub small : nbytes ≤ 2 ^ 27

-- each dependency is below its key, the dependencies of a key rise, and no limit is passed
pub record IsShape (g : Shape) : Type 0 where
  pub work_each : length g.work ≡ length g.deps
  pub nbytes_each : length g.nbytes ≡ length g.deps
  pub few : length g.deps ≤ 32768
  pub few_edges : edge_count g ≤ 262144
  pub below : (k : ℕ) → AllByRecursion (λ d. d < k) (deps_of g k)
  pub rising : (k : ℕ) → IsStrictlyIncreasing (deps_of g k)
  pub light : (k : ℕ) → work_of g k ≤ 2 ^ 46
  pub small : (k : ℕ) → nbytes_of g k ≤ 2 ^ 27
