-- The last use of each key's block.
use Rattle.std.specs.Prelude.{◌≡◌, ◌<◌, ◌≤◌, ◌⊎◌, ℕ, List, length, slice_index, Contains}

-- among so many keys the last one that depends on key d, or d itself where none does
pub record IsLastUse (deps : ℕ → List ℕ) (count d last : ℕ) : Type 0 where
  pub after_all : (k : ℕ) → k < count → Contains (deps k) d → k ≤ last
  pub is_one : (last ≡ d) ⊎ ((last < count) × Contains (deps last) d)

-- the last use of each of so many keys
pub record AreLastUses (deps : ℕ → List ℕ) (count : ℕ) (last : List ℕ) : Type 0 where
  pub counted : length last ≡ count
  pub each : (d : ℕ) → d < count → IsLastUse deps count d (slice_index last d)

-- some key from this one on depends on key d
abbrev pub IsUsedFrom : (ℕ → List ℕ) → ℕ → ℕ → Type 0
IsUsedFrom deps next d = (k : ℕ) × (next ≤ k) × Contains (deps k) d
