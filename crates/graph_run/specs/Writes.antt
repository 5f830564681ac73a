-- One value written at some places of a list.
use Rattle.std.specs.Prelude.{◌≡◌, ◌⊎◌, ℕ, List, length, slice_index_or, Contains}

-- the value was written at those of these places of which P holds, and nothing else was
pub record IsWritten {A : Type 0} (P : ℕ → Type 0) (default value : A) (places : List ℕ) (old new : List A) : Type 0 where
  pub same_length : length new ≡ length old
  pub written : (k : ℕ) → Contains places k → P k → slice_index_or new k default ≡ value
  pub others : (k : ℕ) → (slice_index_or new k default ≡ slice_index_or old k default) ⊎ (Contains places k × P k × (slice_index_or new k default ≡ value))
