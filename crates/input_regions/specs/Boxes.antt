-- The least box of a set of indexes.
use Rattle.std.specs.Prelude.{◌≡◌, ◌+◌, ◌<◌, ◌≤◌, ℕ, List, length, slice_index, Option, Some, None}
use Rattle.nd_shape.specs.Region.{Box}

-- the index lies in the box
pub record IsInBox (box : Box) (i : List ℕ) : Type 0 where
  pub axes : length i ≡ length box.start
  pub low : (a : ℕ) → a < length box.start → slice_index box.start a ≤ slice_index i a
  pub high : (a : ℕ) → a < length box.start → slice_index i a < slice_index box.start a + slice_index box.lengths a

-- the index lies in a box that there is
abbrev pub IsInRegion : Option Box → List ℕ → Type 0
IsInRegion None i = ⊥
IsInRegion (Some box) i = IsInBox box i

-- the box has all of a set that isn't empty, and on each axis it begins at one of them and ends at one of them
pub record IsLeastBox (P : List ℕ → Type 0) (box : Box) : Type 0 where
  pub sides : length box.lengths ≡ length box.start
  pub has : (i : List ℕ) → P i → IsInBox box i
  pub some : (i : List ℕ) × P i
  pub first : (a : ℕ) → a < length box.start → (i : List ℕ) × P i × (slice_index i a ≡ slice_index box.start a)
  pub last : (a : ℕ) → a < length box.start → (i : List ℕ) × P i × (slice_index i a + 1 ≡ slice_index box.start a + slice_index box.lengths a)

-- the least box of a set, or none where the set is empty
abbrev pub IsLeast : (List ℕ → Type 0) → Option Box → Type 0
IsLeast P None = (i : List ℕ) → P i → ⊥
IsLeast P (Some box) = IsLeastBox P box
