-- Rows that are kept in pages of 128 keys.
use Rattle.std.specs.Prelude.{◌≡◌, ℕ, ◌+◌, ◌*◌, ◌/◌, ◌%◌, ◌<◌, ◌≤◌, min, List, [], ◌∷◌, length, map, slice_index, slice_index_or}
use Rattle.std.specs.List.{range_with_len}

-- how many places have a page of their own
unfoldable pub used : List ℕ → ℕ
used [] = 0
used (p ∷ ps) = min p 1 + used ps

-- where the member of a key stands: in the page of its place
unfoldable pub spot_of : List ℕ → ℕ → ℕ
spot_of places k = 128 * slice_index places (k / 128) + k % 128

-- the member of a key
unfoldable pub member : {A : Type 0} → A → List ℕ → List A → ℕ → A
member rest places items k = slice_index_or items (spot_of places k) rest

-- the members of so many keys
abbrev pub members : {A : Type 0} → A → List ℕ → List A → ℕ → List A
members rest places items n = map (member rest places items) (range_with_len 0 n)

-- there is a page for each place that has one of its own, no two places have the same, and page 0 has nothing but the rest
pub record IsPaged {A : Type 0} (rest : A) (places : List ℕ) (items : List A) : Type 0 where
  pub long : length items ≡ 128 * (used places + 1)
  pub within : (i : ℕ) → slice_index places i ≤ used places
  pub apart : (i j : ℕ) → 0 < slice_index places i → slice_index places i ≡ slice_index places j → i ≡ j
  pub blank : (k : ℕ) → k < 128 → slice_index_or items k rest ≡ rest

-- there is a place for each key, and room for a page for each place
pub record IsSheet {A : Type 0} (rest : A) (keys : ℕ) (places : List ℕ) (items : List A) (capacity : ℕ) : Type 0 where
  pub paged : IsPaged rest places items
  pub all : length places ≡ keys / 128 + 1
  pub room : 128 * (length places + 1) ≤ capacity
