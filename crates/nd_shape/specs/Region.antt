-- Boxes of indexes.
use Rattle.std.specs.Prelude.{◌≡◌, ℕ, ◌+◌, ◌<◌, ◌≤◌, List, [], ◌∷◌, length, slice_index}

-- the first index and the length, per axis
pub record Box : Type 0 where
  pub start : List ℕ
  pub lengths : List ℕ

-- the box lies in an array with these lengths, and has as many axes
pub record IsPart (box : Box) (dims : List ℕ) : Type 0 where
  pub starts : length box.start ≡ length dims
  pub lengths : length box.lengths ≡ length dims
  pub ends : (k : ℕ) → k < length dims → slice_index box.start k + slice_index box.lengths k ≤ slice_index dims k

-- an index of a box, counted from the first index of the whole
abbrev pub moved : List ℕ → List ℕ → List ℕ
moved [] is = []
moved (s ∷ ss) [] = []
moved (s ∷ ss) (i ∷ is) = (s + i) ∷ moved ss is
