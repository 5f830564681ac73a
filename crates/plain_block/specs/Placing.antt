-- A part of an array, put where it belongs.
use Rattle.std.specs.Prelude.{◌≡◌, ◌<◌, ℕ, ℤ, pos, List, slice_index_or}
use Rattle.nd_shape.specs.Index.{place, index_at}
use Rattle.nd_shape.specs.Region.{Box, moved}

-- where the place p of a box is in an array with these lengths
abbrev pub place_in : List ℕ → Box → ℕ → ℕ
place_in dims box p = place dims (moved box.start (index_at box.lengths p))

-- the first so many cells of a part stand in the array where they belong
pub record ArePlaced (dims : List ℕ) (box : Box) (part cells : List ℤ) (count : ℕ) : Type 0 where
  pub each : (p : ℕ) → p < count → slice_index_or cells (place_in dims box p) (pos 0) ≡ slice_index_or part p (pos 0)
