-- Words with the set of those that are not empty.
use Rattle.std.specs.Prelude.{◌≡◌, ℕ, ◌≤◌, ◌^◌, ◌==◌, Bool, not, List, length, slice_index_or}
use Rattle.key_sets.specs.Sets.{has, room}

-- the word is not empty
abbrev pub is_full : List ℕ → ℕ → Bool
is_full words w = not (slice_index_or words w 0 == 0)

pub record IsMarked (words full : List ℕ) : Type 0 where
  pub few : length words ≤ 2 ^ 20
  pub marks_room : length words ≤ room full
  pub marks : (w : ℕ) → has full w ≡ is_full words w
