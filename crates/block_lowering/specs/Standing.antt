-- Layouts that stand for others in a graph that is too large for them.
use Rattle.std.specs.Prelude.{◌≡◌, ℕ, ◌<◌, ◌≤◌, List}
use Rattle.chunk_layout.specs.Layouts.{blocks, lengths, region}

-- The layout itself, where a graph has room for its blocks. Else one with more blocks than that too, whose first ones are
-- the other's: a graph that takes them in order refuses both alike.
pub record StandsFor (exact given : List (List ℕ)) : Type 0 where
  pub same : blocks exact ≤ 32768 → given ≡ exact
  pub many : 32768 < blocks exact → 32768 < blocks given
  pub first : (c : ℕ) → c < 32768 → c < blocks exact → region given c ≡ region exact c
  pub shape : lengths given ≡ lengths exact
