-- Arrays in memory.
use Rattle.std.specs.Prelude.{ℕ, ℤ, List}

-- the lengths, and the elements in row-major order
pub record Array : Type 0 where
  pub shape : List ℕ
  pub cells : List ℤ
