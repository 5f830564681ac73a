-- What stands at the end of a list that calls append to.
use Rattle.std.specs.Prelude.{◌≡◌, List, ◌++◌}

-- the old list is the front of the new one
pub record IsGrown {A : Type 0} (old new : List A) : Type 0 where
  pub rest : List A
  pub is : new ≡ old ++ rest
