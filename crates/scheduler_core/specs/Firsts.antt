-- The earlier of two keys, where there are any.
use Rattle.std.specs.Prelude.{ℕ, nat_lt, Option, Some, None, cond}

abbrev pub earlier : Option ℕ → Option ℕ → Option ℕ
earlier None other = other
earlier (Some a) None = Some a
earlier (Some a) (Some b) = Some (cond (nat_lt b a) b a)
