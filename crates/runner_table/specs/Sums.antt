-- What the keys of a job of sums are worth.
use Rattle.std.specs.Prelude.{ℕ, ◌+◌, ◌*◌, ◌%◌, ◌==◌, Bool, false, cond, List, [], ◌∷◌, Option, Some, None, fold}
use Rattle.cluster_msgs.specs.Shape.{Shape, deps_of}
use Rattle.cluster_msgs.specs.Values.{val}

-- one block more
abbrev pub mixed_in : ℕ → ℕ → ℕ
mixed_in v b = (v % 1000003 * 31 + b % 1000003) % 1000003

-- a leaf is worth its number, and another key what the blocks of its dependencies make together
abbrev pub worth_of : ℕ → List ℕ → ℕ
worth_of key [] = key
worth_of key (b ∷ bs) = fold mixed_in 0 (b ∷ bs)

abbrev pub is_at : Option ℕ → ℕ → Bool
is_at None key = false
is_at (Some place) key = place == key

-- what a key makes of the blocks of its dependencies, where one key may meet a zero divisor
abbrev pub worth : Option ℕ → ℕ → List ℕ → Option ℕ
worth zero key blocks = cond (is_at zero key) None (Some (worth_of key blocks))

-- the value of a key
abbrev pub sum_of : Shape → Option ℕ → ℕ → Option ℕ
sum_of shape zero key = val (deps_of shape) (worth zero) key
