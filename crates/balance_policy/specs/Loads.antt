-- Which of two workers holds more.
use Rattle.std.specs.Prelude.{ℕ, nat_lt, Bool}
use Rattle.cluster_rules.specs.Sched.{Facts, bytes_held}

-- the first worker holds more bytes than the second
abbrev pub holds_more : Facts → ℕ → ℕ → Bool
holds_more f v w = nat_lt (bytes_held f w) (bytes_held f v)
