-- The lesser of a key that failed and one more key, in the order in which keys are looked at.
use Rattle.std.specs.Prelude.{ℕ, cond, nat_le, Option, Some, None}
use Rattle.cluster_msgs.specs.declared.cores.End.{End}
use Rattle.cluster_msgs.specs.declared.cores.End.TheVariants.{Got, Erred}

abbrev pub lesser_erred : Option (ℕ × ℕ) → ℕ → ℕ → Option (ℕ × ℕ)
lesser_erred None key blame = Some (key, blame)
lesser_erred (Some least) key blame = cond (nat_le least.0 key) (Some least) (Some (key, blame))

abbrev pub lesser : Option (ℕ × ℕ) → ℕ → Option End → Option (ℕ × ℕ)
lesser least key None = least
lesser least key (Some Got) = least
lesser least key (Some (Erred blame)) = lesser_erred least key blame
