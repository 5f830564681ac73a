-- What a worker would have to fetch.
use Rattle.std.specs.Prelude.{ℕ, cond}
use Rattle.cluster_msgs.specs.Shape.{nbytes_of}
use Rattle.cluster_rules.specs.Sched.{Facts, holds}

-- the bytes of a key that the worker does not hold
abbrev pub fetched_bytes : Facts → ℕ → ℕ → ℕ
fetched_bytes f w d = cond (holds f w d) 0 (nbytes_of f.setting.shape d)
