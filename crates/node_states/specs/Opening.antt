-- A scheduler that starts.
use Rattle.std.specs.Prelude.{◌≡◌}
use Rattle.cluster_rules.specs.Sched.{Facts, sched_opening}

-- no worker has joined, and nothing is wanted, held, given out or counted as bad
pub record IsOpening (f : Facts) : Type 0 where
  pub is : f ≡ sched_opening f.setting
