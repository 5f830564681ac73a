-- A key that was killed.
use Rattle.std.specs.Prelude.{◌≡◌, ℕ, ◌+◌, true, Some}
use Rattle.cluster_rules.specs.Sched.{Facts}

-- so often its worker left while the key was assigned to it, which is once more than is allowed
pub record IsKilled (f : Facts) (k n : ℕ) : Type 0 where
  pub counted : f.losses k ≡ n
  pub above : (a : ℕ) × (f.setting.allowed ≡ Some a) × (n ≡ a + 1)
  pub bad : f.bad k ≡ true
