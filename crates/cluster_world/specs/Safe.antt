-- What schedule safety says of one world.
use Rattle.std.specs.Prelude.{◌≡◌, ◌+◌, ◌≤◌, ℕ, Some}
use Rattle.cluster_rules.specs.Sched.{Facts}
use Rattle.cluster_rules.specs.World.{World, Drained}
use Rattle.cluster_rules.specs.Runs.{OnlyKnown, Agrees, IsLively}

-- only known keys have facts, and only needed ones are held; a worker with no message under way agrees with the scheduler; and while a client waits
-- and a worker is there, some progress event is enabled
pub record IsSafeWorld (w : World) : Type 0 where
  pub known : OnlyKnown w.sched
  pub agrees : (i : ℕ) → Drained w i → Agrees w i
  pub lively : IsLively w

-- no key lost its worker more often than once more than is allowed
abbrev pub LosesFew : Facts → Type 0
LosesFew f = (k a : ℕ) → f.setting.allowed ≡ Some a → f.losses k ≤ a + 1
