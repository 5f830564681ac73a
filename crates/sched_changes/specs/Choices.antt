-- What the policies choose for an event: the steal of Balance, the copy that Evict drops.
use Rattle.std.specs.Prelude.{ℕ, Option, None}
use Rattle.cluster_msgs.specs.declared.cores.Steal.{Steal}
use Rattle.cluster_msgs.specs.declared.cores.SchedEvent.{SchedEvent}
use Rattle.cluster_msgs.specs.declared.cores.SchedEvent.TheVariants.{Join, Leave, FromWorker, FromClient, Balance, Evict, Replicate}
use Rattle.cluster_rules.specs.Sched.{Facts}
use Rattle.cluster_rules.specs.Policies.{next_steal, next_drop}

-- what is stolen by the event
abbrev pub steal_for : Facts → SchedEvent → Option Steal
steal_for f (Join threads) = None
steal_for f (Leave w) = None
steal_for f (FromWorker w up) = None
steal_for f (FromClient c msg) = None
steal_for f Balance = next_steal f
steal_for f Evict = None
steal_for f (Replicate k w) = None

-- what is dropped by the event
abbrev pub drop_for : Facts → SchedEvent → Option (ℕ × ℕ)
drop_for f (Join threads) = None
drop_for f (Leave w) = None
drop_for f (FromWorker w up) = None
drop_for f (FromClient c msg) = None
drop_for f Balance = None
drop_for f Evict = next_drop f
drop_for f (Replicate k w) = None
