-- When a key loses the attempt that it has.
use Rattle.std.specs.Prelude.{◌≡◌, ◌⊎◌, ℕ, true, Some}
use Rattle.cluster_msgs.specs.declared.cores.SchedEvent.{SchedEvent}
use Rattle.cluster_rules.specs.Sched.{Facts}
use Rattle.cluster_rules.specs.Runs.{ends_attempt}

-- an event that leads from f to g leaves each key its attempt, unless it ends it: it counts the attempt's finish or error or that the worker
-- gave it up, it takes that the worker leaves, or it sends the worker a free-keys with the key
abbrev pub AttemptsEndForACause : Facts → SchedEvent → Facts → Type 0
AttemptsEndForACause f e g = (k i a : ℕ) → f.on k ≡ Some (i, a) → (g.on k ≡ Some (i, a)) ⊎ (ends_attempt f i k a e ≡ true)
