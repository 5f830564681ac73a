-- When a key loses the attempt that it has, in a world.
use Rattle.std.specs.Prelude.{◌≡◌, ◌⊎◌, ℕ, true, Some}
use Rattle.cluster_msgs.specs.declared.events.Event.{Event}
use Rattle.cluster_rules.specs.World.{World}
use Rattle.cluster_rules.specs.Runs.{sched_event, ends_in}

-- an event that leads from w to v leaves each key its worker and its attempt, unless it ends the attempt: the scheduler counts the attempt's
-- finish or error or that the worker gave it up, takes that the worker leaves, or sends the worker a free-keys with the key
abbrev pub AttemptsEnd : World → Event → World → Type 0
AttemptsEnd w e v = (k i a : ℕ) → w.sched.on k ≡ Some (i, a) → (v.sched.on k ≡ Some (i, a)) ⊎ (ends_in w i k a (sched_event w e) ≡ true)
