-- How far a step of the script goes.
use Rattle.std.specs.Prelude.{ℕ, ◌<◌, ◌≤◌, Bool, true, false, Option, Some, None}
use Rattle.cluster_msgs.specs.declared.events.Event.{Event}
use Rattle.cluster_sim.specs.declared.script.Step.{Step}

-- the step's item stands behind the items that are done with, and among those of the script
abbrev pub IsBefore : ℕ → Option Step → ℕ → Type 0
IsBefore passed None items = Unit {0}
IsBefore passed (Some s) items = (passed < s.passed) × (s.passed ≤ items)

-- a step that isn't blocked
abbrev pub step_by : Bool → Event → ℕ → Option Step
step_by true e passed = None
step_by false e passed = Some (record { event = e; passed = passed })
