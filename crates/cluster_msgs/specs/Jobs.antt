-- What running one key of a job answers.
use Rattle.std.specs.Prelude.{◌≡◌, ℕ, ◌+◌, ◌-◌, ◌^◌, ◌≤◌, min, List, map, Option, Some, None, Result, Ok, Err}
use Rattle.std.specs.Arc.{arc_value}
use Rattle.std.specs.declared.sync.Arc.{Arc}
use Rattle.std.specs.declared.alloc.Global.{Global}
use Rattle.cluster_msgs.specs.declared.jobs.Outcome.{Outcome}
use Rattle.cluster_msgs.specs.declared.jobs.Outcome.TheVariants.{Value, Zero}
use Rattle.cluster_msgs.specs.declared.jobs.RunFail.{RunFail}
use Rattle.cluster_msgs.specs.declared.jobs.RunFail.TheVariants.{Feed, OutOfMemory}

-- the value of an outcome, if it has one
abbrev pub value_of : {B : Type 0} → Outcome B → Option B
value_of (Value b) = Some b
value_of Zero = None

-- a fact about the value of an outcome, where it has one
abbrev pub IfValue : {B : Type 0} → Outcome B → (B → Type 0) → Type 0
IfValue (Value b) P = P b
IfValue Zero P = Unit {0}

-- the blocks that are shared in a list
abbrev pub blocks_of : {B : Type 0} → List (Arc B Global) → List B
blocks_of shared = map arc_value shared

-- a count of faults rose. One that stands at its end is taken as risen
abbrev pub Rose : ℕ → ℕ → Type 0
Rose before now = min (before + 1) (2 ^ 64 - 1) ≤ now

-- a call has failed by its feed only where the feed's count rose, and else left the count alone
abbrev pub CountsFault : {B : Type 0} → Result (Outcome B) RunFail → ℕ → ℕ → Type 0
CountsFault (Ok outcome) before now = now ≡ before
CountsFault (Err Feed) before now = Rose before now
CountsFault (Err OutOfMemory) before now = now ≡ before
