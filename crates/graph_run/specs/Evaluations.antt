-- An evaluation of a job's keys in order, as its callers see it.
use Rattle.std.specs.Prelude.{◌≡◌, ◌<◌, ◌+◌, ℕ, List, Option, Some, None, IsSome, Result, Ok, Err}
use Rattle.std.specs.Arc.{arc_value}
use Rattle.cluster_msgs.specs.Jobs.{Rose}
use Rattle.cluster_msgs.specs.Values.{val}
use Rattle.cluster_msgs.specs.declared.jobs.RunFail.{RunFail}
use Rattle.cluster_msgs.specs.declared.jobs.RunFail.TheVariants.{Feed, OutOfMemory}
use Rattle.graph_run.specs.declared.evaluation.Step.{Step}
use Rattle.graph_run.specs.declared.evaluation.Step.TheVariants.{Made, Zero}

-- the job, what it reads, and the key that comes next
pub record Evaluation (J F : Type 0) : Type 0 where
  pub job : J
  pub feed : F
  pub next : ℕ

-- all keys before this one have values
abbrev pub HaveValues : {B : Type 0} → (ℕ → List ℕ) → (ℕ → List B → Option B) → ℕ → Type 0
HaveValues deps op count = (k : ℕ) → k < count → IsSome (val deps op k)

-- what a key has: its block, or nothing
abbrev pub value_of_step : {B : Type 0} → Step B → Option B
value_of_step (Made block) = Some (arc_value block)
value_of_step Zero = None

-- a fact about the block that was made
abbrev pub IfMade : {B : Type 0} → Step B → (B → Type 0) → Type 0
IfMade (Made block) P = P (arc_value block)
IfMade Zero P = Unit {0}

-- the key after this step: one further where a block was made
abbrev pub next_after : {B : Type 0} → Result (Step B) RunFail → ℕ → ℕ
next_after (Ok (Made block)) key = key + 1
next_after (Ok Zero) key = key
next_after (Err e) key = key

-- a step has failed by its feed only where the feed's count rose, and else left the count alone
abbrev pub CountsStep : {B : Type 0} → Result (Step B) RunFail → ℕ → ℕ → Type 0
CountsStep (Ok step) before now = now ≡ before
CountsStep (Err Feed) before now = Rose before now
CountsStep (Err OutOfMemory) before now = now ≡ before
