-- Why a worker is to end.
use Rattle.std.specs.Prelude.{◌≡◌, ◌⊎◌, Option, Some, None}
use Rattle.cluster_msgs.specs.declared.jobs.RunFail.{RunFail}
use Rattle.cluster_msgs.specs.declared.jobs.RunFail.TheVariants as fail
use Rattle.node_states.specs.declared.why.Why.{Why}
use Rattle.node_states.specs.declared.why.Why.TheVariants.{Feed, Link, Memory}

-- for what a task met
abbrev pub why_of : RunFail → Why
why_of fail.Feed = Feed
why_of fail.OutOfMemory = Memory

-- the first cause stands; by itself a turn adds only want of memory, or a message that was refused
pub record IsTurnsCause (old new : Option Why) : Type 0 where
  pub is : (new ≡ old) ⊎ ((old ≡ None) × ((new ≡ Some Memory) ⊎ (new ≡ Some Link)))
