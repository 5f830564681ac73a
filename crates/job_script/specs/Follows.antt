-- What the refusal of a call means.
use Rattle.std.specs.Prelude.{◌≡◌, List, Some, Result, Err}
use Rattle.job_script.specs.declared.asked.Placed.{Placed}
use Rattle.job_script.specs.declared.asked.Refusal.{Refusal}
use Rattle.job_script.specs.declared.asked.Fault.{Fault}
use Rattle.job_script.specs.Scripts.{Stopped}
use Rattle.job_script.specs.declared.asked.Fault.TheVariants.{Refused, OutOfMemory}

-- This is the refusal that is said, and what `keeps` says holds; or memory is out.
abbrev pub RefusedAs : {A : Type 0} → Fault → Result A Refusal → Type 0 → Type 0
RefusedAs (Refused r) said keeps = (said ≡ Err r) × keeps
RefusedAs OutOfMemory said keeps = Unit {0}

-- Steps stopped with this refusal, and this was asked for; or memory is out.
abbrev pub StoppedAs : Fault → Stopped → List Placed → Type 0
StoppedAs (Refused r) stopped asked = (stopped.refusal ≡ Some r) × (stopped.draft.asked ≡ asked)
StoppedAs OutOfMemory stopped asked = Unit {0}
