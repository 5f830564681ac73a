-- The job of a graph alone.
use Rattle.std.specs.Prelude.{◌≡◌, ℕ, ◌<◌, false, List, Option, Some}
use Rattle.cluster_msgs.specs.Shape.{Shape, deps_of, key_count}
use Rattle.cluster_msgs.specs.Values.{faulty, val}
use Rattle.cluster_rules.specs.Sched.{Setting}
use Rattle.cluster_rules.specs.World.{Job}
use Rattle.cluster_laws.specs.Blocks.{job_of}

-- its blocks are empty, and no operation meets a zero divisor
abbrev pub shape_job : Setting → Job
shape_job s = job_of {B = Unit {0}} s (λ k inputs. Some tt)

-- no key of the graph is at fault by these operations
abbrev pub HasNoFault : {B : Type 0} → Shape → (ℕ → List B → Option B) → Type 0
HasNoFault g op = (k : ℕ) → k < key_count g → faulty (deps_of g) (val (deps_of g) op) k ≡ false
