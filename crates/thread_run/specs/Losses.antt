-- What losses a run may have, and what a key has to lose to be killed.
use Rattle.std.specs.Prelude.{◌≡◌, ◌⊎◌, ◌≤◌, ◌+◌, ℕ, List, Option, Some, true}
use Rattle.cluster_msgs.specs.Scripts.{removes_in}
use Rattle.cluster_msgs.specs.Shape.{deps_of}
use Rattle.cluster_msgs.specs.Values.{needed}
use Rattle.cluster_msgs.specs.declared.events.Item.{Item}
use Rattle.task_graph.specs.Graphs.{shape_of}
use Rattle.node_runner.specs.declared.plan.RunPlan.{RunPlan}
use Rattle.command_words.specs.declared.run.RunWords.{RunWords}
use Rattle.job_run.specs.Plan.{Plan}
use Rattle.job_run.specs.Values.{tasks_of}
use Rattle.job_run.specs.Wanted.{wanted_of}

-- how often a key's worker may leave while the key is assigned to it, where that is bounded, and what the script makes happen
pub record Losses : Type 0 where
  pub allowed : Option ℕ
  pub script : List Item

abbrev pub losses_in : RunPlan → Losses
losses_in plan = record { allowed = plan.allowed; script = plan.script }

abbrev pub losses_by : RunWords → Losses
losses_by w = record { allowed = w.settings.allowed; script = w.script }

-- so many losses kill a key: they are one more than is allowed, and the script takes workers away as often, or a read failed
pub record IsKill (l : Losses) (reads : Type 0) (losses : ℕ) : Type 0 where
  pub above : (a : ℕ) × (l.allowed ≡ Some a) × (losses ≡ a + 1)
  pub often : (losses ≤ removes_in l.script) ⊎ reads

-- the key is in the cone of a saved block's
abbrev pub IsNeededKey : Plan → ℕ → Type 0
IsNeededKey p key = needed (deps_of (shape_of (tasks_of p))) (wanted_of p) key ≡ true
