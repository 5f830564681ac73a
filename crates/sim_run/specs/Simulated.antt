-- What is simulated, and how that ends: the events that the number draws, over any job and any keys that are wanted of it.
use Rattle.std.specs.Prelude.{◌≡◌, ◌≤◌, ℕ, true, List, Option, Some, None, length, take}
use Rattle.cluster_msgs.specs.Shape.{Shape, deps_of}
use Rattle.cluster_msgs.specs.Values.{needed}
use Rattle.cluster_msgs.specs.declared.events.Event.{Event}
use Rattle.cluster_msgs.specs.declared.events.Report.{Report}
use Rattle.cluster_rules.specs.World.{Job, World}
use Rattle.cluster_rules.specs.Draw.{Plan as SimPlan, Served}
use Rattle.cluster_sim.specs.Drawn.{word_of}
use Rattle.cluster_sim.specs.Simulations.{IsSimulated, IsReported, IsUnfinished}
use Rattle.cluster_rules.specs.Runs.{killed, event_limit}
use Rattle.cluster_laws.specs.Blocks.{job_of, setting_of}
use Rattle.cluster_msgs.specs.declared.events.Item.{Item}
use Rattle.command_words.specs.Walks.{joins_in, crew_of, after_items, TakesOneOf, IsItemAt}
use Rattle.command_words.specs.declared.sim.SimWords.{SimWords}

-- a script that leaves a worker at every point: each worker that an item takes away is there
pub record LeavesSomebody (workers : ℕ) (items : List Item) : Type 0 where
  pub takes : (i : ℕ) (item : Item) → IsItemAt items i item → TakesOneOf (after_items (crew_of workers) (take i items)) item
  pub some : (i : ℕ) → i ≤ length items → 1 ≤ length (after_items (crew_of workers) (take i items)).there

-- settings that can be followed: with 1 to 64 workers at the start and at most 64 more by the script, of 1 to 16 threads each, and never without one
pub record AreSettings (s : SimWords) : Type 0 where
  pub workers : (1 ≤ s.settings.workers) × (s.settings.workers ≤ 64)
  pub threads : (1 ≤ s.settings.threads) × (s.settings.threads ≤ 16)
  pub saturation : (1 ≤ s.settings.saturation) × (s.settings.saturation ≤ 1000)
  pub joins : joins_in s.script ≤ 64
  pub manned : LeavesSomebody s.settings.workers s.script

-- the workers at the start, their threads, and the script
abbrev pub sim_plan : SimWords → SimPlan
sim_plan s = record { workers = s.settings.workers; threads = s.settings.threads; script = s.script }

-- a graph with its operations as the job of a cluster with one client
abbrev pub running : {B : Type 0} → SimWords → Shape → (ℕ → List B → Option B) → Job
running s graph op = job_of (setting_of graph 1 s.settings.saturation s.settings.allowed) op

-- the client got all that is wanted after so many turns, with this report
pub record IsServed (job : Job) (wanted : List ℕ) (s : SimWords) (report : Report) (turns : ℕ) : Type 0 where
  pub world : World
  pub reported : IsReported job (word_of s.settings.number) (sim_plan s) wanted (Served turns None) world report

-- the client was told that this key failed something that it wants: it is needed, and the events that were drawn up to then killed it
pub record IsKilled (job : Job) (wanted : List ℕ) (s : SimWords) (key : ℕ) : Type 0 where
  pub turns : ℕ
  pub world : World
  pub events : List Event
  pub simulated : IsSimulated job (word_of s.settings.number) (sim_plan s) wanted events (Served turns (Some key)) world
  pub killed : killed job events key ≡ true
  pub needed : needed (deps_of job.setting.shape) wanted key ≡ true

-- as many events were drawn as a world takes, and no end was reached
abbrev pub IsOutOfEvents : Job → List ℕ → SimWords → Type 0
IsOutOfEvents job wanted s = IsUnfinished job (word_of s.settings.number) (sim_plan s) wanted event_limit

-- a job of this kind, with what is wanted of it, was simulated and came to this end
pub record SimulatesTo (IsKind : Job → List ℕ → Type 0) (s : SimWords) (P : Job → List ℕ → SimWords → Type 0) : Type 0 where
  pub job : Job
  pub wanted : List ℕ
  pub is : IsKind job wanted
  pub ends : P job wanted s
