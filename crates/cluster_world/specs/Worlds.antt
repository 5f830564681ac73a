-- The cluster that a `World` is, and the events that made it.
use Rattle.std.specs.Prelude.{◌≡◌, ◌≢◌, ℕ, ◌<◌, ◌≤◌, List, Option, length}
use Rattle.cluster_msgs.specs.declared.events.Event.{Event}
use Rattle.cluster_rules.specs.Sched.{Setting}
use Rattle.cluster_rules.specs.World.{Job, World}
use Rattle.cluster_rules.specs.Runs.{Run, event_limit}
use Rattle.cluster_nodes.specs.Nodes.{cluster_of}
use Rattle.scheduler_core.specs.Cores.{facts}
use Rattle.cluster_laws.specs.Blocks.{Cluster, job_of, opening_cluster}
use Rattle.cluster_laws.specs.Moves.{cluster_run}
use Rattle.cluster_world.specs.declared.state.State.{State}
use Rattle.cluster_world.specs.declared.state.Course.TheVariants.{Going, Starved}

-- the nodes, the links and the blocks, as the definitions have them
abbrev pub cluster : {J B F : Type 0} → State J B F → Cluster B
cluster s = cluster_of (facts s.sched) s.nodes

abbrev pub world : {J B F : Type 0} → State J B F → World
world s = (cluster s).world

abbrev pub setting : {J B F : Type 0} → State J B F → Setting
setting s = (facts s.sched).setting

-- the job that it runs
abbrev pub running : {J B F : Type 0} → (J → ℕ → List B → Option B) → State J B F → Job
running op s = job_of (setting s) (op s.job)

-- it goes on, and may take an event
pub record IsReady {J B F : Type 0} (s : State J B F) : Type 0 where
  pub going : s.course ≡ Going
  pub room : s.events < event_limit

-- These legal events led here from the opening, each operation being the job's: so the definition of the world says, and so that with blocks, each
-- of which is therefore the value of its key. The world counted them, and takes no more than its limit.
pub record IsMadeBy {J B F : Type 0} (op : J → ℕ → List B → Option B) (es : List Event) (s : State J B F) : Type 0 where
  pub run : Run (running op s) es (world s)
  pub blocks : cluster_run (op s.job) (opening_cluster (setting s) (op s.job)) es ≡ cluster s
  pub count : length es ≡ s.events
  pub few : length es ≤ event_limit

-- some events did
pub record IsMade {J B F : Type 0} (op : J → ℕ → List B → Option B) (s : State J B F) : Type 0 where
  pub events : List Event
  pub made : IsMadeBy op events s

-- its feed tells what it holds, and memory hasn't run out
pub record IsTelling {J B F : Type 0} (tells : J → F → Type 0) (s : State J B F) : Type 0 where
  pub feed : tells s.job s.feed
  pub there : s.course ≢ Starved
