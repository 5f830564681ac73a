-- A world in which a simulation may begin.
use Rattle.std.specs.Prelude.{◌≡◌, ℕ, ◌≤◌, ◌<◌, true, List, [], length, Option, None}
use Rattle.cluster_msgs.specs.declared.events.Event.{Event}
use Rattle.cluster_rules.specs.Derived.{is_in}
use Rattle.cluster_rules.specs.World.{World as Cluster, shape_of}
use Rattle.cluster_rules.specs.Worker.{has_any}
use Rattle.cluster_rules.specs.Runs.{Run}
use Rattle.cluster_world.specs.declared.state.State.{State}
use Rattle.cluster_world.specs.declared.state.Course.TheVariants.{Going}
use Rattle.cluster_world.specs.Worlds.{world, setting, IsMadeBy}
use Rattle.run_report.specs.declared.tally.Tally.{Tally}
use Rattle.cluster_sim.specs.Courses.{IsCounted}
use Rattle.cluster_sim.specs.Standing.{IsFor}
use Rattle.cluster_sim.specs.Led.{any_job}

-- it goes on, no event made it, it has a client, and its setting is within the limits of a job
pub record IsOpening {J B F : Type 0} (op : J → ℕ → List B → Option B) (s : State J B F) : Type 0 where
  pub going : s.course ≡ Going
  pub made : IsMadeBy op [] s
  pub client : 1 ≤ (setting s).clients
  pub few : (setting s).clients ≤ 16
  pub saturation : (1 ≤ (setting s).saturation) × ((setting s).saturation ≤ 1000)

-- some keys, all of the graph
pub record AreWanted (count : ℕ) (wanted : List ℕ) : Type 0 where
  pub some : has_any wanted ≡ true
  pub keys : (k : ℕ) → is_in k wanted ≡ true → k < count

-- whatever the feed answers: so many workers joined, and the client waits for these keys and has failed on none
pub record IsOpen (wanted : List ℕ) (workers : ℕ) (w : Cluster) : Type 0 where
  pub last : w.sched.last_worker ≡ workers
  pub client : IsFor wanted (w.clients 1)
  pub shape : (w.clients 1).shape ≡ shape_of w
  pub fresh : (k : ℕ) → (w.clients 1).failed k ≡ None

-- these opening events were made
pub record HasOpened {J B F : Type 0} (op : J → ℕ → List B → Option B) (tells : J → F → Type 0) (wanted : List ℕ) (workers : ℕ) (es : List Event) (old new : State J B F) (t : Tally) : Type 0 where
  pub going : new.course ≡ Going
  pub opened : IsOpen wanted workers (world new)
  pub count : new.events ≡ length es
  pub run : Run (any_job (setting old)) es (world new)
  pub all : tells old.job old.feed → IsCounted op es new t
