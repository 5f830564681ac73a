-- One step of a cluster, by the outcome of the operation that it ends, if it ends one.
use Rattle.std.specs.Prelude.{◌≡◌, ◌+◌, ◌≤◌, ℕ, List, Option, Some, None, Result, Ok, Err, length}
use Rattle.cluster_msgs.specs.declared.events.Event.{Event}
use Rattle.cluster_msgs.specs.declared.events.Event.TheVariants.{Finish}
use Rattle.cluster_laws.specs.Blocks.{Cluster}
use Rattle.cluster_laws.specs.Moves.{cluster_step}
use Rattle.cluster_nodes.specs.Kept.{IsNodes}
use Rattle.scheduler_core.specs.Cores.{facts}
use Rattle.cluster_msgs.specs.Jobs.{Rose}
use Rattle.cluster_msgs.specs.declared.jobs.RunFail.{RunFail}
use Rattle.cluster_msgs.specs.declared.jobs.RunFail.TheVariants.{Feed as FeedFailed, OutOfMemory}
use Rattle.cluster_world.specs.declared.state.State.{State}
use Rattle.cluster_world.specs.declared.errors.Broken.{Broken}
use Rattle.cluster_world.specs.declared.errors.Broken.TheVariants.{Feed, Memory}
use Rattle.cluster_world.specs.Worlds.{cluster}
use Rattle.cluster_world.specs.Kept.{CoresTookFew}

-- the event ended an operation so, if it ended one
abbrev pub stepped : {B : Type 0} → Option B → Cluster B → Event → Cluster B
stepped o c e = cluster_step (λ k bs. o) c e

-- the outcome is the operation's on what the worker held, where the event ends an operation
abbrev pub IsOutcome : {B : Type 0} → (ℕ → List B → Option B) → Cluster B → Event → Option B → Type 0
IsOutcome op c e o = (i k : ℕ) → e ≡ Finish i k → o ≡ op k (c.blocks.inputs i k)

-- the outcome is one that the key may have
abbrev pub FitsKey : {B : Type 0} → (ℕ → B → Type 0) → Event → Option B → Type 0
FitsKey {B} Fits e o = (i k : ℕ) (b : B) → e ≡ Finish i k → o ≡ Some b → Fits k b

-- the cluster became this one, the nodes are those that the scheduler counts, and each core took one event more at most
pub record IsTurned {J B F : Type 0} (old new : State J B F) (to : Cluster B) : Type 0 where
  pub cluster : cluster new ≡ to
  pub nodes : IsNodes new.nodes
  pub shape : new.nodes.shape ≡ old.nodes.shape
  pub workers : length new.nodes.workers.items ≡ (facts new.sched).last_worker + 1
  pub clients : length new.nodes.clients.items ≡ length old.nodes.clients.items
  pub more : length old.nodes.workers.items ≤ length new.nodes.workers.items
  pub few : (n : ℕ) → CoresTookFew n old → CoresTookFew (n + 1) new

-- it went one step, by an event that ends no operation
abbrev pub IsMoved : {J B F : Type 0} → State J B F → State J B F → Event → Type 0
IsMoved old new e = IsTurned old new (stepped None (cluster old) e)

-- an event was carried out: its outcome, if it ended an operation, is one that the key may have, and the operation's where the feed tells
pub record IsPerformed {J B F : Type 0} (Fits : ℕ → B → Type 0) (tells : Type 0) (op : ℕ → List B → Option B) (old new : State J B F) (e : Event) : Type 0 where
  pub outcome : Option B
  pub turned : IsTurned old new (stepped outcome (cluster old) e)
  pub fits : FitsKey Fits e outcome
  pub told : tells → IsOutcome op (cluster old) e outcome

-- the event ends no operation
abbrev pub IsUnended : Event → Type 0
IsUnended (Finish i k) = ⊥
IsUnended _ = Unit {0}

-- what ended the step of a world, where running a key failed
abbrev pub broken_by : RunFail → Broken
broken_by FeedFailed = Feed
broken_by OutOfMemory = Memory

-- the feed's count of faults rose where that ended the step, else it stays
abbrev pub CountsPerform : {A : Type 0} → Result A Broken → ℕ → ℕ → Type 0
CountsPerform (Ok done) before now = now ≡ before
CountsPerform (Err Feed) before now = Rose before now
CountsPerform (Err Memory) before now = now ≡ before

-- a feed that fails leaves all but itself
abbrev pub FeedLeaves : {A J B F : Type 0} → Result A Broken → State J B F → State J B F → Type 0
FeedLeaves (Err Feed) old new = new ≡ record old { feed = new.feed }
FeedLeaves (Ok done) old new = Unit {0}
FeedLeaves (Err Memory) old new = Unit {0}
