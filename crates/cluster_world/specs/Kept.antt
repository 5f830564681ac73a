-- What a world keeps.
use Rattle.std.specs.Prelude.{◌≡◌, ◌≢◌, ◌+◌, ◌≤◌, ℕ, Bool, true, false, List, [], ◌∷◌, Option, Some, None, is_some, length, map}
use Rattle.std.specs.List.{AllByRecursion}
use Rattle.cluster_msgs.specs.Shape.{Shape, IsShape, deps_of}
use Rattle.cluster_rules.specs.World.{World}
use Rattle.cluster_nodes.specs.Kept.{IsNodes, TookFew}
use Rattle.scheduler_core.specs.Cores.{facts}
use Rattle.cluster_laws.specs.Blocks.{Delivery, Blocks, Cluster}
use Rattle.cluster_world.specs.declared.state.State.{State}
use Rattle.cluster_world.specs.declared.state.Course.TheVariants.{Starved}
use Rattle.cluster_world.specs.Worlds.{cluster, world, setting, IsMade, IsTelling}
use Rattle.cluster_rules.specs.Runs.{event_limit}
use Rattle.cluster_world.specs.Orderly.{IsOrderly}

-- no block stands where its key isn't counted
pub record IsTidy {B : Type 0} (w : World) (b : Blocks B) : Type 0 where
  pub held : (i k : ℕ) → (w.workers i).mem k ≡ false → b.held i k ≡ None
  pub got : (x k : ℕ) → (w.clients x).got k ≡ false → b.got x k ≡ None

-- at one place for blocks of a key: a block stands there exactly where the key is counted, and it is one that the key may have
pub record IsFilled {B : Type 0} (Fits : B → Type 0) (counted : Bool) (block : Option B) : Type 0 where
  pub fits : (b : B) → block ≡ Some b → Fits b
  pub present : counted ≡ true → is_some block ≡ true
  pub missing : counted ≡ false → block ≡ None

-- a block for each key, which the key may have
abbrev pub AreFor : {B : Type 0} → (ℕ → B → Type 0) → List ℕ → List B → Type 0
AreFor Fits [] [] = Unit {0}
AreFor Fits [] (b ∷ bs) = ⊥
AreFor Fits (k ∷ ks) [] = ⊥
AreFor Fits (k ∷ ks) (b ∷ bs) = Fits k b × AreFor Fits ks bs

-- the blocks of a cluster are where they are counted, and each is one that its key may have
pub record IsStocked {B : Type 0} (Fits : ℕ → B → Type 0) (deps : ℕ → List ℕ) (c : Cluster B) : Type 0 where
  pub held : (i k : ℕ) → IsFilled (Fits k) ((c.world.workers i).mem k) (c.blocks.held i k)
  pub got : (x k : ℕ) → IsFilled (Fits k) ((c.world.clients x).got k) (c.blocks.got x k)
  pub inputs : (i k : ℕ) → (c.world.workers i).running k ≡ true → AreFor Fits (deps k) (c.blocks.inputs i k)
  pub answers : map (λ (d : Delivery B). d.parcel) c.blocks.carried ≡ c.world.answers
  pub carried : AllByRecursion (λ (d : Delivery B). AreFor Fits d.parcel.keys d.blocks) c.blocks.carried

-- no core has taken more than this many events
abbrev pub CoresTookFew : {J B F : Type 0} → ℕ → State J B F → Type 0
CoresTookFew n s = TookFew n s.nodes × (s.sched.taken ≤ n)

-- the nodes are those that the scheduler counts, over its graph, and no core took more events than the world
pub record IsJoint {J B F : Type 0} (s : State J B F) : Type 0 where
  pub nodes : IsNodes s.nodes
  pub shape : s.nodes.shape ≡ (setting s).shape
  pub workers : length s.nodes.workers.items ≡ (facts s.sched).last_worker + 1
  pub clients : length s.nodes.clients.items ≡ (setting s).clients + 1
  pub counted : s.clients ≡ (setting s).clients
  pub orderly : IsOrderly (world s)
  pub few : CoresTookFew s.events s
  pub tidy : IsTidy (world s) (cluster s).blocks

-- a block has the lengths of its key
abbrev pub LengthsFit : {J B : Type 0} → (J → ℕ → List ℕ) → (B → List ℕ) → J → ℕ → B → Type 0
LengthsFit key_dims block_dims job k b = block_dims b ≡ key_dims job k

-- besides, the graph is the job's, and each block has the lengths of its key
pub record IsWhole {J B F : Type 0} (graph : J → Shape) (key_dims : J → ℕ → List ℕ) (block_dims : B → List ℕ) (s : State J B F) : Type 0 where
  pub joint : IsJoint s
  pub low : IsShape (graph s.job)
  pub shape : (setting s).shape ≡ graph s.job
  pub stocked : IsStocked (LengthsFit key_dims block_dims s.job) (deps_of (graph s.job)) (cluster s)

-- What holds of each world: it is whole but for want of memory, and where its feed tells what it holds, legal events made it. A feed tells after an
-- event exactly where it did before, so there is no world whose feed began to tell.
pub record IsWorld {J B F : Type 0} (graph : J → Shape) (key_dims : J → ℕ → List ℕ) (block_dims : B → List ℕ) (operation : J → ℕ → List B → Option B) (feed_fits feed_tells : J → F → Type 0) (s : State J B F) : Type 0 where
  pub feed : feed_fits s.job s.feed
  pub few : s.events ≤ event_limit
  pub low : IsShape (graph s.job)
  pub shape : (setting s).shape ≡ graph s.job
  pub clients : s.clients ≡ (setting s).clients
  pub whole : s.course ≢ Starved → IsWhole graph key_dims block_dims s
  pub made : IsTelling feed_tells s → IsMade operation s

-- what no event changes
pub record IsSame {J B F : Type 0} (old new : State J B F) : Type 0 where
  pub job : new.job ≡ old.job
  pub course : new.course ≡ old.course
  pub events : new.events ≡ old.events
  pub clients : new.clients ≡ old.clients
  pub setting : setting new ≡ setting old

-- what no action of the scheduler or a node changes
pub record IsKept {J B F : Type 0} (old new : State J B F) : Type 0 where
  pub same : IsSame old new
  pub feed : new.feed ≡ old.feed
