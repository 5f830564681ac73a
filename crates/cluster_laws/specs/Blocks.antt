-- A cluster with its blocks: where each block stands, besides the facts of the world.
use Rattle.std.specs.Prelude.{ℕ, List, [], Option, None, is_none}
use Rattle.cluster_msgs.specs.Shape.{Shape, deps_of}
use Rattle.cluster_msgs.specs.Values.{val}
use Rattle.cluster_rules.specs.Sched.{Setting}
use Rattle.cluster_rules.specs.World.{Job, Parcel, World, opening}

-- an answer under way, with a block for each of its keys
pub record Delivery (B : Type 0) : Type 0 where
  pub parcel : Parcel
  pub blocks : List B

pub record Blocks (B : Type 0) : Type 0 where
  pub held : ℕ → ℕ → Option B  -- worker, key
  pub inputs : ℕ → ℕ → List B  -- worker, running key: the blocks that its operation takes, those of its start
  pub carried : List (Delivery B)  -- as the world's answers
  pub got : ℕ → ℕ → Option B  -- client, key

pub record Cluster (B : Type 0) : Type 0 where
  pub world : World
  pub blocks : Blocks B

-- the job of a graph whose operations these are: a key has a value, or none, by its operation over the values of its dependencies
abbrev pub job_of : {B : Type 0} → Setting → (ℕ → List B → Option B) → Job
job_of s op = record { setting = s; zero = λ k. is_none (val (deps_of s.shape) op k) }

-- a graph's setting, with so many clients, this saturation and what is allowed
abbrev pub setting_of : Shape → ℕ → ℕ → Option ℕ → Setting
setting_of g clients saturation allowed = record { shape = g; clients = clients; saturation = saturation; allowed = allowed }

-- no block is anywhere
abbrev pub no_blocks : {B : Type 0} → Blocks B
no_blocks = record { held = λ i k. None; inputs = λ i k. []; carried = []; got = λ c k. None }

abbrev pub opening_cluster : {B : Type 0} → Setting → (ℕ → List B → Option B) → Cluster B
opening_cluster s op = record { world = opening (job_of s op); blocks = no_blocks }
