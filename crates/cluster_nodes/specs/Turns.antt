-- What one action of one node makes of a cluster: its world, and where its blocks stand.
use Rattle.std.specs.Prelude.{◌≡◌, ℕ, ◌==◌, false, List, [], ◌∷◌, Option, Some, None, cond, drop, filter}
use Rattle.std.specs.List.{filter_map}
use Rattle.std.specs.declared.sync.Arc.{Arc}
use Rattle.std.specs.declared.alloc.Global.{Global}
use Rattle.cluster_msgs.specs.declared.messages.Down.{Down}
use Rattle.cluster_msgs.specs.declared.messages.ToClient.{ToClient}
use Rattle.cluster_msgs.specs.declared.cores.WorkerEvent.{WorkerEvent}
use Rattle.cluster_msgs.specs.declared.cores.WorkerEvent.TheVariants.{Down as Told, Gathered}
use Rattle.cluster_msgs.specs.declared.cores.ClientEvent.{ClientEvent}
use Rattle.cluster_msgs.specs.declared.cores.ClientEvent.TheVariants.{FromScheduler, Gathered as ClientGathered}
use Rattle.cluster_msgs.specs.declared.events.Asker.{Asker}
use Rattle.cluster_msgs.specs.declared.events.Asker.TheVariants.{Worker, Client}
use Rattle.cluster_rules.specs.Functions.{put}
use Rattle.cluster_rules.specs.WorkerStep.{worker_step, worker_takes}
use Rattle.cluster_rules.specs.Client.{client_step, client_takes}
use Rattle.cluster_rules.specs.World.{World, Parcel, with_parcel, without_parcel}
use Rattle.cluster_rules.specs.WorldStep.{at_worker, at_client, new_at, died}
use Rattle.cluster_laws.specs.Blocks.{Delivery, Cluster}
use Rattle.cluster_laws.specs.Moves.{block_among, keeps, with_delivery, without_delivery}
use Rattle.cluster_nodes.specs.Nodes.{block_at}

-- what stands first for a key among these
abbrev pub first_at : {A : Type 0} → List (ℕ × A) → ℕ → Option A
first_at [] k = None
first_at (p ∷ ps) k = cond (p.0 == k) (Some p.1) (first_at ps k)

-- the block that came first for a key
abbrev pub among : {B : Type 0} → List (ℕ × Arc B Global) → ℕ → Option B
among ps k = block_at (first_at ps k)

abbrev pub nothing : {B : Type 0} → ℕ → Option B
nothing k = None

-- another world with the same blocks
abbrev pub in_world : {B : Type 0} → Cluster B → World → Cluster B
in_world c w = record c { world = w }

-- a worker takes an event that brings it these blocks: it keeps those that it then counts
abbrev pub worker_turned : {B : Type 0} → Cluster B → ℕ → WorkerEvent → (ℕ → Option B) → Cluster B
worker_turned c i e new = record {
  world = at_worker c.world i e;
  blocks = record c.blocks { held = put c.blocks.held i (λ k. keeps ((worker_step (c.world.workers i) e).facts.mem k) (c.blocks.held i k) (new k)) };
}

-- the same of a client
abbrev pub client_turned : {B : Type 0} → Cluster B → ℕ → ClientEvent → (ℕ → Option B) → Cluster B
client_turned c x e new = record {
  world = at_client c.world x e;
  blocks = record c.blocks { got = put c.blocks.got x (λ k. keeps ((client_step (c.world.clients x) e).facts.got k) (c.blocks.got x k) (new k)) };
}

-- of these messages of the scheduler, the first comes
abbrev pub down_delivered : {B : Type 0} → Cluster B → ℕ → List Down → Cluster B
down_delivered c i [] = c
down_delivered c i (m ∷ ms) = worker_turned (in_world c (record c.world { down = put c.world.down i ms })) i (Told m) nothing

abbrev pub client_told : {B : Type 0} → Cluster B → ℕ → List ToClient → Cluster B
client_told c x [] = c
client_told c x (m ∷ ms) = client_turned (in_world c (record c.world { to_client = put c.world.to_client x ms })) x (FromScheduler m) nothing

-- the scheduler takes the first message of a link
abbrev pub up_taken : {B : Type 0} → Cluster B → ℕ → Cluster B
up_taken c i = in_world c (record c.world { up = put c.world.up i (drop 1 (c.world.up i)) })

abbrev pub from_client_taken : {B : Type 0} → Cluster B → ℕ → Cluster B
from_client_taken c x = in_world c (record c.world { from_client = put c.world.from_client x (drop 1 (c.world.from_client x)) })

-- a worker joins, and one dies
abbrev pub joined : {B : Type 0} → Cluster B → ℕ → ℕ → Cluster B
joined c i threads = in_world c (new_at c.world i threads)

abbrev pub lost : {B : Type 0} → Cluster B → ℕ → Cluster B
lost c i = record { world = died c.world i; blocks = record c.blocks { held = put c.blocks.held i nothing } }

-- a request of this ask is served
abbrev pub served_by : {B : Type 0} → Cluster B → Asker → ℕ → ℕ → Option Parcel → Cluster B
served_by c a p n None = c
served_by c a p n (Some q) =
    let found = filter (c.world.workers p).mem q.keys in
    record {
      world = record c.world { requests = without_parcel a p n c.world.requests; answers = with_parcel (record q { keys = found }) c.world.answers };
      blocks = record c.blocks { carried = with_delivery (record { parcel = record q { keys = found }; blocks = filter_map (c.blocks.held p) found }) c.blocks.carried };
    }

-- an asker takes what was found, with its blocks
abbrev pub gathered_turned : {B : Type 0} → Cluster B → Asker → ℕ → ℕ → List ℕ → (ℕ → Option B) → Cluster B
gathered_turned c (Worker i) p n found new = worker_turned c i (Gathered p n found) new
gathered_turned c (Client x) p n found new = client_turned c x (ClientGathered p n found) new

-- the asker doesn't take what was found
abbrev pub IsRefusedBy : World → Asker → ℕ → ℕ → List ℕ → Type 0
IsRefusedBy w (Worker i) p n found = worker_takes (w.workers i) (Gathered p n found) ≡ false
IsRefusedBy w (Client x) p n found = client_takes (w.clients x) (ClientGathered p n found) ≡ false

-- the answer of this ask is gone
abbrev pub answer_gone : {B : Type 0} → Cluster B → Asker → ℕ → ℕ → Cluster B
answer_gone c a p n = record {
  world = record c.world { answers = without_parcel a p n c.world.answers };
  blocks = record c.blocks { carried = without_delivery a p n c.blocks.carried };
}

-- the answer of this ask arrives
abbrev pub answer_arrived : {B : Type 0} → Cluster B → Asker → ℕ → ℕ → Option (Delivery B) → Cluster B
answer_arrived c a p n None = c
answer_arrived c a p n (Some d) = gathered_turned (answer_gone c a p n) a p n d.parcel.keys (block_among d.parcel.keys d.blocks)
