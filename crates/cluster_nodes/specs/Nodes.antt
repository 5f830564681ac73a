-- The workers and clients of a cluster and what is between them, as they are kept, and the cluster that they make together with a scheduler.
use Rattle.std.specs.Prelude.{ℕ, Bool, true, false, List, [], Option, Some, None, map, slice_get}
use Rattle.std.specs.List.{filter_map}
use Rattle.std.specs.Option.{option_map}
use Rattle.std.specs.Arc.{arc_value}
use Rattle.std.specs.declared.sync.Arc.{Arc}
use Rattle.std.specs.declared.alloc.Global.{Global}
use Rattle.cluster_msgs.specs.Jobs.{blocks_of}
use Rattle.cluster_msgs.specs.Shape.{Shape}
use Rattle.cluster_msgs.specs.declared.messages.Down.{Down}
use Rattle.cluster_msgs.specs.declared.messages.Up.{Up}
use Rattle.cluster_msgs.specs.declared.messages.ToClient.{ToClient}
use Rattle.cluster_msgs.specs.declared.messages.FromClient.{FromClient}
use Rattle.cluster_msgs.specs.declared.messages.Message.{Message}
use Rattle.cluster_msgs.specs.declared.messages.Message.TheVariants as message
use Rattle.cluster_rules.specs.Sched.{Facts}
use Rattle.cluster_rules.specs.Worker.{WorkerFacts, new_worker}
use Rattle.cluster_rules.specs.Client.{ClientFacts, new_client}
use Rattle.cluster_rules.specs.World.{World}
use Rattle.fact_rows.specs.Rows.{read, cell}
use Rattle.gather_client.specs.CoreState.{CoreState, client_facts}
use Rattle.message_queues.specs.Queues.{waiting}
use Rattle.message_queues.specs.Transit.{parcel_of_transit, parcels}
use Rattle.message_queues.specs.declared.transit.InTransit.{InTransit}
use Rattle.cluster_laws.specs.Blocks.{Delivery, Blocks, Cluster}
use Rattle.worker_core.specs.Core.{Core, facts}
use Rattle.cluster_nodes.specs.declared.nodes.Nodes.{Nodes}

-- the messages of one kind
abbrev pub as_down : Message → Option Down
as_down (message.Down m) = Some m
as_down _ = None

abbrev pub as_up : Message → Option Up
as_up (message.Up m) = Some m
as_up _ = None

abbrev pub as_to_client : Message → Option ToClient
as_to_client (message.ToClient m) = Some m
as_to_client _ = None

abbrev pub as_from_client : Message → Option FromClient
as_from_client (message.FromClient m) = Some m
as_from_client _ = None

-- a worker that never joined, and a client that isn't there, are as they start
abbrev pub worker_of : Shape → ℕ → Option Core → WorkerFacts
worker_of g i None = new_worker g i 0
worker_of g i (Some c) = facts c

abbrev pub client_of : Shape → Option CoreState → ClientFacts
client_of g None = new_client g
client_of g (Some c) = client_facts c

-- the blocks of a dead worker are gone; its core stays as it was
abbrev pub if_alive : Bool → WorkerFacts → WorkerFacts
if_alive true w = w
if_alive false w = record w { mem = λ k. false }

unfoldable pub workers_of : Shape → List Bool → List Core → ℕ → WorkerFacts
workers_of g alive cores i = if_alive (read alive false i) (worker_of g i (slice_get cores i))

unfoldable pub clients_of : Shape → List CoreState → ℕ → ClientFacts
clients_of g cores c = client_of g (slice_get cores c)

-- a block that is shared, and those of a list, which is empty where there is none
abbrev pub block_at : {B : Type 0} → Option (Arc B Global) → Option B
block_at shared = option_map arc_value shared

abbrev pub blocks_at : {B : Type 0} → Option (List (Arc B Global)) → List B
blocks_at None = []
blocks_at (Some shared) = blocks_of shared

abbrev pub delivery_at : {B : Type 0} → InTransit B → Delivery B
delivery_at t = record { parcel = parcel_of_transit t; blocks = blocks_of t.blocks }

-- the world of these nodes and a scheduler with these facts. A list has a member for each number of a worker or a client, from 0, which
-- stands for nobody
unfoldable pub world_of : {B : Type 0} → Facts → Nodes B → World
world_of f n = record {
  sched = f;
  clients = clients_of f.setting.shape n.clients.items;
  workers = workers_of f.setting.shape n.alive n.workers.items;
  alive = read n.alive false;
  spilled = cell n.spilled false;
  down = λ i. filter_map as_down (waiting n.down i);
  up = λ i. filter_map as_up (waiting n.up i);
  to_client = λ c. filter_map as_to_client (waiting n.to_client c);
  from_client = λ c. filter_map as_from_client (waiting n.from_client c);
  requests = parcels n.requests;
  answers = parcels n.answers;
}

-- where the blocks stand
unfoldable pub blocks_in : {B : Type 0} → Nodes B → Blocks B
blocks_in n = record {
  held = λ i k. block_at (cell n.held None i k);
  inputs = λ i k. blocks_at (cell n.inputs None i k);
  carried = map (λ t. delivery_at t) n.answers;
  got = λ c k. block_at (cell n.got None c k);
}

abbrev pub cluster_of : {B : Type 0} → Facts → Nodes B → Cluster B
cluster_of f n = record { world = world_of f n; blocks = blocks_in n }
