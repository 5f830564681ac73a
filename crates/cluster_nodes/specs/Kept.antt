-- What a `Nodes` keeps.
use Rattle.std.specs.Prelude.{◌≡◌, ◌<◌, ◌≤◌, ℕ, Bool, true, false, List, [], Option, None, length}
use Rattle.std.specs.declared.sync.Arc.{Arc}
use Rattle.std.specs.declared.alloc.Global.{Global}
use Rattle.std.specs.List.{filter_map, AllByRecursion}
use Rattle.cluster_msgs.specs.Shape.{Shape, key_count}
use Rattle.cluster_msgs.specs.declared.events.Asker.{Asker}
use Rattle.cluster_msgs.specs.declared.events.Asker.TheVariants.{Worker, Client}
use Rattle.fact_rows.specs.Rows.{cell, read, width, height}
use Rattle.message_queues.specs.Queues.{waiting}
use Rattle.message_queues.specs.Transit.{AreRequests, AreAnswers}
use Rattle.message_queues.specs.Posts.{downs, ups, to_clients, from_clients}
use Rattle.worker_core.specs.Core.{Core, facts}
use Rattle.gather_client.specs.CoreState.{CoreState, client_facts}
use Rattle.cluster_nodes.specs.Nodes.{as_down, as_up, as_to_client, as_from_client, workers_of, clients_of}
use Rattle.cluster_nodes.specs.declared.nodes.Nodes.{Nodes}

-- the cores are over this graph
abbrev pub AreWorkersOver : Shape → List Core → Type 0
AreWorkersOver g cores = AllByRecursion (λ c. (facts c).shape ≡ g) cores

abbrev pub AreClientsOver : Shape → List CoreState → Type 0
AreClientsOver g cores = AllByRecursion (λ c. (client_facts c).shape ≡ g) cores

-- each core has taken at most this many events
abbrev pub WorkersTookFew : ℕ → List Core → Type 0
WorkersTookFew n cores = AllByRecursion (λ c. c.events ≤ n) cores

abbrev pub ClientsTookFew : ℕ → List CoreState → Type 0
ClientsTookFew n cores = AllByRecursion (λ c. c.events ≤ n) cores

-- each list has a member for each worker, or for each client, and each row one for each key
pub record IsSized {B : Type 0} (n : Nodes B) : Type 0 where
  pub alive : length n.alive ≡ length n.workers.items
  pub spilled : height n.spilled ≡ length n.workers.items
  pub down : length n.down ≡ length n.workers.items
  pub up : length n.up ≡ length n.workers.items
  pub held : height n.held ≡ length n.workers.items
  pub inputs : height n.inputs ≡ length n.workers.items
  pub to_client : length n.to_client ≡ length n.clients.items
  pub from_client : length n.from_client ≡ length n.clients.items
  pub got : height n.got ≡ length n.clients.items
  pub spilled_keys : width n.spilled ≡ key_count n.shape
  pub held_keys : width n.held ≡ key_count n.shape
  pub inputs_keys : width n.inputs ≡ key_count n.shape
  pub got_keys : width n.got ≡ key_count n.shape
  pub workers : AreWorkersOver n.shape n.workers.items
  pub clients : AreClientsOver n.shape n.clients.items

-- each link carries messages of its own kind, and what is under way requests or answers
pub record IsSorted {B : Type 0} (n : Nodes B) : Type 0 where
  pub down : (i : ℕ) → downs (filter_map as_down (waiting n.down i)) ≡ waiting n.down i
  pub up : (i : ℕ) → ups (filter_map as_up (waiting n.up i)) ≡ waiting n.up i
  pub to_client : (c : ℕ) → to_clients (filter_map as_to_client (waiting n.to_client c)) ≡ waiting n.to_client c
  pub from_client : (c : ℕ) → from_clients (filter_map as_from_client (waiting n.from_client c)) ≡ waiting n.from_client c
  pub requests : AreRequests n.requests
  pub answers : AreAnswers n.answers

-- no block stands where its key isn't counted; nor is a key spilled there, unless some may be astray. It is said of the parts, so that the
-- others may change
pub record IsTidy {B : Type 0} (strays : Bool) (alive : List Bool) (workers : List Core) (clients : List CoreState) (marks : ℕ × List (List Bool)) (there here : ℕ × List (List (Option (Arc B Global)))) : Type 0 where
  pub held : (g : Shape) (i k : ℕ) → (workers_of g alive workers i).mem k ≡ false → cell there None i k ≡ None
  pub spilled : strays ≡ false → (g : Shape) (i k : ℕ) → (workers_of g alive workers i).mem k ≡ false → cell marks false i k ≡ false
  pub got : (g : Shape) (c k : ℕ) → (clients_of g clients c).got k ≡ false → cell here None c k ≡ None

pub record IsNodes {B : Type 0} (n : Nodes B) : Type 0 where
  pub sized : IsSized n
  pub sorted : IsSorted n
  pub tidy : IsTidy n.strays n.alive n.workers.items n.clients.items n.spilled n.held n.got

-- nobody is there, and nothing is under way
pub record IsEmpty {B : Type 0} (n : Nodes B) : Type 0 where
  pub clients : n.clients.items ≡ []
  pub workers : n.workers.items ≡ []
  pub alive : n.alive ≡ []
  pub spilled : n.spilled ≡ (key_count n.shape, [])
  pub down : n.down ≡ []
  pub up : n.up ≡ []
  pub to_client : n.to_client ≡ []
  pub from_client : n.from_client ≡ []
  pub requests : n.requests ≡ []
  pub answers : n.answers ≡ []
  pub held : n.held ≡ (key_count n.shape, [])
  pub inputs : n.inputs ≡ (key_count n.shape, [])
  pub got : n.got ≡ (key_count n.shape, [])

-- no worker and no client has taken more than this many events
abbrev pub TookFew : {B : Type 0} → ℕ → Nodes B → Type 0
TookFew b n = WorkersTookFew b n.workers.items × ClientsTookFew b n.clients.items

-- nobody came, and nobody died
pub record HasSameNodes {B : Type 0} (n m : Nodes B) : Type 0 where
  pub workers : length m.workers.items ≡ length n.workers.items
  pub clients : length m.clients.items ≡ length n.clients.items
  pub alive : m.alive ≡ n.alive
  pub shape : m.shape ≡ n.shape

-- the asker is there, and alive
abbrev pub HasAsker : {B : Type 0} → Nodes B → Asker → Type 0
HasAsker n (Worker i) = (i < length n.workers.items) × (read n.alive false i ≡ true)
HasAsker n (Client c) = c < length n.clients.items
