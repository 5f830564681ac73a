-- What an event of the world leaves alone.
use Rattle.std.specs.Prelude.{◌≡◌, ℕ, ◌<◌, ◌≤◌, ◌==◌, true, false, List, ◌++◌}
use Rattle.std.specs.List.{AllByRecursion}
use Rattle.cluster_msgs.specs.Shape.{key_count}
use Rattle.cluster_msgs.specs.declared.messages.Down.{Down}
use Rattle.cluster_msgs.specs.declared.messages.ToClient.{ToClient}
use Rattle.cluster_msgs.specs.declared.events.Asker.TheVariants.{Worker, Client}
use Rattle.cluster_msgs.specs.declared.events.Event.TheVariants.{SeeLoss, DeliverDown, DeliverUp, DeliverToClient, DeliverFromClient, Start, Finish, SendGather, ServeGather, ArriveGather, FailGather}
use Rattle.cluster_rules.specs.World.{World, Parcel, shape_of, is_connected, is_client}
use Rattle.cluster_rules.specs.Enabled.{enabled, is_quiet_asker}

-- only the scheduler took a step: it may have sent messages
pub record OnlyScheduler (w v : World) : Type 0 where
  pub clients : v.clients ≡ w.clients
  pub workers : v.workers ≡ w.workers
  pub alive : v.alive ≡ w.alive
  pub spilled : v.spilled ≡ w.spilled
  pub up : v.up ≡ w.up
  pub from_client : v.from_client ≡ w.from_client
  pub requests : v.requests ≡ w.requests
  pub answers : v.answers ≡ w.answers
  pub down : (i : ℕ) → (ms : List Down) × (v.down i ≡ w.down i ++ ms)
  pub to_client : (c : ℕ) → (ms : List ToClient) × (v.to_client c ≡ w.to_client c ++ ms)

-- only worker i took a step: it may have sent messages and requests
pub record OnlyWorker (i : ℕ) (w v : World) : Type 0 where
  pub sched : v.sched ≡ w.sched
  pub clients : v.clients ≡ w.clients
  pub alive : v.alive ≡ w.alive
  pub down : v.down ≡ w.down
  pub to_client : v.to_client ≡ w.to_client
  pub from_client : v.from_client ≡ w.from_client
  pub answers : v.answers ≡ w.answers
  pub workers : (x : ℕ) → (x == i) ≡ false → v.workers x ≡ w.workers x
  pub spilled : (x : ℕ) → (x == i) ≡ false → v.spilled x ≡ w.spilled x
  pub up : (x : ℕ) → (x == i) ≡ false → v.up x ≡ w.up x

-- only client c took a step
pub record OnlyClient (c : ℕ) (w v : World) : Type 0 where
  pub sched : v.sched ≡ w.sched
  pub workers : v.workers ≡ w.workers
  pub alive : v.alive ≡ w.alive
  pub spilled : v.spilled ≡ w.spilled
  pub down : v.down ≡ w.down
  pub up : v.up ≡ w.up
  pub to_client : v.to_client ≡ w.to_client
  pub answers : v.answers ≡ w.answers
  pub clients : (x : ℕ) → (x == c) ≡ false → v.clients x ≡ w.clients x
  pub from_client : (x : ℕ) → (x == c) ≡ false → v.from_client x ≡ w.from_client x

-- no progress event is enabled: none of any kind
pub record NothingMoves (w : World) : Type 0 where
  pub see_loss : (i : ℕ) → 1 ≤ i → i ≤ w.sched.last_worker → enabled w (SeeLoss i) ≡ false
  pub down : (i : ℕ) → 1 ≤ i → i ≤ w.sched.last_worker → is_connected w i ≡ true → enabled w (DeliverDown i) ≡ false
  pub up : (i : ℕ) → 1 ≤ i → i ≤ w.sched.last_worker → is_connected w i ≡ true → enabled w (DeliverUp i) ≡ false
  pub to_client : (c : ℕ) → is_client w c ≡ true → enabled w (DeliverToClient c) ≡ false
  pub from_client : (c : ℕ) → is_client w c ≡ true → enabled w (DeliverFromClient c) ≡ false
  pub start : (i : ℕ) → 1 ≤ i → i ≤ w.sched.last_worker → is_connected w i ≡ true → enabled w (Start i) ≡ false
  pub finish : (i k : ℕ) → 1 ≤ i → i ≤ w.sched.last_worker → is_connected w i ≡ true → k < key_count (shape_of w) → enabled w (Finish i k) ≡ false
  pub send : (i p : ℕ) → 1 ≤ i → i ≤ w.sched.last_worker → is_connected w i ≡ true → 1 ≤ p → p ≤ w.sched.last_worker → enabled w (SendGather (Worker i) p) ≡ false
  pub client_sends : (c p : ℕ) → is_client w c ≡ true → 1 ≤ p → p ≤ w.sched.last_worker → enabled w (SendGather (Client c) p) ≡ false
  pub fail : (i p : ℕ) → 1 ≤ i → i ≤ w.sched.last_worker → is_connected w i ≡ true → 1 ≤ p → p ≤ w.sched.last_worker → w.alive p ≡ false → enabled w (FailGather (Worker i) p) ≡ false
  pub client_fails : (c p : ℕ) → is_client w c ≡ true → 1 ≤ p → p ≤ w.sched.last_worker → w.alive p ≡ false → enabled w (FailGather (Client c) p) ≡ false
  pub serve : AllByRecursion (λ (q : Parcel). enabled w (ServeGather q.peer q.asker q.ask) ≡ false) w.requests
  pub arrive : AllByRecursion (λ (q : Parcel). is_quiet_asker w q.asker ≡ true → enabled w (ArriveGather q.asker q.peer q.ask) ≡ false) w.answers
