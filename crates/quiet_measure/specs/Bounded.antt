-- What the bound on the measure rests on, besides soundness.
use Rattle.std.specs.Prelude.{◌≡◌, ◌⊎◌, ℕ, ◌≤◌, true, Some, is_some, length, max}
use Rattle.std.specs.List.{AllByRecursion}
use Rattle.cluster_msgs.specs.Shape.{key_count, edge_count}
use Rattle.cluster_msgs.specs.declared.messages.Down.{Down}
use Rattle.cluster_msgs.specs.declared.messages.Down.TheVariants.{ComputeTask, FreeKeys, StealRequest, RemoveReplicas, AcquireReplicas, RefreshWhoHas}
use Rattle.cluster_msgs.specs.declared.messages.Up.{Up}
use Rattle.cluster_msgs.specs.declared.messages.Up.TheVariants.{TaskFinished, TaskErred, AddKeys, ReleaseWorkerData, MissingData, RequestRefreshWhoHas, StealResponse}
use Rattle.cluster_msgs.specs.declared.events.Asker.{Asker}
use Rattle.cluster_rules.specs.Sched.{IsSound}
use Rattle.cluster_rules.specs.Worker.{Ask}
use Rattle.cluster_rules.specs.World.{World, shape_of, is_asker, open_ask, parcel_of, under_way, worker_count, quiet_bound}
use Rattle.cluster_rules.specs.Inside.{IsInsideWorld}
use Rattle.quiet_measure.specs.Measure.{measure}
use Rattle.quiet_measure.specs.Turns.{asks_of, PeersDiffer}

-- how many keys a message lists
abbrev pub down_length : Down → ℕ
down_length (ComputeTask k a who) = length who
down_length (FreeKeys ks) = length ks
down_length (StealRequest k a) = 0
down_length (RemoveReplicas ks) = length ks
down_length (AcquireReplicas who) = length who
down_length (RefreshWhoHas who) = length who

abbrev pub up_length : Up → ℕ
up_length (AddKeys seen ks) = length ks
up_length (TaskFinished seen k a) = 0
up_length (TaskErred seen k a) = 0
up_length (ReleaseWorkerData seen k) = 0
up_length (MissingData seen k x c) = 0
up_length (RequestRefreshWhoHas seen k) = 0
up_length (StealResponse seen k a agreed) = 0

abbrev pub world_keys : World → ℕ
world_keys w = key_count (shape_of w)

-- no list names a key twice, so none is longer than there are keys; and each open ask has its request or its answer under way
pub record IsBounded (w : World) : Type 0 where
  pub sound : IsSound w.sched
  pub inside : IsInsideWorld (shape_of w) w
  pub down : (i : ℕ) → AllByRecursion (λ m. down_length m ≤ world_keys w) (w.down i)
  pub up : (i : ℕ) → AllByRecursion (λ m. up_length m ≤ world_keys w) (w.up i)
  pub items : (a : Asker) → AllByRecursion (λ (q : Ask). length q.items ≤ world_keys w) (asks_of w a)
  pub differ : (a : Asker) → PeersDiffer (asks_of w a)
  pub answered : (a : Asker) (p : ℕ) (q : Ask) → is_asker w a ≡ true → open_ask w a p ≡ Some q → (is_some (parcel_of a p q.number w.requests) ≡ true) ⊎ (is_some (parcel_of a p q.number w.answers) ≡ true)

-- the formula of `rest`, without its ends at 2^64 and 2^128
abbrev pub most_events : World → ℕ
most_events w = quiet_bound (max 1 w.sched.setting.clients) (under_way w) (worker_count w) (world_keys w) (edge_count (shape_of w))

abbrev pub StaysWithin : Type 0
StaysWithin = (w : World) → IsBounded w → measure w ≤ most_events w
