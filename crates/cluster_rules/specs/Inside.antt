-- Nothing names a key that isn't there, so whoever is handed an enabled event takes it.
use Rattle.std.specs.Prelude.{◌≡◌, ℕ, nat_lt, true, List, [], ◌∷◌, map}
use Rattle.std.specs.List.{AllByRecursion}
use Rattle.cluster_msgs.specs.Shape.{Shape, key_count}
use Rattle.cluster_msgs.specs.declared.messages.Down.{Down}
use Rattle.cluster_msgs.specs.declared.messages.Down.TheVariants.{ComputeTask, FreeKeys, StealRequest, RemoveReplicas, AcquireReplicas, RefreshWhoHas}
use Rattle.cluster_msgs.specs.declared.messages.ToClient.{ToClient}
use Rattle.cluster_msgs.specs.declared.messages.ToClient.TheVariants.{KeyInMemory, LostData, ClientTaskErred}
use Rattle.cluster_rules.specs.SchedTable.{up_keys, client_keys}
use Rattle.cluster_rules.specs.Worker.{Ask, WorkerFacts}
use Rattle.cluster_rules.specs.Client.{ClientFacts}
use Rattle.cluster_rules.specs.World.{World, Parcel}

-- the key is one of the graph's
abbrev pub IsKey : Shape → ℕ → Type 0
IsKey g k = nat_lt k (key_count g) ≡ true

abbrev pub AreKeys : Shape → List ℕ → Type 0
AreKeys g ks = AllByRecursion (IsKey g) ks

abbrev pub named_keys : List (ℕ × List (ℕ × ℕ)) → List ℕ
named_keys who = map (λ p. p.0) who

-- the keys that a message of the scheduler names
abbrev pub down_keys : Down → List ℕ
down_keys (ComputeTask k a who) = k ∷ named_keys who
down_keys (FreeKeys ks) = ks
down_keys (StealRequest k a) = k ∷ []
down_keys (RemoveReplicas ks) = ks
down_keys (AcquireReplicas who) = named_keys who
down_keys (RefreshWhoHas who) = named_keys who

abbrev pub news_keys : ToClient → List ℕ
news_keys (KeyInMemory k holders) = k ∷ []
news_keys (LostData k) = k ∷ []
news_keys (ClientTaskErred k blame) = k ∷ blame ∷ []

abbrev pub item_keys : Ask → List ℕ
item_keys a = map (λ i. i.0) a.items

pub record IsInsideWorker (g : Shape) (w : WorkerFacts) : Type 0 where
  pub shape : w.shape ≡ g
  pub mem : (k : ℕ) → w.mem k ≡ true → IsKey g k
  pub running : (k : ℕ) → w.running k ≡ true → IsKey g k
  pub asks : AllByRecursion (λ (a : Ask). AreKeys g (item_keys a)) w.asks

pub record IsInsideClient (g : Shape) (c : ClientFacts) : Type 0 where
  pub shape : c.shape ≡ g
  pub asks : AllByRecursion (λ (a : Ask). AreKeys g (item_keys a)) c.asks

pub record IsInsideWorld (g : Shape) (w : World) : Type 0 where
  pub shape : w.sched.setting.shape ≡ g
  pub workers : (i : ℕ) → IsInsideWorker g (w.workers i)
  pub clients : (c : ℕ) → IsInsideClient g (w.clients c)
  pub spilled : (i k : ℕ) → w.spilled i k ≡ true → IsKey g k
  pub down : (i : ℕ) → AllByRecursion (λ m. AreKeys g (down_keys m)) (w.down i)
  pub up : (i : ℕ) → AllByRecursion (λ m. AreKeys g (up_keys m)) (w.up i)
  pub to_client : (c : ℕ) → AllByRecursion (λ m. AreKeys g (news_keys m)) (w.to_client c)
  pub from_client : (c : ℕ) → AllByRecursion (λ m. AreKeys g (client_keys m)) (w.from_client c)
  pub requests : AllByRecursion (λ (q : Parcel). AreKeys g q.keys) w.requests
  pub answers : AllByRecursion (λ (q : Parcel). AreKeys g q.keys) w.answers
