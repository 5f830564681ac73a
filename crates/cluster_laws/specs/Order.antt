-- Lists whose members stand in an order.
use Rattle.std.specs.Prelude.{◌≡◌, ◌⊎◌, ℕ, ◌<◌, List, [], ◌∷◌}
use Rattle.std.specs.List.{AllByRecursion}
use Rattle.cluster_msgs.specs.declared.messages.Down.{Down}
use Rattle.cluster_msgs.specs.declared.messages.Down.TheVariants.{ComputeTask, FreeKeys, StealRequest, RemoveReplicas, AcquireReplicas, RefreshWhoHas}
use Rattle.cluster_msgs.specs.declared.messages.ToClient.{ToClient}
use Rattle.cluster_msgs.specs.declared.messages.ToClient.TheVariants.{KeyInMemory, LostData, ClientTaskErred}

-- each member stands in this relation to all later ones
abbrev pub Ascends : {A : Type 0} → (A → A → Type 0) → List A → Type 0
Ascends R [] = Unit {0}
Ascends R (x ∷ xs) = AllByRecursion (R x) xs × Ascends R xs

-- the key of a compute-task
abbrev pub task_key : Down → ℕ
task_key (ComputeTask k a who) = k
task_key (FreeKeys ks) = 0
task_key (StealRequest k a) = 0
task_key (RemoveReplicas ks) = 0
task_key (AcquireReplicas who) = 0
task_key (RefreshWhoHas who) = 0

-- the key that a client hears of
abbrev pub client_key : ToClient → ℕ
client_key (KeyInMemory k hs) = k
client_key (LostData k) = k
client_key (ClientTaskErred k b) = k

-- the lesser client first, then the lesser key
abbrev pub IsToldBefore : ℕ × ToClient → ℕ × ToClient → Type 0
IsToldBefore m n = (m.0 < n.0) ⊎ ((m.0 ≡ n.0) × (client_key m.1 < client_key n.1))
