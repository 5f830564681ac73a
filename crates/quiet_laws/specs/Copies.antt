-- Copies that are named are below a number.
use Rattle.std.specs.Prelude.{◌≡◌, ℕ, ◌<◌, List, Some}
use Rattle.std.specs.List.{AllByRecursion}
use Rattle.cluster_msgs.specs.declared.messages.Down.{Down}
use Rattle.cluster_msgs.specs.declared.messages.Down.TheVariants.{ComputeTask, FreeKeys, StealRequest, RemoveReplicas, AcquireReplicas, RefreshWhoHas}
use Rattle.cluster_msgs.specs.declared.messages.ToClient.{ToClient}
use Rattle.cluster_msgs.specs.declared.messages.ToClient.TheVariants.{KeyInMemory, LostData, ClientTaskErred}
use Rattle.cluster_rules.specs.Sched.{Facts}

abbrev pub AreOldHolders : ℕ → List (ℕ × ℕ) → Type 0
AreOldHolders n hs = AllByRecursion (λ (h : ℕ × ℕ). h.1 < n) hs

abbrev pub AreOldWho : ℕ → List (ℕ × List (ℕ × ℕ)) → Type 0
AreOldWho n who = AllByRecursion (λ (p : ℕ × List (ℕ × ℕ)). AreOldHolders n p.1) who

abbrev pub IsOldDown : ℕ → Down → Type 0
IsOldDown n (ComputeTask q a who) = AreOldWho n who
IsOldDown n (AcquireReplicas who) = AreOldWho n who
IsOldDown n (RefreshWhoHas who) = AreOldWho n who
IsOldDown n (FreeKeys ks) = Unit {0}
IsOldDown n (StealRequest q a) = Unit {0}
IsOldDown n (RemoveReplicas ks) = Unit {0}

abbrev pub IsOldNews : ℕ → ToClient → Type 0
IsOldNews n (KeyInMemory k hs) = AreOldHolders n hs
IsOldNews n (LostData k) = Unit {0}
IsOldNews n (ClientTaskErred k b) = Unit {0}

-- each copy that the scheduler counts
abbrev pub HasBelow : ℕ → Facts → Type 0
HasBelow n f = (x k c : ℕ) → f.has x k ≡ Some c → c < n
