-- That the events of workers and of gathers lower the measure: the exact statements.
use Rattle.std.specs.Prelude.{◌≡◌, ℕ, ◌<◌, ◌==◌, Bool, true, false, not, ◌&&◌, List, [], ◌∷◌, Some, None}
use Rattle.std.specs.List.{list_any, AllByRecursion}
use Rattle.cluster_msgs.specs.declared.messages.Down.{Down}
use Rattle.cluster_msgs.specs.declared.messages.Down.TheVariants.{ComputeTask, FreeKeys, StealRequest, RemoveReplicas, AcquireReplicas, RefreshWhoHas}
use Rattle.cluster_msgs.specs.declared.events.Asker.{Asker}
use Rattle.cluster_msgs.specs.declared.events.Asker.TheVariants.{Worker, Client}
use Rattle.cluster_msgs.specs.declared.events.Event.TheVariants.{DeliverDown, SendGather, ArriveGather, FailGather}
use Rattle.cluster_rules.specs.Derived.{is_in}
use Rattle.cluster_rules.specs.Sched.{IsSound, deps}
use Rattle.cluster_rules.specs.Worker.{Ask, has_any, ask_to}
use Rattle.cluster_rules.specs.WorkerKept.{IsKept}
use Rattle.cluster_rules.specs.World.{Job, World, Parcel, same_asker, shape_of, is_connected, open_ask}
use Rattle.cluster_rules.specs.WorldStep.{world_step}
use Rattle.cluster_rules.specs.Enabled.{enabled, is_quiet_asker}
use Rattle.cluster_rules.specs.Inside.{named_keys, IsInsideWorld}
use Rattle.quiet_measure.specs.Measure.{Falls}

-- ## Premises

-- a message is first on the link to a worker that is alive and connected
pub record IsFirst (w : World) (i : ℕ) (m : Down) (ms : List Down) : Type 0 where
  pub first : w.down i ≡ m ∷ ms
  pub sound : IsSound w.sched
  pub inside : IsInsideWorld (shape_of w) w
  pub kept : IsKept (w.workers i)
  -- the worker knows its own number
  pub id : (w.workers i).id ≡ i
  pub there : is_connected w i ≡ true
  pub alive : w.alive i ≡ true

-- an answer that nobody holds the key
abbrev pub is_vain : ℕ → Down → Bool
is_vain k (RefreshWhoHas who) = list_any (λ (p : ℕ × List (ℕ × ℕ)). p.0 == k && not (has_any p.1)) who
is_vain k (ComputeTask q a who) = false
is_vain k (FreeKeys ks) = false
is_vain k (StealRequest q a) = false
is_vain k (RemoveReplicas ks) = false
is_vain k (AcquireReplicas who) = false

-- an answer to a worker doesn't name that worker
abbrev pub NamesOthers : ℕ → Down → Type 0
NamesOthers i (RefreshWhoHas who) = AllByRecursion (λ (p : ℕ × List (ℕ × ℕ)). list_any (λ h. h.0 == i) p.1 ≡ false) who
NamesOthers i (ComputeTask k a who) = Unit {0}
NamesOthers i (FreeKeys ks) = Unit {0}
NamesOthers i (StealRequest k a) = Unit {0}
NamesOthers i (RemoveReplicas ks) = Unit {0}
NamesOthers i (AcquireReplicas who) = Unit {0}

-- a task comes with a list for each of its dependencies
abbrev pub NamesDeps : (ℕ → List ℕ) → Down → Type 0
NamesDeps ds (ComputeTask k a who) = named_keys who ≡ ds k
NamesDeps ds (FreeKeys ks) = Unit {0}
NamesDeps ds (StealRequest k a) = Unit {0}
NamesDeps ds (RemoveReplicas ks) = Unit {0}
NamesDeps ds (AcquireReplicas who) = Unit {0}
NamesDeps ds (RefreshWhoHas who) = Unit {0}

-- what nobody holds isn't a dependency of a task of the worker
abbrev pub IsVainInTime : World → ℕ → Down → Type 0
IsVainInTime w i m = (k j : ℕ) → is_vain k m ≡ true → is_in k (deps w.sched j) ≡ true → (w.workers i).mine j ≡ None

-- what an asker that may still gather has
abbrev pub next_ask_of : World → Asker → ℕ
next_ask_of w (Worker i) = (w.workers i).next_ask
next_ask_of w (Client c) = (w.clients c).next_ask

abbrev pub IsKeptAsker : World → Asker → Type 0
IsKeptAsker w (Worker i) = IsKept (w.workers i)
IsKeptAsker w (Client c) = Unit {0}

-- the open asks of an asker
abbrev pub asks_of : World → Asker → List Ask
asks_of w (Worker i) = (w.workers i).asks
asks_of w (Client c) = (w.clients c).asks

-- at most one ask is open to each peer
abbrev pub PeersDiffer : List Ask → Type 0
PeersDiffer [] = Unit {0}
PeersDiffer (a ∷ qs) = (ask_to qs a.peer ≡ None) × PeersDiffer qs

pub record MayGather (w : World) (a : Asker) : Type 0 where
  pub sound : IsSound w.sched
  pub inside : IsInsideWorld (shape_of w) w
  pub kept : IsKeptAsker w a
  pub quiet : is_quiet_asker w a ≡ true
  -- the number of the next ask is above those of all answers under way
  pub fresh : AllByRecursion (λ (q : Parcel). same_asker q.asker a ≡ true → q.ask < next_ask_of w a) w.answers
  -- at most one ask is open to each peer, and each names a key
  pub differ : PeersDiffer (asks_of w a)
  pub some : (p : ℕ) (q : Ask) → open_ask w a p ≡ Some q → has_any q.items ≡ true

-- ## Statements

abbrev pub RefreshFalls : Type 0
RefreshFalls = (j : Job) (w : World) (i : ℕ) (who : List (ℕ × List (ℕ × ℕ))) (ms : List Down) → IsFirst w i (RefreshWhoHas who) ms
    → NamesOthers i (RefreshWhoHas who) → IsVainInTime w i (RefreshWhoHas who) → Falls w (world_step j w (DeliverDown i))

abbrev pub AcquireFalls : Type 0
AcquireFalls = (j : Job) (w : World) (i : ℕ) (who : List (ℕ × List (ℕ × ℕ))) (ms : List Down) → IsFirst w i (AcquireReplicas who) ms → Falls w (world_step j w (DeliverDown i))

abbrev pub TaskFalls : Type 0
TaskFalls = (j : Job) (w : World) (i k a : ℕ) (who : List (ℕ × List (ℕ × ℕ))) (ms : List Down) → IsFirst w i (ComputeTask k a who) ms
    → NamesDeps (deps w.sched) (ComputeTask k a who) → Falls w (world_step j w (DeliverDown i))

abbrev pub FreeFalls : Type 0
FreeFalls = (j : Job) (w : World) (i : ℕ) (ks : List ℕ) (ms : List Down) → IsFirst w i (FreeKeys ks) ms → Falls w (world_step j w (DeliverDown i))

abbrev pub RemoveFalls : Type 0
RemoveFalls = (j : Job) (w : World) (i : ℕ) (ks : List ℕ) (ms : List Down) → IsFirst w i (RemoveReplicas ks) ms → Falls w (world_step j w (DeliverDown i))

abbrev pub SendFalls : Type 0
SendFalls = (j : Job) (w : World) (a : Asker) (p : ℕ) → MayGather w a → enabled w (SendGather a p) ≡ true → Falls w (world_step j w (SendGather a p))

abbrev pub ArriveFalls : Type 0
ArriveFalls = (j : Job) (w : World) (a : Asker) (p n : ℕ) → MayGather w a → enabled w (ArriveGather a p n) ≡ true → Falls w (world_step j w (ArriveGather a p n))

abbrev pub FailFalls : Type 0
FailFalls = (j : Job) (w : World) (a : Asker) (p : ℕ) → MayGather w a → w.alive p ≡ false → enabled w (FailGather a p) ≡ true → Falls w (world_step j w (FailGather a p))
