-- What 'some progress event is enabled' rests on: the gathers, the questions to the scheduler, and the clients.
use Rattle.std.specs.Prelude.{◌≡◌, ◌⊎◌, ℕ, ◌≤◌, ◌==◌, Bool, true, false, not, ◌&&◌, ◌||◌, List, [], ◌∷◌, Some, is_some, cond}
use Rattle.std.specs.List.{list_any, AllByRecursion}
use Rattle.cluster_msgs.specs.declared.messages.Down.{Down}
use Rattle.cluster_msgs.specs.declared.messages.Down.TheVariants.{ComputeTask, FreeKeys, StealRequest, RemoveReplicas, AcquireReplicas, RefreshWhoHas}
use Rattle.cluster_msgs.specs.declared.messages.Up.{Up}
use Rattle.cluster_msgs.specs.declared.messages.Up.TheVariants.{TaskFinished, TaskErred, AddKeys, ReleaseWorkerData, MissingData, RequestRefreshWhoHas, StealResponse}
use Rattle.cluster_msgs.specs.declared.messages.ToClient.{ToClient}
use Rattle.cluster_msgs.specs.declared.messages.ToClient.TheVariants.{KeyInMemory, LostData, ClientTaskErred}
use Rattle.cluster_msgs.specs.declared.messages.FromClient.{FromClient as ClientMessage}
use Rattle.cluster_msgs.specs.declared.messages.FromClient.TheVariants.{Want, Release, Missing}
use Rattle.cluster_msgs.specs.declared.events.Asker.{Asker}
use Rattle.cluster_rules.specs.Derived.{is_in}
use Rattle.cluster_rules.specs.Sched.{held, erred}
use Rattle.cluster_rules.specs.Worker.{Ask, is_asked_for, has_any}
use Rattle.cluster_rules.specs.World.{World, is_connected, is_client, is_asker, open_ask, parcel_of}

-- ## Gathers

-- an ask that is open, of one who may still ask, has its request or its answer under way
abbrev pub IsAnswered : World → Type 0
IsAnswered w = (a : Asker) (p : ℕ) (q : Ask) → is_asker w a ≡ true → open_ask w a p ≡ Some q → (is_some (parcel_of a p q.number w.requests) ≡ true) ⊎ (is_some (parcel_of a p q.number w.answers) ≡ true)

-- ## Questions to the scheduler

-- a message that asks who holds the key
abbrev pub questions : ℕ → Up → Bool
questions k (MissingData seen q x c) = q == k
questions k (RequestRefreshWhoHas seen q) = q == k
questions k (TaskFinished seen q a) = false
questions k (TaskErred seen q a) = false
questions k (AddKeys seen ks) = false
questions k (ReleaseWorkerData seen q) = false
questions k (StealResponse seen q a agreed) = false

-- a message that answers it
abbrev pub refreshes : ℕ → Down → Bool
refreshes k (RefreshWhoHas who) = list_any (λ p. p.0 == k) who
refreshes k (ComputeTask q a who) = false
refreshes k (FreeKeys ks) = false
refreshes k (StealRequest q a) = false
refreshes k (RemoveReplicas ks) = false
refreshes k (AcquireReplicas who) = false

-- what a connected worker has asked for, and hasn't heard of, is under way
abbrev pub IsRefreshing : World → Type 0
IsRefreshing w = (i k : ℕ) → w.alive i ≡ true → is_connected w i ≡ true → (w.workers i).asked k ≡ true → (list_any (questions k) (w.up i) || list_any (refreshes k) (w.down i)) ≡ true

-- ## Who is named as a holder

abbrev pub IsNumber : ℕ → ℕ → Type 0
IsNumber last p = (1 ≤ p) × (p ≤ last)

abbrev pub AreNumbers : ℕ → List (ℕ × ℕ) → Type 0
AreNumbers last hs = AllByRecursion (λ (h : ℕ × ℕ). IsNumber last h.0) hs

abbrev pub AreHolders : ℕ → List (ℕ × List (ℕ × ℕ)) → Type 0
AreHolders last who = AllByRecursion (λ (p : ℕ × List (ℕ × ℕ)). AreNumbers last p.1) who

abbrev pub AreNumbersDown : ℕ → Down → Type 0
AreNumbersDown last (ComputeTask q a who) = AreHolders last who
AreNumbersDown last (AcquireReplicas who) = AreHolders last who
AreNumbersDown last (RefreshWhoHas who) = AreHolders last who
AreNumbersDown last (FreeKeys ks) = Unit {0}
AreNumbersDown last (StealRequest q a) = Unit {0}
AreNumbersDown last (RemoveReplicas ks) = Unit {0}

abbrev pub AreNumbersNews : ℕ → ToClient → Type 0
AreNumbersNews last (KeyInMemory k hs) = AreNumbers last hs
AreNumbersNews last (LostData k) = Unit {0}
AreNumbersNews last (ClientTaskErred k b) = Unit {0}

-- each worker that is named as a holder, or asked, has a number that was given
pub record AreNamed (w : World) : Type 0 where
  pub holders : (i k : ℕ) → AreNumbers w.sched.last_worker ((w.workers i).holders k)
  pub asks : (i : ℕ) → AllByRecursion (λ (q : Ask). IsNumber w.sched.last_worker q.peer) (w.workers i).asks
  pub located : (c k : ℕ) → AreNumbers w.sched.last_worker ((w.clients c).located k)
  pub client_asks : (c : ℕ) → AllByRecursion (λ (q : Ask). IsNumber w.sched.last_worker q.peer) (w.clients c).asks
  pub down : (i : ℕ) → AllByRecursion (AreNumbersDown w.sched.last_worker) (w.down i)
  pub news : (c : ℕ) → AllByRecursion (AreNumbersNews w.sched.last_worker) (w.to_client c)

-- ## Clients

-- whether the client will be counted to want the key once what is under way from it has come
abbrev pub wants_then : ℕ → ClientMessage → Bool → Bool
wants_then k (Want ks) b = b || is_in k ks
wants_then k (Release ks) b = b && not (is_in k ks)
wants_then k (Missing q p c) b = b

abbrev pub wants_at_last : ℕ → List ClientMessage → Bool → Bool
wants_at_last k [] b = b
wants_at_last k (m ∷ ms) b = wants_at_last k ms (wants_then k m b)

abbrev pub names_want : ℕ → ClientMessage → Bool
names_want k (Want ks) = is_in k ks
names_want k (Release ks) = false
names_want k (Missing q p c) = false

abbrev pub misses : ℕ → ClientMessage → Bool
misses k (Missing q p c) = q == k
misses k (Want ks) = false
misses k (Release ks) = false

abbrev pub is_news : ℕ → ToClient → Bool
is_news k (KeyInMemory q hs) = q == k
is_news k (LostData q) = q == k
is_news k (ClientTaskErred q b) = q == k

-- the last message of the key says that it is held, or that it has erred
abbrev pub tells_memory : ToClient → Bool
tells_memory (KeyInMemory q hs) = has_any hs
tells_memory (LostData q) = false
tells_memory (ClientTaskErred q b) = false

abbrev pub tells_error : ToClient → Bool
tells_error (ClientTaskErred q b) = true
tells_error (KeyInMemory q hs) = false
tells_error (LostData q) = false

abbrev pub last_news : (ToClient → Bool) → ℕ → List ToClient → Bool → Bool
last_news t k [] b = b
last_news t k (m ∷ ms) b = last_news t k ms (cond (is_news k m) (t m) b)

-- of client c and key k
pub record IsServed (w : World) (c k : ℕ) : Type 0 where
  -- the scheduler's want, once it has heard what is under way, is the client's
  pub want : wants_at_last k (w.from_client c) (w.sched.want c k) ≡ (w.clients c).wants k
  -- the last news of a held key says so, and that of an erred one too
  pub held_told : w.sched.want c k ≡ true → list_any (is_news k) (w.to_client c) ≡ true → held w.sched k ≡ true → last_news tells_memory k (w.to_client c) false ≡ true
  pub erred_told : w.sched.want c k ≡ true → list_any (is_news k) (w.to_client c) ≡ true → erred w.sched k ≡ true → last_news tells_error k (w.to_client c) false ≡ true
  -- with no news and no new want under way: the client has an erred key's failure, or its block
  pub erred_known : w.sched.want c k ≡ true → (w.clients c).wants k ≡ true → erred w.sched k ≡ true → list_any (names_want k) (w.from_client c) ≡ false → list_any (is_news k) (w.to_client c) ≡ false
      → ((w.clients c).got k || is_some ((w.clients c).failed k)) ≡ true
  -- and of a held key it has the block, or knows a holder, or asks one, or has told that a copy wasn't there
  pub held_known : w.sched.want c k ≡ true → (w.clients c).wants k ≡ true → held w.sched k ≡ true → list_any (names_want k) (w.from_client c) ≡ false → list_any (is_news k) (w.to_client c) ≡ false
      → ((w.clients c).got k || (has_any ((w.clients c).located k) || (is_asked_for (w.clients c).asks k || list_any (misses k) (w.from_client c)))) ≡ true

abbrev pub AreServed : World → Type 0
AreServed w = (c k : ℕ) → is_client w c ≡ true → IsServed w c k

-- ## Threads

-- a worker that is alive has a thread
abbrev pub HaveThreads : World → Type 0
HaveThreads w = (i : ℕ) → w.alive i ≡ true → 1 ≤ (w.workers i).threads
