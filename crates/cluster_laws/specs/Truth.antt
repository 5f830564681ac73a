-- What is true of blocks and failures, at each worker, on each link and at each client.
use Rattle.std.specs.Prelude.{◌≡◌, ◌⊎◌, ℕ, ◌+◌, Bool, true, false, not, ◌&&◌, List, Some}
use Rattle.std.specs.List.{list_all, AllByRecursion}
use Rattle.cluster_msgs.specs.Shape.{deps_of}
use Rattle.cluster_msgs.specs.Values.{cone}
use Rattle.cluster_msgs.specs.declared.messages.Up.{Up}
use Rattle.cluster_msgs.specs.declared.messages.Up.TheVariants.{TaskFinished, TaskErred, AddKeys, ReleaseWorkerData, MissingData, RequestRefreshWhoHas, StealResponse}
use Rattle.cluster_msgs.specs.declared.messages.ToClient.{ToClient}
use Rattle.cluster_msgs.specs.declared.messages.ToClient.TheVariants.{KeyInMemory, LostData, ClientTaskErred}
use Rattle.cluster_msgs.specs.declared.cores.WorkerEvent.{WorkerEvent}
use Rattle.cluster_msgs.specs.declared.cores.WorkerEvent.TheVariants.{Down as Told, Start, Done, Ask as AskPeer, Gathered, GatherFailed, DataLost}
use Rattle.cluster_msgs.specs.declared.cores.ClientEvent.{ClientEvent}
use Rattle.cluster_msgs.specs.declared.cores.ClientEvent.TheVariants.{Want, Release, FromScheduler, Ask as ClientAsk, Gathered as ClientGathered, GatherFailed as ClientGatherFailed}
use Rattle.cluster_msgs.specs.declared.cores.SchedEvent.{SchedEvent}
use Rattle.cluster_msgs.specs.declared.cores.SchedEvent.TheVariants.{Join, Leave, FromWorker, FromClient, Balance, Evict, Replicate}
use Rattle.cluster_rules.specs.Sched.{Facts, is_on, is_above, known}
use Rattle.cluster_rules.specs.SchedTable.{left}
use Rattle.cluster_rules.specs.Worker.{WorkerFacts}
use Rattle.cluster_rules.specs.Client.{ClientFacts}
use Rattle.cluster_rules.specs.World.{Job, World, Parcel}

-- each dependency of the key has a value
abbrev pub has_inputs : Job → ℕ → Bool
has_inputs j k = list_all (λ d. not (j.zero d)) (deps_of j.setting.shape k)

-- the key's own operation meets a zero divisor
abbrev pub faulty_key : Job → ℕ → Bool
faulty_key j k = has_inputs j k && j.zero k

-- a key that may count as erred by itself: its own operation meets a zero divisor, or something else excuses it. What
-- does is a parameter here, and no proof that carries it along looks into it: that it was killed, or nothing
abbrev pub MayErr : (ℕ → Type 0) → Job → ℕ → Type 0
MayErr excused j k = (faulty_key j k ≡ true) ⊎ excused k

abbrev pub no_excuse : ℕ → Type 0
no_excuse k = ⊥

-- where it doesn't matter what excuses an error
abbrev pub anything : ℕ → Type 0
anything k = Unit {0}

-- a failure of k is blamed on b: that key may err, and k is it or depends on it
pub record IsBlame (excused : ℕ → Type 0) (j : Job) (k b : ℕ) : Type 0 where
  pub fault : MayErr excused j b
  pub within : cone (deps_of j.setting.shape) k b ≡ true

-- a block is there only of a key with a value, and a key runs only on inputs that have values
pub record IsTrueKey (zero inputs mem running : Bool) : Type 0 where
  pub valued : mem ≡ true → zero ≡ false
  pub fed : running ≡ true → inputs ≡ true

pub record IsTrueWorker (j : Job) (w : WorkerFacts) : Type 0 where
  pub shape : w.shape ≡ j.setting.shape
  pub at : (k : ℕ) → IsTrueKey (j.zero k) (has_inputs j k) (w.mem k) (w.running k)

-- these keys have values
abbrev pub AreValued : Job → List ℕ → Type 0
AreValued j ks = AllByRecursion (λ k. j.zero k ≡ false) ks

-- an event of a worker that goes by the job: an outcome is the key's, and blocks come only of keys with values
abbrev pub IsTrueEvent : Job → WorkerEvent → Type 0
IsTrueEvent j (Done k is_zero) = is_zero ≡ j.zero k
IsTrueEvent j (Gathered p n found) = AreValued j found
IsTrueEvent j (Told m) = Unit {0}
IsTrueEvent j Start = Unit {0}
IsTrueEvent j (AskPeer p) = Unit {0}
IsTrueEvent j (GatherFailed p n) = Unit {0}
IsTrueEvent j (DataLost k) = Unit {0}

-- an error that a worker reports is of a faulty key
abbrev pub IsTrueUp : Job → Up → Type 0
IsTrueUp j (TaskErred seen k a) = faulty_key j k ≡ true
IsTrueUp j (TaskFinished seen k a) = Unit {0}
IsTrueUp j (AddKeys seen ks) = Unit {0}
IsTrueUp j (ReleaseWorkerData seen k) = Unit {0}
IsTrueUp j (MissingData seen k x c) = Unit {0}
IsTrueUp j (RequestRefreshWhoHas seen k) = Unit {0}
IsTrueUp j (StealResponse seen k a agreed) = Unit {0}

-- a failure that a client is told of has its blame
abbrev pub IsTrueNews : (ℕ → Type 0) → Job → ToClient → Type 0
IsTrueNews excused j (ClientTaskErred k b) = IsBlame excused j k b
IsTrueNews excused j (KeyInMemory k holders) = Unit {0}
IsTrueNews excused j (LostData k) = Unit {0}

pub record IsTrueSched (excused : ℕ → Type 0) (j : Job) (f : Facts) : Type 0 where
  pub setting : f.setting ≡ j.setting
  pub bad : (k : ℕ) → f.bad k ≡ true → MayErr excused j k

pub record IsTrueClient (excused : ℕ → Type 0) (j : Job) (c : ClientFacts) : Type 0 where
  pub got : (k : ℕ) → c.got k ≡ true → j.zero k ≡ false
  pub failed : (k b : ℕ) → c.failed k ≡ Some b → IsBlame excused j k b

pub record IsTrueWorld (excused : ℕ → Type 0) (j : Job) (w : World) : Type 0 where
  pub sched : IsTrueSched excused j w.sched
  pub workers : (i : ℕ) → IsTrueWorker j (w.workers i)
  pub clients : (c : ℕ) → IsTrueClient excused j (w.clients c)
  pub up : (i : ℕ) → AllByRecursion (IsTrueUp j) (w.up i)
  pub to_client : (c : ℕ) → AllByRecursion (IsTrueNews excused j) (w.to_client c)
  pub answers : AllByRecursion (λ (q : Parcel). AreValued j q.keys) w.answers

-- an event of a client that goes by the job
abbrev pub IsTrueClientEvent : (ℕ → Type 0) → Job → ClientEvent → Type 0
IsTrueClientEvent excused j (FromScheduler m) = IsTrueNews excused j m
IsTrueClientEvent excused j (ClientGathered p n found) = AreValued j found
IsTrueClientEvent excused j (Want ks) = Unit {0}
IsTrueClientEvent excused j (Release ks) = Unit {0}
IsTrueClientEvent excused j (ClientAsk p) = Unit {0}
IsTrueClientEvent excused j (ClientGatherFailed p n) = Unit {0}

-- an event of the scheduler that goes by the job
abbrev pub IsTrueSchedEvent : Job → SchedEvent → Type 0
IsTrueSchedEvent j (FromWorker w up) = IsTrueUp j up
IsTrueSchedEvent j (Join threads) = Unit {0}
IsTrueSchedEvent j (Leave w) = Unit {0}
IsTrueSchedEvent j (FromClient c msg) = Unit {0}
IsTrueSchedEvent j Balance = Unit {0}
IsTrueSchedEvent j Evict = Unit {0}
IsTrueSchedEvent j (Replicate k w) = Unit {0}

-- worker i's leaving makes the key a killed one: it was assigned to i, and with this loss it has more than are allowed
pub record IsKilledBy (f : Facts) (i k : ℕ) : Type 0 where
  pub on : is_on f i k ≡ true
  pub above : is_above f.setting.allowed (f.losses k + 1) ≡ true
  pub known : known (left f i) k ≡ true
