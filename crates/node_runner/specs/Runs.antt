-- How a run by threads ended.
use Rattle.std.specs.Prelude.{◌≡◌, ◌≢◌, ℕ, ◌+◌, ◌^◌, ◌<◌, ◌≤◌, ◌⊎◌, Bool, true, false, List, [], ◌∷◌, ◌++◌, length, map, sum, slice_index_or, Option, Some, None, All, IfOk, IfSome, is_some, Result, Ok, Err, Contains, IsTrue}
use Rattle.cluster_msgs.specs.Shape.{Shape}
use Rattle.cluster_msgs.specs.Labels.{LabelFacts, BlameFits, ErrorFits}
use Rattle.cluster_msgs.specs.Scripts.{removes_of}
use Rattle.cluster_msgs.specs.Values.{cone}
use Rattle.cluster_msgs.specs.declared.events.Entry.{Entry}
use Rattle.cluster_msgs.specs.declared.events.Item.{Item}
use Rattle.cluster_msgs.specs.declared.events.Item.TheVariants as item
use Rattle.cluster_msgs.specs.declared.events.History.{History}
use Rattle.cluster_rules.specs.Sched.{Facts, Setting, connected, sched_opening}
use Rattle.cluster_rules.specs.Worker.{WorkerFacts, new_worker}
use Rattle.cluster_rules.specs.Client.{ClientFacts, done, new_client}
use Rattle.cluster_msgs.specs.declared.cores.End.TheVariants.{Got}
use Rattle.turn_cell.specs.Histories.{Ascending, Replays}
use Rattle.turn_cell.specs.Rows.{AllBy}
use Rattle.node_links.specs.Books.{BookState, IsNext, IsWithin, Steps}
use Rattle.node_states.specs.Fitting.{SchedEventFits, WorkerEventFits, ClientEventFits, ClientFits}
use Rattle.scheduler_core.specs.Cores.{facts}
use Rattle.node_states.specs.Machines.{SchedState, SchedSays, SchedBy, WorkerSays, WorkerBy, ClientSays, ClientBy, scheduler_bytes, node_bytes}
use Rattle.node_states.specs.Order.{AreInTime, start_of, joins_of}
use Rattle.node_states.specs.Released.{WasReleased}
use Rattle.node_states.specs.Workers.{ends_last}
use Rattle.node_states.specs.declared.choice.Plan.{Plan}
use Rattle.node_states.specs.declared.why.Why.{Why}
use Rattle.node_states.specs.declared.why.Why.TheVariants as why
use Rattle.node_runner.specs.declared.plan.RunPlan.{RunPlan}
use Rattle.node_runner.specs.declared.ends.RunStatus.{RunStatus}
use Rattle.node_runner.specs.declared.ends.RunStatus.TheVariants as status
use Rattle.node_runner.specs.declared.ends.Failure.{Failure}
use Rattle.node_runner.specs.declared.ends.Failure.TheVariants as failure
use Rattle.node_runner.specs.declared.ends.Doubt.{Doubt}
use Rattle.node_runner.specs.declared.ends.Doubt.TheVariants as doubt
use Rattle.node_runner.specs.declared.ends.Histories.{Histories}

-- how many worker numbers a run may have: those of the plan, and one for each join of the script
abbrev pub numbers : RunPlan → ℕ
numbers p = p.workers + sum (map joins_of p.script)

-- what the scheduler's node goes by
abbrev pub course_of : RunPlan → Plan
course_of p = record { workers = p.workers; threads = p.threads; script = p.script }

-- one client, and what the plan allows
abbrev pub setting_of : Shape → RunPlan → Setting
setting_of graph p = record { shape = graph; clients = 1; saturation = p.saturation; allowed = p.allowed }

-- how many items of the script take a worker away
abbrev pub removals : RunPlan → ℕ
removals p = sum (map removes_of p.script)

-- the cores with which the scheduler, worker `id` and the client begin
pub record IsFirstScheduler (graph : Shape) (p : RunPlan) (c : SchedState) : Type 0 where
  pub facts_are : facts c.core ≡ sched_opening (setting_of graph p)
  pub plan_is : c.plan ≡ course_of p

pub record IsFirstWorker (graph : Shape) (threads id number : ℕ) (w : WorkerFacts) : Type 0 where
  pub number_is : number ≡ id
  pub facts_are : w ≡ new_worker graph id threads

pub record IsFirstClient (graph : Shape) (number : ℕ) (c : ClientFacts) : Type 0 where
  pub number_is : number ≡ 1
  pub facts_are : c ≡ new_client graph

-- what an entry makes of the scheduler's facts, of worker `id`'s and of the client's. What it tells of errors fits the label
abbrev pub SchedSteps : {B : Type 0} → LabelFacts B → Facts → Entry → Facts → Type 0
SchedSteps l = Steps SchedSays (λ f e g. SchedBy f e g × SchedEventFits l e)

abbrev pub WorkerSteps : {B : Type 0} → LabelFacts B → ℕ → WorkerFacts → Entry → WorkerFacts → Type 0
WorkerSteps l id = Steps (WorkerSays id) (λ w e v. WorkerBy w e v × WorkerEventFits l e)

abbrev pub ClientSteps : {B : Type 0} → LabelFacts B → ClientFacts → Entry → ClientFacts → Type 0
ClientSteps l = Steps (ClientSays 1) (λ c e d. ClientBy c e d × ClientEventFits l e)

-- the same of their cores: of the scheduler's with what its node goes by, of a worker's and of the client's with its number
abbrev pub SchedCoreSteps : {B : Type 0} → LabelFacts B → SchedState → Entry → SchedState → Type 0
SchedCoreSteps l = Steps (λ s. SchedSays (facts s.core)) (λ s e t. (t.plan ≡ s.plan) × SchedBy (facts s.core) e (facts t.core) × SchedEventFits l e)

abbrev pub WorkerCoreSteps : {B C : Type 0} → LabelFacts B → (C → ℕ) → (C → WorkerFacts) → C → Entry → C → Type 0
WorkerCoreSteps l number core =
    Steps (λ s. WorkerSays (number s) (core s)) (λ s e t. (number t ≡ number s) × WorkerBy (core s) e (core t) × WorkerEventFits l e)

abbrev pub ClientCoreSteps : {B C : Type 0} → LabelFacts B → (C → ℕ) → (C → ClientFacts) → C → Entry → C → Type 0
ClientCoreSteps l number core =
    Steps (λ s. ClientSays (number s) (core s)) (λ s e t. (number t ≡ number s) × ClientBy (core s) e (core t) × ClientEventFits l e)

-- the first entry that was left out, if one was, is the next step
abbrev pub IsNextStep : {F : Type 0} → (F → Entry → F → Type 0) → F → List Entry → Option Entry → Type 0
IsNextStep steps first entries None = Unit {0}
IsNextStep {F} steps first entries (Some e) = (d : F) × Replays steps first (entries ++ e ∷ []) d

-- a history that began with these facts: each entry is a step, and their stamps ascend. Where none was left out they lead to the last facts; else the
-- first that was is the step after them, and with it the history would pass this limit
pub record IsHistory {F : Type 0} (limit : ℕ) (steps : F → Entry → F → Type 0) (first last : F) (h : History) : Type 0 where
  pub replays : h.cut ≡ None → Replays steps first h.entries last
  pub next : IsNextStep steps first h.entries h.cut
  pub ascending : Ascending h.entries
  pub within : IsWithin limit h.entries h.cut

-- a closed node's book, as its facts: the entries lead from the first facts to those of the core that is kept with them, from which a step of the core
-- is one of the facts; and the stamps ascend
pub record IsBookOf {C F : Type 0} (view : C → F) (inner : C → Entry → C → Type 0) (steps : F → Entry → F → Type 0) (first : F) (b : BookState C) : Type 0 where
  pub replays : Replays steps first b.entries (view b.kept)
  pub onward : (e : Entry) (d : C) → inner b.kept e d → Replays steps (view b.kept) (e ∷ []) (view d)
  pub ascending : Ascending b.entries

-- the scheduler's: what it goes by, and the setting, are as at first
pub record IsSchedulersBook {B : Type 0} (l : LabelFacts B) (graph : Shape) (p : RunPlan) (b : BookState SchedState) : Type 0 where
  pub book : IsBookOf (λ c. facts c.core) (SchedCoreSteps l) (SchedSteps l) (sched_opening (setting_of graph p)) b
  pub plan_is : b.kept.plan ≡ course_of p
  pub setting_is : (facts b.kept.core).setting ≡ setting_of graph p

-- a worker's, by its number, and the client's
pub record IsWorkersBook {B C : Type 0} (l : LabelFacts B) (graph : Shape) (threads id : ℕ) (number : C → ℕ) (core : C → WorkerFacts) (b : BookState C) : Type 0 where
  pub book : IsBookOf core (WorkerCoreSteps l number core) (WorkerSteps l id) (new_worker graph id threads) b

pub record IsClientsBook {B C : Type 0} (l : LabelFacts B) (graph : Shape) (number : C → ℕ) (core : C → ClientFacts) (b : BookState C) : Type 0 where
  pub book : IsBookOf core (ClientCoreSteps l number core) (ClientSteps l) (new_client graph) b
  pub fits : ClientFits l (core b.core)

-- the history as it was taken from a book with this limit: the first entry that was left out is a step of the core that is kept, which without one is
-- the core, and which took no more events than there are entries
pub record IsTakenFrom {C : Type 0} (limit : ℕ) (inner : C → Entry → C → Type 0) (taken : C → ℕ) (b : BookState C) (h : History) : Type 0 where
  pub entries : h.entries ≡ b.entries
  pub cut : is_some h.cut ≡ b.cut
  pub next : IsNext inner b.kept h.cut
  pub last : b.cut ≡ false → b.kept ≡ b.core
  pub few : taken b.kept ≤ length h.entries
  pub within : IsWithin limit h.entries h.cut

-- the scheduler's, a worker's and the client's
abbrev pub IsFromScheduler : {B : Type 0} → LabelFacts B → BookState SchedState → History → Type 0
IsFromScheduler l = IsTakenFrom scheduler_bytes (SchedCoreSteps l) (λ s. s.core.taken)

abbrev pub IsFromWorker : {B C : Type 0} → LabelFacts B → (C → ℕ) → (C → WorkerFacts) → (C → ℕ) → BookState C → History → Type 0
IsFromWorker l number core taken = IsTakenFrom node_bytes (WorkerCoreSteps l number core) taken

abbrev pub IsFromClient : {B C : Type 0} → LabelFacts B → (C → ℕ) → (C → ClientFacts) → (C → ℕ) → BookState C → History → Type 0
IsFromClient l number core taken = IsTakenFrom node_bytes (ClientCoreSteps l number core) taken

-- what the nodes know at the end: the scheduler, each worker by its number, from 1, and the client
pub record LastFacts : Type 0 where
  pub scheduler : Facts
  pub workers : List WorkerFacts
  pub client : ClientFacts

abbrev pub last_facts : Facts → List WorkerFacts → ClientFacts → LastFacts
last_facts f ws c = record { scheduler = f; workers = ws; client = c }

-- the histories of the scheduler, of the workers by number and of the client, each within the limit of its node
pub record AreHistories {B : Type 0} (l : LabelFacts B) (graph : Shape) (p : RunPlan) (last : LastFacts) (h : Histories) : Type 0 where
  pub scheduler : IsHistory scheduler_bytes (SchedSteps l) (sched_opening (setting_of graph p)) last.scheduler h.scheduler
  pub workers : AllBy (λ k w x. IsHistory node_bytes (WorkerSteps l (k + 1)) (new_worker graph (k + 1) p.threads) w x) last.workers h.workers.items
  pub client : IsHistory node_bytes (ClientSteps l) (new_client graph) last.client h.client
  -- the plan's workers join first, Evict comes after each 64 entries and Balance after each 16 where they have a choice, then the script's items
  pub in_time : h.scheduler.cut ≡ None → AreInTime (course_of p) (start_of (setting_of graph p)) h.scheduler.entries

-- an item of the script names the worker
abbrev pub Names : ℕ → Item → Type 0
Names w (item.Lose v at) = v ≡ w
Names w (item.Suspect v at) = v ≡ w
Names w (item.Join at) = ⊥

pub record IsNamed (script : List Item) (w : ℕ) : Type 0 where
  pub which : Item
  pub among : Contains script which
  pub names : Names w which

-- a worker that joined left for this cause: these entries say its end, or one was left out, or it isn't connected any more. By the script only where an
-- item names it, and by no link's end, which a run in one process doesn't have
pub record IsLeft (p : RunPlan) (f : Facts) (w : ℕ) (entries : List Entry) (cut : Bool) (cause : Why) : Type 0 where
  pub joined : w ≤ f.last_worker
  pub gone : (cut ≡ false → ends_last w entries ≡ true) ⊎ (connected f w ≡ false)
  pub script : cause ≡ why.Script → IsNamed p.script w
  pub unlinked : cause ≢ why.Link

-- which workers left, by number from 1, and why
abbrev pub AreLeft : RunPlan → LastFacts → List History → List (Option Why) → Type 0
AreLeft p last histories left = AllBy (λ k h o. IfSome o (IsLeft p last.scheduler (k + 1) h.entries (is_some h.cut))) histories left

-- no worker is left: each that joined has a row, none for want of memory
pub record IsGivenUp (f : Facts) (left : List (Option Why)) : Type 0 where
  pub each : (k : ℕ) → k < f.last_worker → (cause : Why) × (slice_index_or left k None ≡ Some cause) × (cause ≢ why.Memory)

-- a worker had too few feeds, or a feed that came back has failed
abbrev pub HasFeedFault : {F : Type 0} → (F → ℕ) → ℕ → List ℕ → List F → Type 0
HasFeedFault {F} faults threads given back = ((n : ℕ) × Contains given n × (n < threads)) ⊎ ((f : F) × Contains back f × (0 < faults f))

-- none of the nodes left an entry out
pub record AreWhole (h : Histories) : Type 0 where
  pub scheduler : h.scheduler.cut ≡ None
  pub workers : All (λ (x : History). x.cut ≡ None) h.workers.items
  pub client : h.client.cut ≡ None

-- a wanted key failed, and this key is to blame
abbrev pub HasBlame : {B : Type 0} → LabelFacts B → List ℕ → ℕ → Type 0
HasBlame l wanted blame = (k : ℕ) × Contains wanted k × BlameFits l k blame

-- a wanted key failed that has this one in its cone, where the run is told
abbrev pub HasFailed : {B : Type 0} → LabelFacts B → List ℕ → ℕ → Type 0
HasFailed l wanted blame = (k : ℕ) × Contains wanted k × (IsTrue l.told → IsTrue (cone l.deps k blame))

-- it failed since this key's own operation meets a zero divisor, where the run is told
pub record IsAtFault {B : Type 0} (l : LabelFacts B) (wanted : List ℕ) (blame : ℕ) : Type 0 where
  pub failed : HasFailed l wanted blame
  pub fault : ErrorFits l blame

-- it failed since this key was killed: by the scheduler's last facts its worker left so often while the key was assigned to it, once more than the plan
-- allows
pub record IsKilled {B : Type 0} (l : LabelFacts B) (p : RunPlan) (wanted : List ℕ) (f : Facts) (blame losses : ℕ) : Type 0 where
  pub failed : HasFailed l wanted blame
  pub counted : f.losses blame ≡ losses
  pub above : (a : ℕ) × (p.allowed ≡ Some a) × (losses ≡ a + 1)

abbrev pub IsFailure : {B : Type 0} → LabelFacts B → RunPlan → List ℕ → Facts → Failure → Type 0
IsFailure l p wanted f (failure.Zero blame) = IsAtFault l wanted blame
IsFailure l p wanted f (failure.Killed blame losses) = IsKilled l p wanted f blame losses

-- no worker left for want of memory
abbrev pub NoneForMemory : List (Option Why) → Type 0
NoneForMemory left = All (λ (o : Option Why). o ≢ Some why.Memory) left

-- what else than want of memory a run may have ended by: nothing, that no worker was left, or that a wanted key failed since this one was killed
abbrev pub IsDoubt : {B : Type 0} → LabelFacts B → RunPlan → List ℕ → Facts → List (Option Why) → Doubt → Type 0
IsDoubt l p wanted f left doubt.Memory = Unit {0}
IsDoubt l p wanted f left doubt.GivenUp = IsGivenUp f left
IsDoubt l p wanted f left (doubt.Killed blame losses) = IsKilled l p wanted f blame losses × NoneForMemory left

-- the same by why a wanted key failed, if one did, and by what it is that no worker was left
abbrev pub IsDoubtBy : Option Failure → List (Option Why) → Type 0 → Doubt → Type 0
IsDoubtBy failed left Given doubt.Memory = Unit {0}
IsDoubtBy failed left Given doubt.GivenUp = Given
IsDoubtBy failed left Given (doubt.Killed blame losses) = (failed ≡ Some (failure.Killed blame losses)) × NoneForMemory left

-- how it is decided, where a feed had failed or not
abbrev pub IsDecided : RunPlan → Type 0 → Doubt → RunStatus → Type 0
IsDecided p Failed d (status.Zero blame) = ⊥
IsDecided p Failed d (status.Killed blame losses) = (d ≡ doubt.Killed blame losses) × ((losses ≤ removals p) ⊎ Failed)
IsDecided p Failed d status.Read = (d ≡ doubt.GivenUp) × Failed
IsDecided p Failed d status.Events = ⊥
IsDecided p Failed d status.Memory = Unit {0}

-- the cause of there being no blocks: a wanted key failed and this one is to blame, no worker was left and a feed had failed, or a core had taken 2^40
-- events, and so the history of its node has passed its limit. A key is killed only where no worker left for want of memory, and the script takes workers
-- away as often, or a feed had failed. Want of memory is free
abbrev pub HasCause : {B : Type 0} → LabelFacts B → RunPlan → List ℕ → Facts → List (Option Why) → Type 0 → Type 0 → RunStatus → Type 0
HasCause l p wanted f left Failed Cut (status.Zero blame) = IsAtFault l wanted blame
HasCause l p wanted f left Failed Cut (status.Killed blame losses) = IsKilled l p wanted f blame losses × NoneForMemory left × ((losses ≤ removals p) ⊎ Failed)
HasCause l p wanted f left Failed Cut status.Read = IsGivenUp f left × Failed
HasCause l p wanted f left Failed Cut status.Events = Cut
HasCause l p wanted f left Failed Cut status.Memory = Unit {0}

abbrev pub IfStatus : {A : Type 0} → (RunStatus → Type 0) → Result A RunStatus → Type 0
IfStatus P (Ok x) = Unit {0}
IfStatus P (Err s) = P s

-- the client of these last facts and entries got the key: it has it, or an entry lets it go, before which it had it, unless one was left out
abbrev pub IsGot : ClientFacts → List Entry → Bool → ℕ → Type 0
IsGot c entries cut k = (done c k ≡ Some Got) ⊎ WasReleased k entries cut

-- it got each of these keys
abbrev pub HasGot : ClientFacts → List Entry → Bool → List ℕ → Type 0
HasGot c entries cut keys = All (IsGot c entries cut) keys

-- the core of the scheduler, of one of these workers or of the client has taken 2^40 events
pub record IsSpent {W C D : Type 0} (b : BookState SchedState) (book : W → BookState C) (taken : C → ℕ) (ws : List W) (d : BookState D) (asked : D → ℕ) : Type 0 where
  pub is : (2 ^ 40 ≤ b.core.core.taken) ⊎ (((w : W) × Contains ws w × (2 ^ 40 ≤ taken (book w).core)) ⊎ (2 ^ 40 ≤ asked d.core))

-- the key at fault was found; or there was none, or it is in doubt, and a core was found spent, or memory is wanted
abbrev pub IsBlamed : Option Failure → Bool → RunStatus → Type 0
IsBlamed failed spent (status.Zero key) = failed ≡ Some (failure.Zero key)
IsBlamed failed spent (status.Killed key losses) = ⊥
IsBlamed failed spent status.Read = ⊥
IsBlamed failed spent status.Events = spent ≡ true
IsBlamed failed spent status.Memory = Unit {0}

-- how a run ended, of whose nodes this was known at the end: where it gives blocks, the client of these histories got each key that is wanted
pub record HasRun {B A : Type 0} (l : LabelFacts B) (graph : Shape) (p : RunPlan) (wanted : List ℕ) (Failed : Type 0) (last : LastFacts)
    (result : Result A RunStatus) (left : List (Option Why)) (h : Histories) : Type 0 where
  pub histories : AreHistories l graph p last h
  pub left_are : AreLeft p last h.workers.items left
  pub got : IfOk result (λ blocks. HasGot last.client h.client.entries (is_some h.client.cut) wanted)
  pub cause : IfStatus (HasCause l p wanted last.scheduler left Failed (AreWhole h → ⊥)) result

-- a run that couldn't be started, or not be told of, for want of memory
pub record HasNotRun {A : Type 0} (result : Result A RunStatus) (left : List (Option Why)) : Type 0 where
  pub memory : result ≡ Err status.Memory
  pub nobody : left ≡ []

abbrev pub HowItEnded : {B A : Type 0} → LabelFacts B → Shape → RunPlan → List ℕ → Type 0 → Result A RunStatus → List (Option Why) → Option Histories → Type 0
HowItEnded l graph p wanted Failed result left None = HasNotRun result left
HowItEnded l graph p wanted Failed result left (Some h) = (last : LastFacts) × HasRun l graph p wanted Failed last result left h
