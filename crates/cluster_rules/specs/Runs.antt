-- Legal lists of events, and what is promised of them.
use Rattle.std.specs.Prelude.{◌≡◌, ◌↔◌, ℕ, ◌+◌, ◌≤◌, ◌==◌, Bool, true, false, ◌&&◌, ◌||◌, List, [], ◌∷◌, ◌++◌, Option, Some, None, is_some, cond}
use Rattle.std.specs.List.{list_any}
use Rattle.std.specs.Option.{option_map}
use Rattle.cluster_msgs.specs.declared.messages.Down.{Down}
use Rattle.cluster_msgs.specs.declared.messages.Down.TheVariants.{FreeKeys}
use Rattle.cluster_msgs.specs.declared.messages.Up.{Up}
use Rattle.cluster_msgs.specs.declared.messages.Up.TheVariants.{TaskFinished, TaskErred, StealResponse}
use Rattle.cluster_msgs.specs.declared.cores.SchedEvent.{SchedEvent}
use Rattle.cluster_msgs.specs.declared.cores.SchedEvent.TheVariants.{Join as JoinSched, Leave, FromWorker, FromClient, Balance as BalanceSched, Evict as EvictSched, Replicate as ReplicateSched}
use Rattle.cluster_msgs.specs.declared.events.Event.{Event}
use Rattle.cluster_msgs.specs.declared.events.Event.TheVariants.{Join, SeeLoss, Suspect, DeliverUp, DeliverFromClient, Start, Balance, Evict, Replicate}
use Rattle.cluster_rules.specs.Derived.{is_in}
use Rattle.cluster_rules.specs.Sched.{Facts, holds, held, known, need, is_on, is_above}
use Rattle.cluster_rules.specs.SchedTable.{is_this, is_asked_back}
use Rattle.cluster_rules.specs.SchedStep.{sched_step, mail}
use Rattle.cluster_rules.specs.Worker.{has_any, would_start}
use Rattle.cluster_rules.specs.World.{Job, World, opening, is_connected, unfinished, Drained}
use Rattle.cluster_rules.specs.WorldStep.{world_step}
use Rattle.cluster_rules.specs.Enabled.{enabled, front, progress}

-- a core, a world and a simulation take this many events
abbrev pub event_limit : ℕ
event_limit = 1099511627776

-- each event is enabled in the world that the earlier ones leave
abbrev pub LegalFrom : Job → World → List Event → Type 0
LegalFrom j w [] = Unit {0}
LegalFrom j w (e ∷ es) = (enabled w e ≡ true) × LegalFrom j (world_step j w e) es

abbrev pub legal : Job → List Event → Type 0
legal j es = LegalFrom j (opening j) es

-- the world after the events
abbrev pub run_from : Job → World → List Event → World
run_from j w [] = w
run_from j w (e ∷ es) = run_from j (world_step j w e) es

abbrev pub reached : Job → List Event → World
reached j es = run_from j (opening j) es

pub record Run (j : Job) (es : List Event) (w : World) : Type 0 where
  pub legal : legal j es
  pub reached : reached j es ≡ w

-- the scheduler's event that an event of the world is, where it is one
abbrev pub sched_event : World → Event → Option SchedEvent
sched_event w (Join threads) = Some (JoinSched threads)
sched_event w (SeeLoss i) = Some (Leave i)
sched_event w (Suspect i) = Some (Leave i)
sched_event w (DeliverUp i) = cond (is_connected w i) (option_map (λ m. FromWorker i m) (front (w.up i))) None
sched_event w (DeliverFromClient c) = option_map (λ m. FromClient c m) (front (w.from_client c))
sched_event w Balance = Some BalanceSched
sched_event w Evict = Some EvictSched
sched_event w (Replicate k i) = Some (ReplicateSched k i)
sched_event w _ = None

-- a message that ends this attempt where it counts: its finish, its error, or that the worker gave it up unstarted
abbrev pub reports_end : Facts → ℕ → ℕ → Up → Bool
reports_end f k a (TaskFinished seen q b) = q == k && b == a
reports_end f k a (TaskErred seen q b) = q == k && b == a
reports_end f k a (StealResponse seen q b agreed) = (q == k && b == a) && (agreed && is_asked_back (f.steal k))
reports_end f k a _ = false

abbrev pub frees : ℕ → Down → Bool
frees k (FreeKeys ks) = is_in k ks
frees k _ = false

-- what ends attempt a of key k at worker i by itself: a message that counts, or that the worker leaves
abbrev pub ends_by_itself : Facts → ℕ → ℕ → ℕ → SchedEvent → Bool
ends_by_itself f i k a (Leave v) = v == i
ends_by_itself f i k a (FromWorker v m) = (v == i && is_this i a (f.on k)) && reports_end f k a m
ends_by_itself f i k a _ = false

-- the scheduler's event ends the attempt: by itself, or since it sends the worker a free-keys with the key
unfoldable pub ends_attempt : Facts → ℕ → ℕ → ℕ → SchedEvent → Bool
ends_attempt f i k a e = ends_by_itself f i k a e || list_any (frees k) (mail i (sched_step f e).down)

abbrev pub ends_in : World → ℕ → ℕ → ℕ → Option SchedEvent → Bool
ends_in w i k a None = false
ends_in w i k a (Some e) = ends_attempt w.sched i k a e

-- the event gives the key attempt a, at worker i
pub record Gives (j : Job) (w : World) (e : Event) (i k a : ℕ) : Type 0 where
  pub fresh : w.sched.counter ≤ a
  pub given : (world_step j w e).sched.on k ≡ Some (i, a)

-- attempt a of key k, given to worker i, has ended in these events, after it was given
pub record Ended (j : Job) (es : List Event) (i k a : ℕ) : Type 0 where
  pub before : List Event
  pub giving : Event
  pub between : List Event
  pub ending : Event
  pub later : List Event
  pub whole : es ≡ before ++ giving ∷ (between ++ ending ∷ later)
  pub gives : Gives j (reached j before) giving i k a
  pub ends : ends_in (reached j (before ++ giving ∷ between)) i k a (sched_event (reached j (before ++ giving ∷ between)) ending) ≡ true

-- at some place in these events worker i's answer that it gave up attempt a of key k was counted
pub record Yielded (j : Job) (es : List Event) (i k a : ℕ) : Type 0 where
  pub before : List Event
  pub later : List Event
  pub seen : ℕ
  pub rest : List Up
  pub whole : es ≡ before ++ DeliverUp i ∷ later
  pub message : (reached j before).up i ≡ StealResponse seen k a true ∷ rest
  pub connected : is_connected (reached j before) i ≡ true
  pub place : (reached j before).sched.on k ≡ Some (i, a)
  pub stolen : is_asked_back ((reached j before).sched.steal k) ≡ true

-- at some place in these events worker i started key k while it had attempt a
pub record Started (j : Job) (es : List Event) (i k a : ℕ) : Type 0 where
  pub before : List Event
  pub later : List Event
  pub whole : es ≡ before ++ Start i ∷ later
  pub key : would_start ((reached j before).workers i) ≡ Some k
  pub attempt : ((reached j before).workers i).mine k ≡ Some a

-- (a) a key gets another attempt only once the earlier one has ended, by the same event at the latest; an attempt that was given up is never
-- started, neither before nor after
pub record OneAttempt (j : Job) (es : List Event) : Type 0 where
  pub ended : (before between later : List Event) (d e : Event) (v w k a b : ℕ) → es ≡ before ++ d ∷ (between ++ e ∷ later)
      → Gives j (reached j before) d v k a → Gives j (reached j (before ++ d ∷ between)) e w k b
      → Ended j (before ++ d ∷ (between ++ e ∷ [])) v k a
  pub unstarted : (i k a : ℕ) → Yielded j es i k a → Started j es i k a → ⊥

-- the event takes that the worker leaves to which the key is assigned
abbrev pub loses : Facts → ℕ → Option SchedEvent → Bool
loses f k (Some (Leave v)) = is_on f v k
loses f k _ = false

-- in how many of these events, after so many earlier ones, the key lost its worker, since it was last not known
abbrev pub losses_from : Job → World → ℕ → List Event → ℕ → ℕ
losses_from j w n [] k = n
losses_from j w n (e ∷ es) k = losses_from j (world_step j w e) (cond (known (world_step j w e).sched k) (cond (loses w.sched k (sched_event w e)) (n + 1) n) 0) es k

-- after these events the key is killed: since it was last not known, it lost its worker more often than is allowed
unfoldable pub killed : Job → List Event → ℕ → Bool
killed j es k = is_above j.setting.allowed (losses_from j (opening j) 0 es k)

-- at some place in these events the key was killed
pub record WasKilled (j : Job) (es : List Event) (k : ℕ) : Type 0 where
  pub before : List Event
  pub later : List Event
  pub whole : es ≡ before ++ later
  pub killed : killed j before k ≡ true

-- (b) the scheduler has facts only of known keys, and only needed keys are held
pub record OnlyKnown (f : Facts) : Type 0 where
  pub has : (i k : ℕ) → holds f i k ≡ true → known f k ≡ true
  pub on : (k : ℕ) → is_some (f.on k) ≡ true → known f k ≡ true
  pub steal : (k : ℕ) → is_some (f.steal k) ≡ true → known f k ≡ true
  pub bad : (k : ℕ) → f.bad k ≡ true → known f k ≡ true
  pub losses : (k : ℕ) → 1 ≤ f.losses k → known f k ≡ true
  pub held : (k : ℕ) → held f k ≡ true → need f k ≡ true

-- (c) a worker with no message under way holds and has exactly what the scheduler counts there
pub record Agrees (w : World) (i : ℕ) : Type 0 where
  pub mem : (k : ℕ) → (w.workers i).mem k ≡ holds w.sched i k
  pub mine : (k a : ℕ) → ((w.workers i).mine k ≡ Some a) ↔ (w.sched.on k ≡ Some (i, a))

-- (d) while a client waits for a key and a worker is alive and connected, some progress event is enabled
abbrev pub IsLively : World → Type 0
IsLively w = (c k i : ℕ) → unfinished w c k ≡ true → w.alive i ≡ true → is_connected w i ≡ true → has_any (progress w) ≡ true

-- schedule safety: (a) of the events, and (b) to (d) of the world after each of their prefixes
pub record Safe (j : Job) (es : List Event) : Type 0 where
  pub attempts : OneAttempt j es
  pub known : (fs gs : List Event) → es ≡ fs ++ gs → OnlyKnown (reached j fs).sched
  pub agrees : (fs gs : List Event) (i : ℕ) → es ≡ fs ++ gs → Drained (reached j fs) i → Agrees (reached j fs) i
  pub lively : (fs gs : List Event) → es ≡ fs ++ gs → IsLively (reached j fs)
