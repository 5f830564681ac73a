-- Small jobs, their worlds, and what the simulator makes of them.
use Rattle.std.specs.Prelude.{ℕ, zero, suc, nat_le, Bool, true, false, List, [], ◌∷◌, ◌++◌, Option, Some, None, ◌&&◌, cond}
use Rattle.cluster_msgs.specs.Shape.{Shape}
use Rattle.cluster_msgs.specs.declared.cores.WState.{WState}
use Rattle.cluster_msgs.specs.declared.events.Asker.{Asker}
use Rattle.cluster_msgs.specs.declared.events.Asker.TheVariants.{Worker, Client}
use Rattle.cluster_msgs.specs.declared.events.Event.{Event}
use Rattle.cluster_msgs.specs.declared.events.Event.TheVariants.{Want, Join, Lose, SeeLoss, DeliverDown, DeliverUp, DeliverToClient, DeliverFromClient, Start, Finish, SendGather, ServeGather, ArriveGather, Suspect, Balance, Replicate}
use Rattle.cluster_msgs.specs.declared.events.Item.{Item}
use Rattle.cluster_msgs.specs.declared.events.Item.TheVariants.{Lose as LoseItem, Suspect as SuspectItem}
use Rattle.cluster_msgs.specs.declared.events.Report.{Report}
use Rattle.cluster_rules.specs.Sched.{sched_opening}
use Rattle.cluster_rules.specs.Worker.{WorkerFacts, would_start}
use Rattle.cluster_rules.specs.World.{Job, World, Parcel, opening}
use Rattle.cluster_rules.specs.WorldStep.{world_step}
use Rattle.cluster_rules.specs.Enabled.{enabled}
use Rattle.cluster_rules.specs.Runs.{run_from, reached, sched_event, ends_in}
use Rattle.cluster_rules.specs.Report.{taken, report}
use Rattle.cluster_rules.specs.Draw.{Plan, Sim, Next, Verdict, opening_events, sim_from, next, moved, event_of, verdict}
use Rattle.cluster_rows.specs.WorkerTalk.{states}

-- each event is enabled when it comes
abbrev pub can : Job → World → List Event → Bool
can j w [] = true
can j w (e ∷ es) = enabled w e && can j (world_step j w e) es

-- a job of this graph with one client and saturation 11, in which no key meets a zero divisor
abbrev pub plain_job : Shape → Job
plain_job g = record { setting = record { shape = g; clients = 1; saturation = 11; allowed = None }; zero = λ k. false }

-- what the simulator makes within this many events: they, and how it ended
abbrev pub kept : Option Event → List Event × Option Verdict → List Event × Option Verdict
kept None p = p
kept (Some e) p = (e ∷ p.0, p.1)

abbrev pub play : ℕ → Job → (ℕ → ℕ) → Plan → Sim → List Event × Option Verdict
play zero j words p s = ([], None)
play (suc n) j words p s = elim (verdict s (next words p s)) [
  | None ↦ kept (event_of (next words p s)) (play n j words p (moved j s (next words p s)))
  | Some v ↦ ([], Some v)
]

abbrev pub play_all : ℕ → Job → (ℕ → ℕ) → Plan → List ℕ → List Event × Option Verdict
play_all n j words p wanted = play n j words p (sim_from p (run_from j (opening j) (opening_events p wanted)))

abbrev pub report_of : Job → List Event → Report
report_of j es = report j.setting.shape (taken j (opening j) es)

abbrev pub plan : ℕ → Plan
plan n = record { workers = n; threads = 1; script = [] }

-- one worker of one thread runs one key, and the client gathers it
abbrev pub one_key_run : List Event
one_key_run =
    DeliverFromClient 1
    ∷ DeliverDown 1
    ∷ Start 1
    ∷ Finish 1 0
    ∷ DeliverUp 1
    ∷ DeliverToClient 1
    ∷ SendGather (Client 1) 1
    ∷ ServeGather 1 (Client 1) 1
    ∷ ArriveGather (Client 1) 1 1
    ∷ []

-- the same for a key that depends on another; the last delivery, of what is freed, may come before the client is served
abbrev pub two_keys_start : List Event
two_keys_start =
    DeliverFromClient 1
    ∷ DeliverDown 1
    ∷ Start 1
    ∷ Finish 1 0
    ∷ DeliverUp 1
    ∷ DeliverDown 1
    ∷ Start 1
    ∷ Finish 1 1
    ∷ DeliverUp 1
    ∷ []

abbrev pub client_served : ℕ → List Event
client_served i = DeliverToClient 1 ∷ SendGather (Client 1) i ∷ ServeGather i (Client 1) 1 ∷ ArriveGather (Client 1) i 1 ∷ []

-- worker 1 ends the first key and dies; worker 2 does both keys
abbrev pub lost_at_one : Plan
lost_at_one = record { workers = 2; threads = 1; script = LoseItem 1 1 ∷ [] }

abbrev pub lost_start : List Event
lost_start =
    DeliverFromClient 1
    ∷ DeliverDown 1
    ∷ Start 1
    ∷ Finish 1 0
    ∷ DeliverUp 1
    ∷ Lose 1
    ∷ SeeLoss 1
    ∷ DeliverDown 2
    ∷ Start 2
    ∷ Finish 2 0
    ∷ DeliverUp 2
    ∷ DeliverDown 2
    ∷ Start 2
    ∷ Finish 2 1
    ∷ DeliverUp 2
    ∷ []

-- two workers of one thread, one key, wanted and given to worker 1, which starts it
abbrev pub one_started : List Event
one_started = opening_events (plan 2) (0 ∷ []) ++ DeliverFromClient 1 ∷ DeliverDown 1 ∷ Start 1 ∷ []

-- worker 1 has ended it, and the client was told so
abbrev pub one_told : List Event
one_told = one_started ++ Finish 1 0 ∷ DeliverUp 1 ∷ DeliverToClient 1 ∷ []

-- a key that needs two others. Two workers make one each; the first gathers the other's, makes the third, and says so. The client wants the second
-- and the third
abbrev pub joined_two : List ℕ → List Event
joined_two wanted = Join 1 ∷ Join 1 ∷ Want 1 wanted ∷ DeliverFromClient 1 ∷ []

abbrev pub both_made : List Event
both_made =
    joined_two (1 ∷ 2 ∷ [])
    ++ DeliverDown 1
    ∷ DeliverDown 2
    ∷ Start 1
    ∷ Start 2
    ∷ Finish 1 0
    ∷ Finish 2 1
    ∷ DeliverUp 1
    ∷ DeliverUp 2
    ∷ DeliverDown 1
    ∷ []

abbrev pub third_ends : List Event
third_ends = both_made ++ SendGather (Worker 1) 2 ∷ ServeGather 2 (Worker 1) 1 ∷ ArriveGather (Worker 1) 2 1 ∷ DeliverUp 1 ∷ Start 1 ∷ Finish 1 2 ∷ []

abbrev pub third_made : List Event
third_made = third_ends ++ DeliverUp 1 ∷ []

-- instead, the client hears of the second key and asks the second worker for it, and the first worker asks too
abbrev pub both_ask : List Event
both_ask = both_made ++ DeliverToClient 1 ∷ SendGather (Client 1) 2 ∷ SendGather (Worker 1) 2 ∷ []

-- three keys alone, all wanted. Worker 1 joins first and gets two of them; worker 2 ends the third
abbrev pub three_alone : Shape
three_alone = record { deps = [] ∷ [] ∷ [] ∷ []; work = 80 ∷ 80 ∷ 80 ∷ []; nbytes = 80 ∷ 80 ∷ 80 ∷ [] }

abbrev pub one_idle : List Event
one_idle = Want 1 (0 ∷ 1 ∷ 2 ∷ []) ∷ DeliverFromClient 1 ∷ Join 1 ∷ Join 1 ∷ DeliverDown 2 ∷ Start 2 ∷ Finish 2 2 ∷ DeliverUp 2 ∷ []

-- worker 1 takes both and starts the first; it is asked for that one and refuses; it is asked for the other and gives it up; worker 2 makes it
abbrev pub one_runs : List Event
one_runs = one_idle ++ DeliverDown 1 ∷ DeliverDown 1 ∷ Start 1 ∷ []

abbrev pub one_refuses : List Event
one_refuses = one_runs ++ Balance ∷ DeliverDown 1 ∷ []

abbrev pub one_yields : List Event
one_yields = one_refuses ++ DeliverUp 1 ∷ Balance ∷ DeliverDown 1 ∷ []

abbrev pub stolen : List Event
stolen = one_yields ++ DeliverUp 1 ∷ []

abbrev pub stolen_and_made : List Event
stolen_and_made = stolen ++ DeliverDown 2 ∷ Start 2 ∷ Finish 2 1 ∷ DeliverUp 2 ∷ Finish 1 0 ∷ DeliverUp 1 ∷ []

-- instead, worker 1 starts neither, gives the first up, and is suspected before that is heard
abbrev pub unheard_yes : List Event
unheard_yes = one_idle ++ DeliverDown 1 ∷ DeliverDown 1 ∷ Balance ∷ DeliverDown 1 ∷ Suspect 1 ∷ DeliverUp 1 ∷ []

-- two keys alone, both wanted: each worker starts and ends one, and is heard, worker 2 first
abbrev pub two_alone : Shape
two_alone = record { deps = [] ∷ [] ∷ []; work = 80 ∷ 80 ∷ []; nbytes = 80 ∷ 80 ∷ [] }

abbrev pub two_end : List Event
two_end =
    opening_events (plan 2) (0 ∷ 1 ∷ [])
    ++ DeliverFromClient 1
    ∷ DeliverDown 1
    ∷ DeliverDown 2
    ∷ Start 1
    ∷ Start 2
    ∷ Finish 1 0
    ∷ Finish 2 1
    ∷ []

abbrev pub two_located : List Event
two_located = two_end ++ DeliverUp 1 ∷ DeliverUp 2 ∷ DeliverToClient 1 ∷ DeliverToClient 1 ∷ []

-- what is under way between an asker and a peer
abbrev pub parcel : Asker → ℕ → ℕ → List ℕ → Parcel
parcel a p n ks = record { asker = a; peer = p; ask = n; keys = ks }

-- a world with this many connected workers, of which nothing else is known
abbrev pub crowd : ℕ → World
crowd n = record (opening (plain_job two_alone)) { sched = record (sched_opening (plain_job two_alone).setting) { threads = λ w. cond (nat_le w n) (Some 1) None; last_worker = n } }

-- what each start takes: the worker, the key and its attempt
abbrev pub attempt_at : ℕ → ℕ → Option ℕ → List (ℕ × (ℕ × ℕ))
attempt_at i k None = []
attempt_at i k (Some a) = (i, (k, a)) ∷ []

abbrev pub start_at : ℕ → WorkerFacts → Option ℕ → List (ℕ × (ℕ × ℕ))
start_at i w None = []
start_at i w (Some k) = attempt_at i k (w.mine k)

abbrev pub start_by : World → Event → List (ℕ × (ℕ × ℕ))
start_by w (Start i) = start_at i (w.workers i) (would_start (w.workers i))
start_by w _ = []

abbrev pub starts : Job → World → List Event → List (ℕ × (ℕ × ℕ))
starts j w [] = []
starts j w (e ∷ es) = start_by w e ++ starts j (world_step j w e) es

-- the states of the keys at a worker after these events
abbrev pub states_at : Job → List Event → ℕ → List WState
states_at j es i = states ((reached j es).workers i)

-- after these events the next ends this attempt of a key at a worker
abbrev pub then_ends : Job → List Event → Event → ℕ → ℕ → ℕ → Bool
then_ends j es e i k a = ends_in (reached j es) i k a (sched_event (reached j es) e)

-- a job in which the first key meets a zero divisor
abbrev pub zero_job : Shape → Job
zero_job g = record { setting = record { shape = g; clients = 1; saturation = 11; allowed = None }; zero = λ k. true }

-- after these events of this job
abbrev pub then_enabled : Job → List Event → Event → Bool
then_enabled j es e = enabled (reached j es) e

-- where the simulation of two workers stands after these events, this many turns and this budget, with this script to come
abbrev pub standing : Job → List Event → List Item → ℕ → ℕ → Sim
standing j es script turns budget = record { world = reached j es; script = script; turns = turns; budget = budget; evicts = 0; evicted_at = 0; balances = 0; balanced_at = 0 }

-- what comes next there
abbrev pub comes : Sim → Next
comes s = next (λ t. 0) (plan 2) s

-- a plain job in which a key's worker may leave this often while the key is assigned to it
abbrev pub bounded_job : Option ℕ → Shape → Job
bounded_job a g = record { setting = record { shape = g; clients = 1; saturation = 11; allowed = a }; zero = λ k. false }

-- worker 1 ends the first of two keys and is suspected; where a loss is allowed, worker 2 does both
abbrev pub suspected_at_one : Plan
suspected_at_one = record { workers = 2; threads = 1; script = SuspectItem 1 1 ∷ [] }

abbrev pub suspected_start : List Event
suspected_start = DeliverFromClient 1 ∷ DeliverDown 1 ∷ Start 1 ∷ Finish 1 0 ∷ DeliverUp 1 ∷ Suspect 1 ∷ []

abbrev pub done_by_two : List Event
done_by_two = DeliverDown 2 ∷ Start 2 ∷ Finish 2 0 ∷ DeliverUp 2 ∷ DeliverDown 2 ∷ Start 2 ∷ Finish 2 1 ∷ DeliverUp 2 ∷ []

-- worker 2 is asked to get a copy of the key that worker 1 made, and gets it
abbrev pub copied : List Event
copied = both_made ++ Replicate 0 2 ∷ DeliverDown 2 ∷ SendGather (Worker 2) 1 ∷ ServeGather 1 (Worker 2) 1 ∷ ArriveGather (Worker 2) 1 1 ∷ []
