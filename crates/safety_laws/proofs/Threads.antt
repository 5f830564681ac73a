-- A worker that is alive has a thread.
use Rattle.std.proofs.Common.{◌≡◌, ℕ, ◌+◌, ◌≤◌, Bool, true, false, cond, not, ◌&&◌, List, [], ◌∷◌, ◌++◌, Option, Some, None, refl, ◌∙◌, arith, filter, fold}
use Rattle.std.proofs.lemmas.Bool.{false≢true}
use Rattle.std.proofs.Math.Dec.{eqb}
use Rattle.cluster_msgs.specs.declared.messages.Down.{Down}
use Rattle.cluster_msgs.specs.declared.messages.Down.TheVariants.{ComputeTask, FreeKeys, StealRequest, RemoveReplicas, AcquireReplicas, RefreshWhoHas}
use Rattle.cluster_msgs.specs.declared.messages.Up.TheVariants.{TaskFinished, MissingData, StealResponse}
use Rattle.cluster_msgs.specs.declared.cores.Instruction.TheVariants.{Keep, Drop, Send}
use Rattle.cluster_msgs.specs.declared.cores.WorkerEvent.{WorkerEvent}
use Rattle.cluster_msgs.specs.declared.cores.WorkerEvent.TheVariants.{Down as Told, Start as StartTask, Done, Ask as AskPeer, Gathered, GatherFailed, DataLost}
use Rattle.cluster_rules.specs.Functions.{put}
use Rattle.cluster_rules.specs.Derived.{is_in}
use Rattle.cluster_rules.specs.Worker.{Ask as OpenAsk, WorkerFacts, awaited, is_wanted, wstate, is_missing_state, would_start, ask_to, without_ask}
use Rattle.cluster_rules.specs.WorkerStep.{WorkerStep, quiet, after_out, each_key, taken, set_holders, into_mem, give_up, given, free_key, yields, asked_back, remove_replica, remove_replicas, acquire, refresh, take_down, start, Arrivals, arrive_as, arrive, arrived, stopped, erred_as, done, keys_of, ask_peer, lose_holders, not_found, answered_ask, gathered_by, gathered, worker_row, worker_step}
use Rattle.cluster_msgs.specs.declared.messages.Up.{Up}
use Rattle.cluster_msgs.specs.declared.messages.ToClient.{ToClient}
use Rattle.cluster_msgs.specs.declared.messages.FromClient.{FromClient as ClientMessage}
use Rattle.cluster_msgs.specs.declared.cores.SchedEvent.{SchedEvent}
use Rattle.cluster_msgs.specs.declared.cores.SchedEvent.TheVariants.{Join as JoinSched, Leave, FromWorker, FromClient, Balance as BalanceSched, Evict as EvictSched, Replicate as ReplicateSched}
use Rattle.cluster_msgs.specs.declared.cores.ClientEvent.{ClientEvent}
use Rattle.cluster_msgs.specs.declared.cores.ClientEvent.TheVariants.{Want as WantKeys, Release as ReleaseKeys, FromScheduler, Ask as ClientAsk, Gathered as ClientGathered, GatherFailed as ClientGatherFailed}
use Rattle.cluster_msgs.specs.declared.events.Asker.{Asker}
use Rattle.cluster_msgs.specs.declared.events.Asker.TheVariants.{Worker, Client}
use Rattle.cluster_msgs.specs.declared.events.Event.{Event}
use Rattle.cluster_msgs.specs.declared.events.Event.TheVariants.{Want, Release, Join, Lose, SeeLoss, Suspect, DeliverDown, DeliverUp, DeliverToClient, DeliverFromClient, Start, Finish, SendGather, ServeGather, ArriveGather, FailGather, Balance, Evict, Replicate, Spill, LoseSpilled}
use Rattle.cluster_rules.specs.World.{Job, World, Parcel, shape_of, is_connected, open_ask, parcel_of, without_parcel}
use Rattle.cluster_rules.specs.WorldStep.{scheduled, worked, client_worked, at_scheduler, at_worker, at_client, new_at, take_down_first, take_up, take_up_first, take_to_client, take_from_client, ask_by, gathered_at, serve, take_answer, fail_ask, world_step}
use Rattle.cluster_rules.specs.Enabled.{enabled}
use Rattle.std.specs.Prelude.{nat_le}
use Rattle.cluster_rules.specs.Worker.{new_worker}
use Rattle.cluster_rules.specs.SchedTable.{sched_takes}
use Rattle.cluster_rules.proofs.WorkerLemmas.{at_one}
use Rattle.std.proofs.lemmas.Bool.{and_parts, leb-true}

-- ## The rows

threads_set : (w : WorkerFacts) (who : List (ℕ × List (ℕ × ℕ))) → (fold set_holders w who).threads ≡ w.threads
threads_set w [] = refl
threads_set w (x ∷ xs) = threads_set (set_holders w x) xs

threads_acquire : (w : WorkerFacts) (who : List (ℕ × List (ℕ × ℕ))) → (fold acquire w who).threads ≡ w.threads
threads_acquire w [] = refl
threads_acquire w (x ∷ xs) = threads_acquire (acquire w x) xs ∙ one (w.mem x.0)
  where
    one : (b : Bool) → (cond b w (set_holders (record w { sought = put w.sought x.0 true }) x)).threads ≡ w.threads
    one true = refl
    one false = refl

threads_refresh : (w : WorkerFacts) (who : List (ℕ × List (ℕ × ℕ))) → (fold refresh w who).threads ≡ w.threads
threads_refresh w [] = refl
threads_refresh w (x ∷ xs) = threads_refresh (refresh w x) xs

threads_each : {A : Type 0} (row : WorkerFacts → A → WorkerStep) (xs : List A) (s : WorkerStep) → ((v : WorkerFacts) (x : A) → (row v x).facts.threads ≡ v.threads) → (each_key row s xs).facts.threads ≡ s.facts.threads
threads_each row [] s h = refl
threads_each row (x ∷ xs) s h = threads_each row xs (after_out s.out (row s.facts x)) h ∙ h s.facts x

threads_remove : (v : WorkerFacts) (x : ℕ) → (remove_replica v x).facts.threads ≡ v.threads
threads_remove v x = pick (v.mem x && not (awaited v x))
  where
    pick : (b : Bool) → (cond b (record { facts = record v { mem = put v.mem x false }; out = Drop x ∷ [] }) (quiet v)).facts.threads ≡ v.threads
    pick true = refl
    pick false = refl

threads_given : (w : WorkerFacts) (q a : ℕ) (who : List (ℕ × List (ℕ × ℕ))) → (given w q a who).facts.threads ≡ w.threads
unfolding given
threads_given w q a who = pick (w.mem q)
  where
    pick : (b : Bool) → (cond {A = WorkerStep} b (record { facts = record w { failed = put w.failed q false }; out = Send (TaskFinished w.seen q a) ∷ [] }) (quiet (fold set_holders (record w { failed = put w.failed q false; mine = put w.mine q (Some a) }) who))).facts.threads ≡ w.threads
    pick true = refl
    pick false = threads_set (record w { failed = put w.failed q false; mine = put w.mine q (Some a) }) who

threads_asked : (w : WorkerFacts) (q a : ℕ) → (asked_back w q a).facts.threads ≡ w.threads
unfolding asked_back
threads_asked w q a = pick (yields w q a)
  where
    pick : (b : Bool) → (cond {A = WorkerStep} b (record { facts = give_up w q; out = Send (StealResponse w.seen q a true) ∷ [] }) (record { facts = w; out = Send (StealResponse w.seen q a false) ∷ [] })).facts.threads ≡ w.threads
    pick true = refl
    pick false = refl

threads_told : (w : WorkerFacts) (m : Down) → (take_down w m).facts.threads ≡ w.threads
unfolding take_down remove_replicas
threads_told w (ComputeTask q a who) = threads_given w q a who
threads_told w (FreeKeys ks) = threads_each free_key ks (quiet w) (λ v x. refl)
threads_told w (StealRequest q a) = threads_asked w q a
threads_told w (RemoveReplicas ks) = threads_each remove_replica ks (quiet w) threads_remove
threads_told w (AcquireReplicas who) = threads_acquire w who
threads_told w (RefreshWhoHas who) = threads_refresh w who

threads_arrive : (r : Arrivals) (q : ℕ) → (arrive r q).facts.threads ≡ r.facts.threads
threads_arrive r q = pick (r.facts.mine q)
  where
    kept : (b : Bool) → (cond b (record { facts = into_mem r.facts q; out = r.out ++ Keep q ∷ []; added = r.added ++ q ∷ [] }) r).facts.threads ≡ r.facts.threads
    kept true = refl
    kept false = refl

    pick : (o : Option ℕ) → (arrive_as r q o).facts.threads ≡ r.facts.threads
    pick None = kept (is_wanted r.facts q)
    pick (Some a) = refl

threads_arrives : (qs : List ℕ) (r : Arrivals) → (fold arrive r qs).facts.threads ≡ r.facts.threads
threads_arrives [] r = refl
threads_arrives (q ∷ qs) r = threads_arrives qs (arrive r q) ∙ threads_arrive r q

threads_arrived : (w : WorkerFacts) (qs : List ℕ) → (arrived w qs).facts.threads ≡ w.threads
unfolding arrived
threads_arrived w qs = threads_arrives qs (record { facts = w; out = []; added = [] })

threads_not_found : (p : ℕ) (v : WorkerFacts) (x : ℕ × ℕ) → (not_found p v x).facts.threads ≡ v.threads
threads_not_found p v x = pick (is_missing_state (wstate (lose_holders v x.0) x.0))
  where
    pick : (b : Bool) → (cond {A = WorkerStep} b (record { facts = record (lose_holders v x.0) { asked = put v.asked x.0 true }; out = Send (MissingData v.seen x.0 p x.1) ∷ [] }) (quiet (lose_holders v x.0))).facts.threads ≡ v.threads
    pick true = refl
    pick false = refl

threads_gathered : (w : WorkerFacts) (p n : ℕ) (found : List ℕ) → (gathered w p n found).facts.threads ≡ w.threads
unfolding gathered
threads_gathered w p n found = by_ask (ask_to w.asks p)
  where
    over : (a : OpenAsk) (b : Bool) → (cond b (answered_ask (record w { asks = without_ask w.asks p }) p a.items found) (quiet w)).facts.threads ≡ w.threads
    over a true = threads_each (not_found p) (filter (λ i. not (is_in i.0 found)) a.items) (arrived (record w { asks = without_ask w.asks p }) (keys_of (filter (λ i. is_in i.0 found) a.items))) (threads_not_found p)
        ∙ threads_arrived (record w { asks = without_ask w.asks p }) (keys_of (filter (λ i. is_in i.0 found) a.items))
    over a false = refl

    by_ask : (o : Option OpenAsk) → (gathered_by w p n found o).facts.threads ≡ w.threads
    by_ask None = refl
    by_ask (Some a) = over a (eqb a.number n)

threads_start : (w : WorkerFacts) (o : Option ℕ) → (start w o).facts.threads ≡ w.threads
threads_start w None = refl
threads_start w (Some q) = refl

threads_done : (w : WorkerFacts) (q : ℕ) (z : Bool) → (done w q z).facts.threads ≡ w.threads
threads_done w q false = threads_arrived (stopped w q) (q ∷ [])
threads_done w q true = pick (w.mine q)
  where
    pick : (o : Option ℕ) → (erred_as (stopped w q) q o).facts.threads ≡ w.threads
    pick None = refl
    pick (Some a) = refl

pub threads_step : (w : WorkerFacts) (e : WorkerEvent) → (worker_step w e).facts.threads ≡ w.threads
unfolding worker_step worker_row ask_peer
threads_step w (Told m) = threads_told (taken w) m
threads_step w StartTask = threads_start w (would_start w)
threads_step w (Done x z) = threads_done w x z
threads_step w (AskPeer p) = refl
threads_step w (Gathered p n found) = threads_gathered w p n found
threads_step w (GatherFailed p n) = threads_gathered w p n []
threads_step w (DataLost x) = refl

-- ## The world

abbrev Threaded : World → Type 0
Threaded w = (i : ℕ) → w.alive i ≡ true → 1 ≤ (w.workers i).threads

th_worker : (w : World) (i : ℕ) (e : WorkerEvent) → Threaded w → Threaded (at_worker w i e)
unfolding worked
th_worker w i e h = at_one i (λ b x. w.alive x ≡ true → 1 ≤ (cond b (worker_step (w.workers i) e).facts (w.workers x)).threads) (λ a. let s = threads_step (w.workers i) e in let t = h i a in omega (arith, s, t)) h

th_client : (w : World) (c : ℕ) (e : ClientEvent) → Threaded w → Threaded (at_client w c e)
unfolding client_worked
th_client w c e h = h

th_scheduler : (w : World) (s : SchedEvent) → Threaded w → Threaded (at_scheduler w s)
unfolding scheduled
th_scheduler w s h = h

th_gathered : (w : World) (a : Asker) (p n : ℕ) (found : List ℕ) → Threaded w → Threaded (gathered_at w a p n found)
th_gathered w (Worker i) p n found h = th_worker w i (Gathered p n found) h
th_gathered w (Client c) p n found h = th_client w c (ClientGathered p n found) h

th_failed : (w : World) (a : Asker) (p : ℕ) (o : Option OpenAsk) → Threaded w → Threaded (fail_ask w a p o)
th_failed w a p None h = h
th_failed w (Worker i) p (Some q) h = th_worker w i (GatherFailed p q.number) h
th_failed w (Client c) p (Some q) h = th_client w c (ClientGatherFailed p q.number) h

th_asks : (w : World) (a : Asker) (p : ℕ) → Threaded w → Threaded (ask_by w a p)
th_asks w (Worker i) p h = th_worker w i (AskPeer p) h
th_asks w (Client c) p h = th_client w c (ClientAsk p) h

th_serves : (w : World) (p : ℕ) (o : Option Parcel) → Threaded w → Threaded (serve w p o)
th_serves w p None h = h
th_serves w p (Some q) h = h

th_answer : (w : World) (o : Option Parcel) → Threaded w → Threaded (take_answer w o)
th_answer w None h = h
th_answer w (Some q) h = th_gathered (record w { answers = without_parcel q.asker q.peer q.ask w.answers }) q.asker q.peer q.ask q.keys h

th_down : (w : World) (i : ℕ) (ms : List Down) → Threaded w → Threaded (take_down_first w i ms)
th_down w i [] h = h
th_down w i (m ∷ ms) h = th_worker (record w { down = put w.down i ms }) i (Told m) h

th_up : (w : World) (i : ℕ) (ms : List Up) → Threaded w → Threaded (take_up_first w i ms)
th_up w i [] h = h
th_up w i (m ∷ ms) h = pick (is_connected w i)
  where
    pick : (b : Bool) → Threaded (take_up (record w { up = put w.up i ms }) i m b)
    pick true = th_scheduler (record w { up = put w.up i ms }) (FromWorker i m) h
    pick false = h

th_news : (w : World) (c : ℕ) (ms : List ToClient) → Threaded w → Threaded (take_to_client w c ms)
th_news w c [] h = h
th_news w c (m ∷ ms) h = th_client (record w { to_client = put w.to_client c ms }) c (FromScheduler m) h

th_letter : (w : World) (c : ℕ) (ms : List ClientMessage) → Threaded w → Threaded (take_from_client w c ms)
th_letter w c [] h = h
th_letter w c (m ∷ ms) h = th_scheduler (record w { from_client = put w.from_client c ms }) (FromClient c m) h

pub threaded_step : (j : Job) (w : World) (e : Event) → enabled w e ≡ true → Threaded w → Threaded (world_step j w e)
unfolding world_step enabled sched_takes
threaded_step j w (Want c ks) t h = th_client w c (WantKeys ks) h
threaded_step j w (Release c ks) t h = th_client w c (ReleaseKeys ks) h
threaded_step j w (Join threads) t h = th_scheduler (new_at w (w.sched.last_worker + 1) threads) (JoinSched threads)
    (at_one (w.sched.last_worker + 1) (λ b x. cond b true (w.alive x) ≡ true → 1 ≤ (cond b (new_worker (shape_of w) (w.sched.last_worker + 1) threads) (w.workers x)).threads)
    (λ a. leb-true 1 threads (and_parts (nat_le 1 threads) (nat_le threads 16) (and_parts (nat_le 1 threads && nat_le threads 16) _ t).0).0) h)
threaded_step j w (Lose i) t h = at_one i (λ b x. cond b false (w.alive x) ≡ true → 1 ≤ (cond b (record (w.workers i) { mem = λ k. false }) (w.workers x)).threads) (λ a. absurd (false≢true a)) h
threaded_step j w (SeeLoss i) t h = th_scheduler w (Leave i) h
threaded_step j w (Suspect i) t h = th_scheduler w (Leave i) h
threaded_step j w (DeliverDown i) t h = th_down w i (w.down i) h
threaded_step j w (DeliverUp i) t h = th_up w i (w.up i) h
threaded_step j w (DeliverToClient c) t h = th_news w c (w.to_client c) h
threaded_step j w (DeliverFromClient c) t h = th_letter w c (w.from_client c) h
threaded_step j w (Start i) t h = th_worker w i StartTask h
threaded_step j w (Finish i k) t h = th_worker w i (Done k (j.zero k)) h
threaded_step j w (SendGather a p) t h = th_asks w a p h
threaded_step j w (ServeGather p a n) t h = th_serves w p (parcel_of a p n w.requests) h
threaded_step j w (ArriveGather a p n) t h = th_answer w (parcel_of a p n w.answers) h
threaded_step j w (FailGather a p) t h = th_failed w a p (open_ask w a p) h
threaded_step j w Balance t h = th_scheduler w BalanceSched h
threaded_step j w Evict t h = th_scheduler w EvictSched h
threaded_step j w (Replicate k i) t h = th_scheduler w (ReplicateSched k i) h
threaded_step j w (Spill i k) t h = h
threaded_step j w (LoseSpilled i k) t h = th_worker w i (DataLost k) h
