-- What is spilled is in memory, after each event.
use Rattle.std.proofs.Common.{◌≡◌, ℕ, ◌+◌, Bool, true, false, ◌&&◌, List, [], ◌∷◌, Option, Some, None, refl, sym, ap, ◌∙◌, cond}
use Rattle.std.specs.Prelude.{◌==◌}
use Rattle.std.proofs.lemmas.Bool.{false≢true, true≢false, eqb-true, and_parts}
use Rattle.cluster_msgs.specs.declared.messages.Down.{Down}
use Rattle.cluster_msgs.specs.declared.messages.Up.{Up}
use Rattle.cluster_msgs.specs.declared.messages.ToClient.{ToClient}
use Rattle.cluster_msgs.specs.declared.messages.FromClient.{FromClient as ClientMessage}
use Rattle.cluster_msgs.specs.declared.cores.SchedEvent.{SchedEvent}
use Rattle.cluster_msgs.specs.declared.cores.SchedEvent.TheVariants.{Join as JoinSched, Leave, FromWorker, FromClient, Balance as BalanceSched, Evict as EvictSched, Replicate as ReplicateSched}
use Rattle.cluster_msgs.specs.declared.cores.WorkerEvent.{WorkerEvent}
use Rattle.cluster_msgs.specs.declared.cores.WorkerEvent.TheVariants.{Down as Told, Start as StartTask, Done, Ask as AskPeer, Gathered, GatherFailed, DataLost}
use Rattle.cluster_msgs.specs.declared.cores.ClientEvent.{ClientEvent}
use Rattle.cluster_msgs.specs.declared.cores.ClientEvent.TheVariants.{Want as WantKeys, Release as ReleaseKeys, FromScheduler, Ask as ClientAsk, Gathered as ClientGathered, GatherFailed as ClientGatherFailed}
use Rattle.cluster_msgs.specs.declared.events.Asker.{Asker}
use Rattle.cluster_msgs.specs.declared.events.Asker.TheVariants.{Worker, Client}
use Rattle.cluster_msgs.specs.declared.events.Event.{Event}
use Rattle.cluster_msgs.specs.declared.events.Event.TheVariants.{Want, Release, Join, Lose, SeeLoss, Suspect, DeliverDown, DeliverUp, DeliverToClient, DeliverFromClient, Start, Finish, SendGather, ServeGather, ArriveGather, FailGather, Balance, Evict, Replicate, Spill, LoseSpilled}
use Rattle.cluster_rules.specs.Functions.{put}
use Rattle.cluster_rules.specs.Worker.{Ask, new_worker}
use Rattle.cluster_rules.specs.WorkerStep.{worker_step}
use Rattle.cluster_rules.specs.World.{Job, World, Parcel, shape_of, is_connected, open_ask, parcel_of, without_parcel}
use Rattle.cluster_rules.specs.WorldStep.{scheduled, worked, client_worked, at_scheduler, at_worker, at_client, new_at, died, take_down_first, take_up, take_up_first, take_to_client, take_from_client, ask_by, gathered_at, failed_at, serve, take_answer, fail_ask, spill, world_step}
use Rattle.cluster_rules.specs.Enabled.{enabled}
use Rattle.cluster_rules.proofs.WorkerLemmas.{at_one}
use Rattle.cluster_laws.specs.Moves.{world_after}

abbrev AreHeld : World → Type 0
AreHeld w = (i k : ℕ) → w.spilled i k ≡ true → (w.workers i).mem k ≡ true

held_scheduler : (w : World) (e : SchedEvent) → AreHeld w → AreHeld (at_scheduler w e)
unfolding scheduled
held_scheduler w e h = h

held_client : (w : World) (c : ℕ) (e : ClientEvent) → AreHeld w → AreHeld (at_client w c e)
unfolding client_worked
held_client w c e h = h

held_worker : (w : World) (i : ℕ) (e : WorkerEvent) → AreHeld w → AreHeld (at_worker w i e)
unfolding worked
held_worker w i e h =
    at_one i (λ b x. (k : ℕ) → cond {A = ℕ → Bool} b (λ k. w.spilled i k && (worker_step (w.workers i) e).facts.mem k) (w.spilled x) k ≡ true → (cond b (worker_step (w.workers i) e).facts (w.workers x)).mem k ≡ true)
    (λ k s. (and_parts (w.spilled i k) _ s).1) h

held_gathered_at : (w : World) (a : Asker) (p n : ℕ) (found : List ℕ) → AreHeld w → AreHeld (gathered_at w a p n found)
held_gathered_at w (Worker i) p n found h = held_worker w i (Gathered p n found) h
held_gathered_at w (Client c) p n found h = held_client w c (ClientGathered p n found) h

held_failed_at : (w : World) (a : Asker) (p n : ℕ) → AreHeld w → AreHeld (failed_at w a p n)
held_failed_at w (Worker i) p n h = held_worker w i (GatherFailed p n) h
held_failed_at w (Client c) p n h = held_client w c (ClientGatherFailed p n) h

held_ask_by : (w : World) (a : Asker) (p : ℕ) → AreHeld w → AreHeld (ask_by w a p)
held_ask_by w (Worker i) p h = held_worker w i (AskPeer p) h
held_ask_by w (Client c) p h = held_client w c (ClientAsk p) h

held_serve : (w : World) (p : ℕ) (o : Option Parcel) → AreHeld w → AreHeld (serve w p o)
held_serve w p None h = h
held_serve w p (Some q) h = h

held_take_answer : (w : World) (o : Option Parcel) → AreHeld w → AreHeld (take_answer w o)
held_take_answer w None h = h
held_take_answer w (Some q) h = held_gathered_at (record w { answers = without_parcel q.asker q.peer q.ask w.answers }) q.asker q.peer q.ask q.keys h

held_fail_ask : (w : World) (a : Asker) (p : ℕ) (o : Option Ask) → AreHeld w → AreHeld (fail_ask w a p o)
held_fail_ask w a p None h = h
held_fail_ask w a p (Some q) h = held_failed_at w a p q.number h

held_take_down : (w : World) (i : ℕ) (ms : List Down) → AreHeld w → AreHeld (take_down_first w i ms)
held_take_down w i [] h = h
held_take_down w i (m ∷ ms) h = held_worker (record w { down = put w.down i ms }) i (Told m) h

held_take_up : (w : World) (i : ℕ) (ms : List Up) → AreHeld w → AreHeld (take_up_first w i ms)
held_take_up w i [] h = h
held_take_up w i (m ∷ ms) h = heard (is_connected w i)
  where
    heard : (b : Bool) → AreHeld (take_up (record w { up = put w.up i ms }) i m b)
    heard true = held_scheduler (record w { up = put w.up i ms }) (FromWorker i m) h
    heard false = h

held_take_to_client : (w : World) (c : ℕ) (ms : List ToClient) → AreHeld w → AreHeld (take_to_client w c ms)
held_take_to_client w c [] h = h
held_take_to_client w c (m ∷ ms) h = held_client (record w { to_client = put w.to_client c ms }) c (FromScheduler m) h

held_take_from_client : (w : World) (c : ℕ) (ms : List ClientMessage) → AreHeld w → AreHeld (take_from_client w c ms)
held_take_from_client w c [] h = h
held_take_from_client w c (m ∷ ms) h = held_scheduler (record w { from_client = put w.from_client c ms }) (FromClient c m) h

held_new_at : (w : World) (i threads : ℕ) → ((k : ℕ) → w.spilled i k ≡ false) → AreHeld w → AreHeld (new_at w i threads)
held_new_at w i threads bare h x k s = pick (x == i) refl s
  where
    pick : (b : Bool) → (x == i) ≡ b → w.spilled x k ≡ true → (cond b (new_worker (shape_of w) i threads) (w.workers x)).mem k ≡ true
    pick true e s = absurd (true≢false (sym s ∙ ap (λ y. w.spilled y k) (eqb-true x i e) ∙ bare k))
    pick false e s = h x k s

held_died : (w : World) (i : ℕ) → AreHeld w → AreHeld (died w i)
held_died w i h =
    at_one i (λ b x. (k : ℕ) → cond {A = ℕ → Bool} b (λ k. false) (w.spilled x) k ≡ true → (cond b (record (w.workers i) { mem = λ k. false }) (w.workers x)).mem k ≡ true)
    (λ k s. absurd (false≢true s)) h

held_spill : (w : World) (i k : ℕ) → (w.workers i).mem k ≡ true → AreHeld w → AreHeld (spill w i k)
held_spill w i k m h =
    at_one i (λ b x. (q : ℕ) → cond {A = ℕ → Bool} b (put (w.spilled i) k true) (w.spilled x) q ≡ true → (w.workers x).mem q ≡ true)
    (at_one k (λ b q. cond b true (w.spilled i q) ≡ true → (w.workers i).mem q ≡ true) (λ e. m) (h i)) h

held_step : (j : Job) (w : World) (e : Event) → enabled w e ≡ true → ((k : ℕ) → w.spilled (w.sched.last_worker + 1) k ≡ false) → AreHeld w → AreHeld (world_step j w e)
unfolding world_step enabled
held_step j w (Want c ks) t bare h = held_client w c (WantKeys ks) h
held_step j w (Release c ks) t bare h = held_client w c (ReleaseKeys ks) h
held_step j w (Join threads) t bare h = held_scheduler (new_at w (w.sched.last_worker + 1) threads) (JoinSched threads) (held_new_at w (w.sched.last_worker + 1) threads bare h)
held_step j w (Lose i) t bare h = held_died w i h
held_step j w (SeeLoss i) t bare h = held_scheduler w (Leave i) h
held_step j w (Suspect i) t bare h = held_scheduler w (Leave i) h
held_step j w (DeliverDown i) t bare h = held_take_down w i (w.down i) h
held_step j w (DeliverUp i) t bare h = held_take_up w i (w.up i) h
held_step j w (DeliverToClient c) t bare h = held_take_to_client w c (w.to_client c) h
held_step j w (DeliverFromClient c) t bare h = held_take_from_client w c (w.from_client c) h
held_step j w (Start i) t bare h = held_worker w i StartTask h
held_step j w (Finish i k) t bare h = held_worker w i (Done k (j.zero k)) h
held_step j w (SendGather a p) t bare h = held_ask_by w a p h
held_step j w (ServeGather p a n) t bare h = held_serve w p (parcel_of a p n w.requests) h
held_step j w (ArriveGather a p n) t bare h = held_take_answer w (parcel_of a p n w.answers) h
held_step j w (FailGather a p) t bare h = held_fail_ask w a p (open_ask w a p) h
held_step j w Balance t bare h = held_scheduler w BalanceSched h
held_step j w Evict t bare h = held_scheduler w EvictSched h
held_step j w (Replicate k i) t bare h = held_scheduler w (ReplicateSched k i) h
held_step j w (Spill i k) t bare h = held_spill w i k (and_parts ((w.workers i).mem k) _ (and_parts (w.alive i) _ t).1).0 h
held_step j w (LoseSpilled i k) t bare h = held_worker w i (DataLost k) h

pub held_after : (met : Bool) (w : World) (e : Event) → enabled w e ≡ true → ((k : ℕ) → w.spilled (w.sched.last_worker + 1) k ≡ false) → AreHeld w → AreHeld (world_after met w e)
held_after met w e t bare h = held_step (record { setting = w.sched.setting; zero = λ k. met }) w e t bare h
