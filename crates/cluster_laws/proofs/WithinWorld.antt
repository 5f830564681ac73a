-- After each event workers hold and run, and clients have got, only what they did, and what the event brings or starts.
use Rattle.std.proofs.Common.{◌≡◌, ℕ, ◌+◌, Bool, true, false, not, ◌&&◌, List, [], ◌∷◌, Option, Some, None, refl, cond, filter, fold}
use Rattle.std.specs.Prelude.{◌==◌}
use Rattle.std.proofs.lemmas.Bool.{false≢true, and_parts}
use Rattle.cluster_msgs.specs.declared.messages.Down.{Down}
use Rattle.cluster_msgs.specs.declared.messages.Up.{Up}
use Rattle.cluster_msgs.specs.declared.messages.ToClient.{ToClient}
use Rattle.cluster_msgs.specs.declared.messages.ToClient.TheVariants.{KeyInMemory, LostData, ClientTaskErred}
use Rattle.cluster_msgs.specs.declared.messages.FromClient.{FromClient as ClientMessage}
use Rattle.cluster_msgs.specs.declared.cores.SchedEvent.{SchedEvent}
use Rattle.cluster_msgs.specs.declared.cores.SchedEvent.TheVariants.{Join as JoinSched, Leave, FromWorker, FromClient, Balance as BalanceSched, Evict as EvictSched, Replicate as ReplicateSched}
use Rattle.cluster_msgs.specs.declared.cores.WorkerEvent.{WorkerEvent}
use Rattle.cluster_msgs.specs.declared.cores.WorkerEvent.TheVariants.{Down as Told, Start as StartTask, Done, Ask as AskPeer, Gathered, GatherFailed, DataLost}
use Rattle.cluster_msgs.specs.declared.cores.ClientEvent.{ClientEvent}
use Rattle.cluster_msgs.specs.declared.cores.ClientEvent.TheVariants.{Want as WantKeys, Release as ReleaseKeys, FromScheduler, Ask as ClientAsk, Gathered as ClientGathered, GatherFailed as ClientGatherFailed}
use Rattle.cluster_msgs.specs.declared.events.Asker.{Asker}
use Rattle.cluster_msgs.specs.declared.events.Asker.TheVariants.{Worker, Client}
use Rattle.cluster_msgs.specs.declared.events.Event.{Event}
use Rattle.cluster_msgs.specs.declared.events.Event.TheVariants.{Want, Release, Join, Lose, SeeLoss, Suspect, DeliverDown, DeliverUp, DeliverToClient, DeliverFromClient, Start, Finish, SendGather, ServeGather, ArriveGather, FailGather, Balance, Evict, Replicate, Spill, LoseSpilled}
use Rattle.cluster_rules.specs.Functions.{put}
use Rattle.cluster_rules.specs.Derived.{is_in}
use Rattle.cluster_rules.specs.Worker.{Ask, new_worker, would_start, ask_to, without_ask}
use Rattle.cluster_rules.specs.WorkerStep.{worker_step, keys_of}
use Rattle.cluster_rules.specs.Client.{ClientFacts, keeps_still, client_releases, hears, hear, client_gets, client_misses, client_answered, client_gathered_by, client_gathered, client_step, client_wants, client_ask}
use Rattle.cluster_rules.specs.World.{Job, World, Parcel, is_connected, open_ask, parcel_of}
use Rattle.cluster_rules.specs.WorldStep.{scheduled, worked, client_worked, at_scheduler, at_worker, at_client, new_at, died, take_down_first, take_up, take_up_first, take_to_client, take_from_client, ask_by, gathered_at, failed_at, serve, take_answer, fail_ask, world_step}
use Rattle.cluster_rules.proofs.WorkerLemmas.{at_one}
use Rattle.cluster_laws.proofs.Within.{IsWithin, AllPass, BringsWithin, kept_pass, within_step}

-- a client
abbrev pub GotWithin : (ℕ → Bool) → ClientFacts → Type 0
GotWithin g c = (k : ℕ) → c.got k ≡ true → g k ≡ true

abbrev pub BringsHome : (ℕ → Bool) → ClientEvent → Type 0
BringsHome g (ClientGathered p n found) = AllPass g found
BringsHome g (WantKeys ks) = Unit {0}
BringsHome g (ReleaseKeys ks) = Unit {0}
BringsHome g (FromScheduler x) = Unit {0}
BringsHome g (ClientAsk p) = Unit {0}
BringsHome g (ClientGatherFailed p n) = Unit {0}

module _ (g : ℕ → Bool) where
  got_hears : (c : ClientFacts) (k : ℕ) (d : ClientFacts) → GotWithin g d → GotWithin g c → GotWithin g (hears c k d)
  got_hears c k d r h = pick (c.wants k && not (c.got k))
    where
      pick : (b : Bool) → GotWithin g (cond b d c)
      pick true = r
      pick false = h

  got_hear : (c : ClientFacts) (x : ToClient) → GotWithin g c → GotWithin g (hear c x)
  unfolding hear
  got_hear c (KeyInMemory k hs) h = got_hears c k _ h h
  got_hear c (LostData k) h = h
  got_hear c (ClientTaskErred k b) h = got_hears c k _ h h

  got_gets : (ks : List ℕ) (c : ClientFacts) → AllPass g ks → GotWithin g c → GotWithin g (fold client_gets c ks)
  got_gets [] c v h = h
  got_gets (k ∷ ks) c v h = got_gets ks (client_gets c k) v.1 (pick (c.wants k))
    where
      pick : (b : Bool) → GotWithin g (cond b (record c { got = put c.got k true; located = put c.located k [] }) c)
      pick true = at_one k (λ x y. cond x true (c.got y) ≡ true → g y ≡ true) (λ e. v.0) h
      pick false = h

  got_misses : (is : List (ℕ × ℕ)) (c : ClientFacts) → GotWithin g c → GotWithin g (fold client_misses c is)
  got_misses [] c h = h
  got_misses (i ∷ is) c h = got_misses is (client_misses c i) h

  got_gathered : (c : ClientFacts) (p n : ℕ) (found : List ℕ) → AllPass g found → GotWithin g c → GotWithin g (client_gathered c p n found).facts
  unfolding client_gathered
  got_gathered c p n found v h = pick (ask_to c.asks p)
    where
      over : (a : Ask) (b : Bool) → GotWithin g (cond b (client_answered (record c { asks = without_ask c.asks p }) p (keys_of (filter (λ i. is_in i.0 found) a.items)) (filter (λ i. not (is_in i.0 found)) a.items)) (keeps_still c)).facts
      over a true = got_misses (filter (λ i. not (is_in i.0 found)) a.items) _ (got_gets _ (record c { asks = without_ask c.asks p }) (kept_pass g g found v a.items) h)
      over a false = h

      pick : (o : Option Ask) → GotWithin g (client_gathered_by c p n found o).facts
      pick None = h
      pick (Some a) = over a (a.number == n)

  got_step : (c : ClientFacts) (e : ClientEvent) → BringsHome g e → GotWithin g c → GotWithin g (client_step c e).facts
  unfolding client_step client_wants client_ask client_releases
  got_step c (WantKeys ks) t h = h
  got_step c (ReleaseKeys ks) t h = λ k e. h k (and_parts (c.got k) (not (is_in k ks)) e).0
  got_step c (FromScheduler x) t h = got_hear c x h
  got_step c (ClientAsk p) t h = h
  got_step c (ClientGathered p n found) t h = got_gathered c p n found t h
  got_step c (ClientGatherFailed p n) t h = got_gathered c p n [] tt h

-- the world: these keys per worker, and per client
pub record IsWorldWithin (m r g : ℕ → ℕ → Bool) (w : World) : Type 0 where
  pub workers : (i : ℕ) → IsWithin (m i) (r i) (w.workers i)
  pub clients : (c : ℕ) → GotWithin (g c) (w.clients c)

abbrev pub PassAt : (ℕ → ℕ → Bool) → (ℕ → ℕ → Bool) → Asker → List ℕ → Type 0
PassAt m g (Worker i) ks = AllPass (m i) ks
PassAt m g (Client c) ks = AllPass (g c) ks

-- what an event brings or starts passes
pub record WorldBrings (j : Job) (m r g : ℕ → ℕ → Bool) (w : World) (e : Event) : Type 0 where
  pub starts : (i k : ℕ) → e ≡ Start i → would_start (w.workers i) ≡ Some k → r i k ≡ true
  pub finishes : (i k : ℕ) → e ≡ Finish i k → j.zero k ≡ false → m i k ≡ true
  pub arrives : (a : Asker) (p n : ℕ) (q : Parcel) → e ≡ ArriveGather a p n → parcel_of a p n w.answers ≡ Some q → PassAt m g q.asker q.keys

module _ (j : Job) (m r g : ℕ → ℕ → Bool) where
  abbrev W : World → Type 0
  W w = IsWorldWithin m r g w

  w_scheduler : (w : World) (e : SchedEvent) → W w → W (at_scheduler w e)
  unfolding scheduled
  w_scheduler w e h = record { workers = h.workers; clients = h.clients }

  w_worker : (w : World) (i : ℕ) (e : WorkerEvent) → BringsWithin (m i) (r i) (w.workers i) e → W w → W (at_worker w i e)
  unfolding worked
  w_worker w i e t h = record {
    workers = at_one i (λ b x. IsWithin (m x) (r x) (cond b (worker_step (w.workers i) e).facts (w.workers x))) (within_step (m i) (r i) (w.workers i) e t (h.workers i)) h.workers;
    clients = h.clients;
  }

  w_client : (w : World) (c : ℕ) (e : ClientEvent) → BringsHome (g c) e → W w → W (at_client w c e)
  unfolding client_worked
  w_client w c e t h = record {
    workers = h.workers;
    clients = at_one c (λ b x. GotWithin (g x) (cond b (client_step (w.clients c) e).facts (w.clients x))) (got_step (g c) (w.clients c) e t (h.clients c)) h.clients;
  }

  w_gathered_at : (w : World) (a : Asker) (p n : ℕ) (found : List ℕ) → PassAt m g a found → W w → W (gathered_at w a p n found)
  w_gathered_at w (Worker i) p n found v h = w_worker w i (Gathered p n found) v h
  w_gathered_at w (Client c) p n found v h = w_client w c (ClientGathered p n found) v h

  w_failed_at : (w : World) (a : Asker) (p n : ℕ) → W w → W (failed_at w a p n)
  w_failed_at w (Worker i) p n h = w_worker w i (GatherFailed p n) tt h
  w_failed_at w (Client c) p n h = w_client w c (ClientGatherFailed p n) tt h

  w_ask_by : (w : World) (a : Asker) (p : ℕ) → W w → W (ask_by w a p)
  w_ask_by w (Worker i) p h = w_worker w i (AskPeer p) tt h
  w_ask_by w (Client c) p h = w_client w c (ClientAsk p) tt h

  w_serve : (w : World) (p : ℕ) (o : Option Parcel) → W w → W (serve w p o)
  w_serve w p None h = h
  w_serve w p (Some q) h = record { workers = h.workers; clients = h.clients }

  w_take_answer : (w : World) (o : Option Parcel) → ((q : Parcel) → o ≡ Some q → PassAt m g q.asker q.keys) → W w → W (take_answer w o)
  w_take_answer w None t h = h
  w_take_answer w (Some q) t h = w_gathered_at _ q.asker q.peer q.ask q.keys (t q refl) (record { workers = h.workers; clients = h.clients })

  w_fail_ask : (w : World) (a : Asker) (p : ℕ) (o : Option Ask) → W w → W (fail_ask w a p o)
  w_fail_ask w a p None h = h
  w_fail_ask w a p (Some q) h = w_failed_at w a p q.number h

  w_take_down : (w : World) (i : ℕ) (ms : List Down) → W w → W (take_down_first w i ms)
  w_take_down w i [] h = h
  w_take_down w i (x ∷ ms) h = w_worker (record w { down = put w.down i ms }) i (Told x) tt (record { workers = h.workers; clients = h.clients })

  w_take_up : (w : World) (i : ℕ) (ms : List Up) → W w → W (take_up_first w i ms)
  w_take_up w i [] h = h
  w_take_up w i (x ∷ ms) h = heard (is_connected w i)
    where
      rest : W (record w { up = put w.up i ms })
      rest = record { workers = h.workers; clients = h.clients }

      heard : (b : Bool) → W (take_up (record w { up = put w.up i ms }) i x b)
      heard true = w_scheduler (record w { up = put w.up i ms }) (FromWorker i x) rest
      heard false = rest

  w_take_to_client : (w : World) (c : ℕ) (ms : List ToClient) → W w → W (take_to_client w c ms)
  w_take_to_client w c [] h = h
  w_take_to_client w c (x ∷ ms) h = w_client (record w { to_client = put w.to_client c ms }) c (FromScheduler x) tt (record { workers = h.workers; clients = h.clients })

  w_take_from_client : (w : World) (c : ℕ) (ms : List ClientMessage) → W w → W (take_from_client w c ms)
  w_take_from_client w c [] h = h
  w_take_from_client w c (x ∷ ms) h = w_scheduler (record w { from_client = put w.from_client c ms }) (FromClient c x) (record { workers = h.workers; clients = h.clients })

  w_new_at : (w : World) (i threads : ℕ) → W w → W (new_at w i threads)
  w_new_at w i threads h = record {
    workers = at_one i (λ b x. IsWithin (m x) (r x) (cond b (new_worker w.sched.setting.shape i threads) (w.workers x))) (record { mem = λ k e. absurd (false≢true e); running = λ k e. absurd (false≢true e) }) h.workers;
    clients = h.clients;
  }

  w_died : (w : World) (i : ℕ) → W w → W (died w i)
  w_died w i h = record {
    workers = at_one i (λ b x. IsWithin (m x) (r x) (cond b (record (w.workers i) { mem = λ k. false }) (w.workers x))) (record { mem = λ k e. absurd (false≢true e); running = (h.workers i).running }) h.workers;
    clients = h.clients;
  }

  pub within_world : (w : World) (e : Event) → WorldBrings j m r g w e → W w → W (world_step j w e)
  unfolding world_step
  within_world w (Want c ks) t h = w_client w c (WantKeys ks) tt h
  within_world w (Release c ks) t h = w_client w c (ReleaseKeys ks) tt h
  within_world w (Join threads) t h = w_scheduler (new_at w (w.sched.last_worker + 1) threads) (JoinSched threads) (w_new_at w (w.sched.last_worker + 1) threads h)
  within_world w (Lose i) t h = w_died w i h
  within_world w (SeeLoss i) t h = let s = w_scheduler w (Leave i) h in record { workers = s.workers; clients = s.clients }
  within_world w (Suspect i) t h = w_scheduler w (Leave i) h
  within_world w (DeliverDown i) t h = w_take_down w i (w.down i) h
  within_world w (DeliverUp i) t h = w_take_up w i (w.up i) h
  within_world w (DeliverToClient c) t h = w_take_to_client w c (w.to_client c) h
  within_world w (DeliverFromClient c) t h = w_take_from_client w c (w.from_client c) h
  within_world w (Start i) t h = w_worker w i StartTask (λ k e. t.starts i k refl e) h
  within_world w (Finish i k) t h = w_worker w i (Done k (j.zero k)) (t.finishes i k refl) h
  within_world w (SendGather a p) t h = w_ask_by w a p h
  within_world w (ServeGather p a n) t h = w_serve w p (parcel_of a p n w.requests) h
  within_world w (ArriveGather a p n) t h = w_take_answer w (parcel_of a p n w.answers) (λ q e. t.arrives a p n q refl e) h
  within_world w (FailGather a p) t h = w_fail_ask w a p (open_ask w a p) h
  within_world w Balance t h = w_scheduler w BalanceSched h
  within_world w Evict t h = w_scheduler w EvictSched h
  within_world w (Replicate k i) t h = w_scheduler w (ReplicateSched k i) h
  within_world w (Spill i k) t h = record { workers = h.workers; clients = h.clients }
  within_world w (LoseSpilled i k) t h = w_worker w i (DataLost k) tt h
