-- Every legal event of the world keeps what is true of blocks and failures.
use Rattle.std.proofs.Common.{◌≡◌, ℕ, ◌+◌, Bool, true, false, List, [], ◌∷◌, ◌++◌, Option, Some, None, refl, sym, ap, ◌∙◌, subst, cond, filter, find}
use Rattle.std.specs.List.{AllByRecursion}
use Rattle.std.proofs.lemmas.Bool.{false≢true, and_parts}
use Rattle.std.proofs.lemmas.Option.{same_Some, none-some}
use Rattle.small_facts.proofs.Every.{all_join}
use Rattle.cluster_msgs.specs.Shape.{IsShape}
use Rattle.cluster_msgs.specs.declared.messages.Down.{Down}
use Rattle.cluster_msgs.specs.declared.messages.Up.{Up}
use Rattle.cluster_msgs.specs.declared.messages.ToClient.{ToClient}
use Rattle.cluster_msgs.specs.declared.messages.FromClient.{FromClient as ClientMessage}
use Rattle.cluster_msgs.specs.declared.cores.SchedEvent.{SchedEvent}
use Rattle.cluster_msgs.specs.declared.cores.SchedEvent.TheVariants.{Join as JoinSched, Leave, FromWorker, FromClient, Balance as BalanceSched, Evict as EvictSched, Replicate as ReplicateSched}
use Rattle.cluster_msgs.specs.declared.cores.WorkerEvent.{WorkerEvent}
use Rattle.cluster_msgs.specs.declared.cores.WorkerEvent.TheVariants.{Down as Told, Start as StartTask, Done, Ask as AskPeer, Gathered, GatherFailed, DataLost}
use Rattle.cluster_msgs.specs.declared.cores.ClientEvent.{ClientEvent}
use Rattle.cluster_msgs.specs.declared.cores.ClientEvent.TheVariants.{Want as WantKeys, Release as ReleaseKeys, FromScheduler, Ask as ClientAsk, Gathered as ClientGathered, GatherFailed as ClientGatherFailed}
use Rattle.cluster_msgs.specs.declared.events.Asker.{Asker}
use Rattle.cluster_msgs.specs.declared.events.Asker.TheVariants.{Worker, Client}
use Rattle.cluster_msgs.specs.declared.events.Event.{Event}
use Rattle.cluster_msgs.specs.declared.events.Event.TheVariants.{Want, Release, Join, Lose, SeeLoss, Suspect, DeliverDown, DeliverUp, DeliverToClient, DeliverFromClient, Start, Finish, SendGather, ServeGather, ArriveGather, FailGather, Balance, Evict, Replicate, Spill, LoseSpilled}
use Rattle.cluster_rules.specs.Functions.{put}
use Rattle.cluster_rules.specs.Sched.{Setting, Facts, is_on, is_above}
use Rattle.cluster_rules.specs.SchedStep.{sched_step}
use Rattle.cluster_rules.specs.Worker.{Ask, new_worker}
use Rattle.cluster_rules.specs.WorkerStep.{worker_step}
use Rattle.cluster_rules.specs.Client.{client_step}
use Rattle.cluster_rules.specs.World.{Job, World, Parcel, opening, is_connected, open_ask, parcel_before, with_parcel, is_parcel, parcel_of}
use Rattle.cluster_rules.specs.WorldStep.{scheduled, sends, worked, client_worked, at_scheduler, at_worker, at_client, new_at, died, cut_off, take_down_first, take_up, take_up_first, take_to_client, take_from_client, ask_by, gathered_at, failed_at, serve, take_answer, fail_ask, world_step}
use Rattle.cluster_rules.specs.Enabled.{enabled}
use Rattle.cluster_rules.specs.Runs.{LegalFrom, run_from, legal, reached, sched_event, losses_from, killed, WasKilled}
use Rattle.cluster_laws.specs.Truth.{IsTrueWorker, AreValued, IsTrueEvent, IsTrueUp, IsTrueNews, IsTrueClient, IsTrueWorld, IsTrueClientEvent, IsTrueSchedEvent}
use Rattle.cluster_rules.proofs.WorkerLemmas.{at_one}
use Rattle.cluster_laws.proofs.TruthWorker.{DoneRuns, IsTrueStep, true_step, sends_true}
use Rattle.cluster_laws.proofs.Losses.{step_known, step_losses}
use Rattle.cluster_laws.proofs.SchedPart.{sched_after, sched_is}
use Rattle.cluster_laws.proofs.Counted.{losses_are}
use Rattle.cluster_laws.proofs.TruthSched.{IsExcusing, true_sched_step, true_news, letters_true, true_client_step}

module _ (excused : ℕ → Type 0) (j : Job) (g : IsShape j.setting.shape) where
  -- the scheduler took an event
  true_at_scheduler : (w : World) (e : SchedEvent) → IsExcusing excused j w.sched e → IsTrueSchedEvent j e → IsTrueWorld excused j w → IsTrueWorld excused j (at_scheduler w e)
  unfolding scheduled
  true_at_scheduler w e x t h = record {
    sched = true_sched_step excused j w.sched e x t h.sched;
    workers = h.workers;
    clients = h.clients;
    up = h.up;
    to_client = λ c. all_join (IsTrueNews excused j) (w.to_client c) _ (h.to_client c) (letters_true excused j c (sched_step w.sched e).clients (true_news excused j w.sched e g x t h.sched));
    answers = h.answers;
  }

  -- an event that takes no worker away excuses whatever it has to
  stays_client : (c : ℕ) (m : ClientMessage) (i : ℕ) → FromClient c m ≡ Leave i → ⊥
  stays_client c m i e = cc

  stays_worker : (v : ℕ) (m : Up) (i : ℕ) → FromWorker v m ≡ Leave i → ⊥
  stays_worker v m i e = cc

  stays_join : (n i : ℕ) → JoinSched n ≡ Leave i → ⊥
  stays_join n i e = cc

  stays_balance : (i : ℕ) → BalanceSched ≡ Leave i → ⊥
  stays_balance i e = cc

  stays_evict : (i : ℕ) → EvictSched ≡ Leave i → ⊥
  stays_evict i e = cc

  stays_replicate : (k v i : ℕ) → ReplicateSched k v ≡ Leave i → ⊥
  stays_replicate k v i e = cc

  -- a worker took an event
  true_at_worker : (w : World) (i : ℕ) (e : WorkerEvent) → DoneRuns j (w.workers i) e → IsTrueEvent j e → IsTrueWorld excused j w → IsTrueWorld excused j (at_worker w i e)
  unfolding worked
  true_at_worker w i e p t h =
      let r : IsTrueStep j (worker_step (w.workers i) e) = true_step j (w.workers i) e p t (h.workers i) in
      record {
        sched = h.sched;
        workers = at_one i (λ b x. IsTrueWorker j (cond b (worker_step (w.workers i) e).facts (w.workers x))) r.facts h.workers;
        clients = h.clients;
        up = at_one i (λ b x. AllByRecursion (IsTrueUp j) (cond b (w.up i ++ sends (worker_step (w.workers i) e).out) (w.up x))) (all_join (IsTrueUp j) (w.up i) _ (h.up i) (sends_true j _ r.out)) h.up;
        to_client = h.to_client;
        answers = h.answers;
      }

  -- a client took an event
  true_at_client : (w : World) (c : ℕ) (e : ClientEvent) → IsTrueClientEvent excused j e → IsTrueWorld excused j w → IsTrueWorld excused j (at_client w c e)
  unfolding client_worked
  true_at_client w c e t h = record {
    sched = h.sched;
    workers = h.workers;
    clients = at_one c (λ b x. IsTrueClient excused j (cond b (client_step (w.clients c) e).facts (w.clients x))) (true_client_step excused j (w.clients c) e t (h.clients c)) h.clients;
    up = h.up;
    to_client = h.to_client;
    answers = h.answers;
  }

  -- parcels
  abbrev HasValued : Parcel → Type 0
  HasValued q = AreValued j q.keys

  valued_with : (p : Parcel) (qs : List Parcel) → HasValued p → AllByRecursion HasValued qs → AllByRecursion HasValued (with_parcel p qs)
  valued_with p [] v h = (v, tt)
  valued_with p (q ∷ qs) v h = pick (parcel_before p q) (valued_with p qs v h.1)
    where
      pick : (b : Bool) → AllByRecursion HasValued (with_parcel p qs) → AllByRecursion HasValued (cond b (p ∷ q ∷ qs) (q ∷ with_parcel p qs))
      pick true r = (v, h)
      pick false r = (h.0, r)

  valued_filter : (t : Parcel → Bool) (qs : List Parcel) → AllByRecursion HasValued qs → AllByRecursion HasValued (filter t qs)
  valued_filter t [] h = tt
  valued_filter t (q ∷ qs) h = pick (t q) (valued_filter t qs h.1)
    where
      pick : (b : Bool) → AllByRecursion HasValued (filter t qs) → AllByRecursion HasValued (cond b (q ∷ filter t qs) (filter t qs))
      pick true r = (h.0, r)
      pick false r = r

  valued_found : (t : Parcel → Bool) (qs : List Parcel) (q : Parcel) → find t qs ≡ Some q → AllByRecursion HasValued qs → HasValued q
  valued_found t [] q e h = absurd (none e)
    where
      none : ◌≡◌ {A = Option Parcel} None (Some q) → ⊥
      none e = cc
  valued_found t (x ∷ qs) q e h = pick (t x) e (λ i. valued_found t qs q i h.1)
    where
      pick : (b : Bool) → cond b (Some x) (find t qs) ≡ Some q → (find t qs ≡ Some q → HasValued q) → HasValued q
      pick true e r = subst (λ y. HasValued y) (same_Some x q e) h.0
      pick false e r = r e

  valued_here : (m z : ℕ → Bool) → ((k : ℕ) → m k ≡ true → z k ≡ false) → (ks : List ℕ) → AllByRecursion (λ k. z k ≡ false) (filter m ks)
  valued_here m z h [] = tt
  valued_here m z h (k ∷ ks) = pick (m k) refl (valued_here m z h ks)
    where
      pick : (b : Bool) → m k ≡ b → AllByRecursion (λ k. z k ≡ false) (filter m ks) → AllByRecursion (λ k. z k ≡ false) (cond b (k ∷ filter m ks) (filter m ks))
      pick true e r = (h k e, r)
      pick false e r = r

  true_serve : (w : World) (p : ℕ) (o : Option Parcel) → IsTrueWorld excused j w → IsTrueWorld excused j (serve w p o)
  true_serve w p None h = h
  true_serve w p (Some q) h = record {
    sched = h.sched;
    workers = h.workers;
    clients = h.clients;
    up = h.up;
    to_client = h.to_client;
    answers = valued_with _ w.answers (valued_here (w.workers p).mem j.zero (λ k e. ((h.workers p).at k).valued e) q.keys) h.answers;
  }

  -- an asker's events
  true_gathered_at : (w : World) (a : Asker) (p n : ℕ) (found : List ℕ) → AreValued j found → IsTrueWorld excused j w → IsTrueWorld excused j (gathered_at w a p n found)
  true_gathered_at w (Worker i) p n found v h = true_at_worker w i (Gathered p n found) (λ k z e. absurd (never e)) v h
    where
      never : {k : ℕ} {z : Bool} → Gathered p n found ≡ Done k z → ⊥
      never e = cc
  true_gathered_at w (Client c) p n found v h = true_at_client w c (ClientGathered p n found) v h

  true_failed_at : (w : World) (a : Asker) (p n : ℕ) → IsTrueWorld excused j w → IsTrueWorld excused j (failed_at w a p n)
  true_failed_at w (Worker i) p n h = true_at_worker w i (GatherFailed p n) (λ k z e. absurd (never e)) tt h
    where
      never : {k : ℕ} {z : Bool} → GatherFailed p n ≡ Done k z → ⊥
      never e = cc
  true_failed_at w (Client c) p n h = true_at_client w c (ClientGatherFailed p n) tt h

  true_ask_by : (w : World) (a : Asker) (p : ℕ) → IsTrueWorld excused j w → IsTrueWorld excused j (ask_by w a p)
  true_ask_by w (Worker i) p h = true_at_worker w i (AskPeer p) (λ k z e. absurd (never e)) tt h
    where
      never : {k : ℕ} {z : Bool} → AskPeer p ≡ Done k z → ⊥
      never e = cc
  true_ask_by w (Client c) p h = true_at_client w c (ClientAsk p) tt h

  true_take_answer : (w : World) (a : Asker) (p n : ℕ) (o : Option Parcel) → parcel_of a p n w.answers ≡ o → IsTrueWorld excused j w → IsTrueWorld excused j (take_answer w o)
  true_take_answer w a p n None e h = h
  true_take_answer w a p n (Some q) e h = true_gathered_at _ q.asker q.peer q.ask q.keys (valued_found (is_parcel a p n) w.answers q e h.answers) (record {
    sched = h.sched;
    workers = h.workers;
    clients = h.clients;
    up = h.up;
    to_client = h.to_client;
    answers = valued_filter _ w.answers h.answers;
  })

  true_fail_ask : (w : World) (a : Asker) (p : ℕ) (o : Option Ask) → IsTrueWorld excused j w → IsTrueWorld excused j (fail_ask w a p o)
  true_fail_ask w a p None h = h
  true_fail_ask w a p (Some q) h = true_failed_at w a p q.number h

  -- deliveries
  true_take_down : (w : World) (i : ℕ) (ms : List Down) → IsTrueWorld excused j w → IsTrueWorld excused j (take_down_first w i ms)
  true_take_down w i [] h = h
  true_take_down w i (m ∷ ms) h = true_at_worker (record w { down = put w.down i ms }) i (Told m) (λ k z e. absurd (never e)) tt (record { sched = h.sched; workers = h.workers; clients = h.clients; up = h.up; to_client = h.to_client; answers = h.answers })
    where
      never : {k : ℕ} {z : Bool} → Told m ≡ Done k z → ⊥
      never e = cc

  true_take_up : (w : World) (i : ℕ) (ms : List Up) → w.up i ≡ ms → IsTrueWorld excused j w → IsTrueWorld excused j (take_up_first w i ms)
  true_take_up w i [] e h = h
  true_take_up w i (m ∷ ms) e h = heard (is_connected w i)
    where
      all : AllByRecursion (IsTrueUp j) (m ∷ ms)
      all = subst (λ l. AllByRecursion (IsTrueUp j) l) e (h.up i)

      rest : IsTrueWorld excused j (record w { up = put w.up i ms })
      rest = record { sched = h.sched; workers = h.workers; clients = h.clients; up = at_one i (λ b x. AllByRecursion (IsTrueUp j) (cond b ms (w.up x))) all.1 h.up; to_client = h.to_client; answers = h.answers }

      heard : (b : Bool) → IsTrueWorld excused j (take_up (record w { up = put w.up i ms }) i m b)
      heard true = true_at_scheduler (record w { up = put w.up i ms }) (FromWorker i m) (λ v k q. absurd (stays_worker i m v q)) all.0 rest
      heard false = rest

  true_take_to_client : (w : World) (c : ℕ) (ms : List ToClient) → w.to_client c ≡ ms → IsTrueWorld excused j w → IsTrueWorld excused j (take_to_client w c ms)
  true_take_to_client w c [] e h = h
  true_take_to_client w c (m ∷ ms) e h = true_at_client (record w { to_client = put w.to_client c ms }) c (FromScheduler m) all.0 (record {
    sched = h.sched;
    workers = h.workers;
    clients = h.clients;
    up = h.up;
    answers = h.answers;
    to_client = at_one c (λ b x. AllByRecursion (IsTrueNews excused j) (cond b ms (w.to_client x))) all.1 h.to_client;
  })
    where
      all : AllByRecursion (IsTrueNews excused j) (m ∷ ms)
      all = subst (λ l. AllByRecursion (IsTrueNews excused j) l) e (h.to_client c)

  true_take_from_client : (w : World) (c : ℕ) (ms : List ClientMessage) → IsTrueWorld excused j w → IsTrueWorld excused j (take_from_client w c ms)
  true_take_from_client w c [] h = h
  true_take_from_client w c (m ∷ ms) h = true_at_scheduler (record w { from_client = put w.from_client c ms }) (FromClient c m) (λ v k q. absurd (stays_client c m v q)) tt (record { sched = h.sched; workers = h.workers; clients = h.clients; up = h.up; to_client = h.to_client; answers = h.answers })

  -- the other events
  pub true_new_at : (w : World) (i threads : ℕ) → IsTrueWorld excused j w → IsTrueWorld excused j (new_at w i threads)
  true_new_at w i threads h = record {
    sched = h.sched;
    clients = h.clients;
    up = h.up;
    to_client = h.to_client;
    answers = h.answers;
    workers = at_one i (λ b x. IsTrueWorker j (cond b (new_worker w.sched.setting.shape i threads) (w.workers x)))
        (record { shape = ap (λ (s : Setting). s.shape) h.sched.setting; at = λ k. record { valued = λ e. absurd (false≢true e); fed = λ e. absurd (false≢true e) } }) h.workers;
  }

  true_died : (w : World) (i : ℕ) → IsTrueWorld excused j w → IsTrueWorld excused j (died w i)
  true_died w i h = record {
    sched = h.sched;
    clients = h.clients;
    up = h.up;
    to_client = h.to_client;
    answers = h.answers;
    workers = at_one i (λ b x. IsTrueWorker j (cond b (record (w.workers i) { mem = λ k. false }) (w.workers x)))
        (record { shape = (h.workers i).shape; at = λ k. record { valued = λ e. absurd (false≢true e); fed = ((h.workers i).at k).fed } }) h.workers;
  }

  true_cut_off : (w : World) (i : ℕ) → IsTrueWorld excused j w → IsTrueWorld excused j (cut_off w i)
  true_cut_off w i h = record {
    sched = h.sched;
    workers = h.workers;
    clients = h.clients;
    to_client = h.to_client;
    answers = h.answers;
    up = at_one i (λ b x. AllByRecursion (IsTrueUp j) (cond b [] (w.up x))) tt h.up;
  }

  -- whatever the scheduler takes, each key that is killed by it is excused
  abbrev pub IsExcusingWorld : World → Event → Type 0
  IsExcusingWorld w e = (s : SchedEvent) → sched_event w e ≡ Some s → IsExcusing excused j w.sched s

  pub true_world_step : (w : World) (e : Event) → IsExcusingWorld w e → enabled w e ≡ true → IsTrueWorld excused j w → IsTrueWorld excused j (world_step j w e)
  unfolding world_step enabled
  true_world_step w (Want c ks) x t h = true_at_client w c (WantKeys ks) tt h
  true_world_step w (Release c ks) x t h = true_at_client w c (ReleaseKeys ks) tt h
  true_world_step w (Join threads) x t h = true_at_scheduler (new_at w (w.sched.last_worker + 1) threads) (JoinSched threads) (λ v k q. absurd (stays_join threads v q)) tt (true_new_at w (w.sched.last_worker + 1) threads h)
  true_world_step w (Lose i) x t h = true_died w i h
  true_world_step w (SeeLoss i) x t h = true_cut_off (at_scheduler w (Leave i)) i (true_at_scheduler w (Leave i) (x (Leave i) refl) tt h)
  true_world_step w (Suspect i) x t h = true_at_scheduler w (Leave i) (x (Leave i) refl) tt h
  true_world_step w (DeliverDown i) x t h = true_take_down w i (w.down i) h
  true_world_step w (DeliverUp i) x t h = true_take_up w i (w.up i) refl h
  true_world_step w (DeliverToClient c) x t h = true_take_to_client w c (w.to_client c) refl h
  true_world_step w (DeliverFromClient c) x t h = true_take_from_client w c (w.from_client c) h
  true_world_step w (Start i) x t h = true_at_worker w i StartTask (λ k z e. absurd (start_never e)) tt h
    where
      start_never : {k : ℕ} {z : Bool} → StartTask ≡ Done k z → ⊥
      start_never e = cc
  true_world_step w (Finish i k) x t h = true_at_worker w i (Done k (j.zero k)) (λ q z e. subst (λ x. (w.workers i).running x ≡ true) (same q z e) (and_parts (w.alive i) ((w.workers i).running k) t).1) refl h
    where
      same : (q : ℕ) (z : Bool) → Done k (j.zero k) ≡ Done q z → k ≡ q
      same q z e = cc
  true_world_step w (SendGather a p) x t h = true_ask_by w a p h
  true_world_step w (ServeGather p a n) x t h = true_serve w p (parcel_of a p n w.requests) h
  true_world_step w (ArriveGather a p n) x t h = true_take_answer w a p n (parcel_of a p n w.answers) refl h
  true_world_step w (FailGather a p) x t h = true_fail_ask w a p (open_ask w a p) h
  true_world_step w Balance x t h = true_at_scheduler w BalanceSched (λ v k q. absurd (stays_balance v q)) tt h
  true_world_step w Evict x t h = true_at_scheduler w EvictSched (λ v k q. absurd (stays_evict v q)) tt h
  true_world_step w (Replicate k i) x t h = true_at_scheduler w (ReplicateSched k i) (λ v q r. absurd (stays_replicate k i v r)) tt h
  true_world_step w (Spill i k) x t h = record { sched = h.sched; workers = h.workers; clients = h.clients; up = h.up; to_client = h.to_client; answers = h.answers }
  true_world_step w (LoseSpilled i k) x t h = true_at_worker w i (DataLost k) (λ q z e. absurd (lost_never e)) tt h
    where
      lost_never : {q : ℕ} {z : Bool} → DataLost k ≡ Done q z → ⊥
      lost_never e = cc

  pub true_opening : IsTrueWorld excused j (opening j)
  true_opening = record {
    sched = record { setting = refl; bad = λ k e. absurd (false≢true e) };
    workers = λ i. record { shape = refl; at = λ k. record { valued = λ e. absurd (false≢true e); fed = λ e. absurd (false≢true e) } };
    clients = λ c. record { got = λ k e. absurd (false≢true e); failed = λ k b e. absurd (none-some b e) };
    up = λ i. tt;
    to_client = λ c. tt;
    answers = tt;
  }

-- ## Every legal list: what excuses an error that is of no faulty key is that the key was killed

last_run : (j : Job) (w : World) (es : List Event) (e : Event) → run_from j w (es ++ e ∷ []) ≡ world_step j (run_from j w es) e
last_run j w [] e = refl
last_run j w (x ∷ es) e = last_run j (world_step j w x) es e

one_by_one : (xs : List Event) (e : Event) (ys : List Event) → xs ++ e ∷ ys ≡ (xs ++ e ∷ []) ++ ys
one_by_one [] e ys = refl
one_by_one (x ∷ xs) e ys = ap (λ l. x ∷ l) (one_by_one xs e ys)

module _ (j : Job) (g : IsShape j.setting.shape) (all : List Event) where
  -- a key that an event of the list kills was killed once that event was made
  killed_then : (before es : List Event) (e : Event) → all ≡ before ++ e ∷ es → IsTrueWorld (WasKilled j all) j (reached j before) → IsExcusingWorld (WasKilled j all) j g (reached j before) e
  unfolding killed
  killed_then before es e whole h s a i k q z = record { before = before ++ e ∷ []; later = es; whole = whole ∙ one_by_one before e es; killed = killed_now }
    where
      w : World
      w = reached j before

      is_leave : sched_event w e ≡ Some (Leave i)
      is_leave = a ∙ ap (λ (x : SchedEvent). Some x) q

      counted : losses_from j (opening j) 0 (before ++ e ∷ []) k ≡ w.sched.losses k + 1
      counted = sym (losses_are j (before ++ e ∷ []) k) ∙ ap (λ (v : World). v.sched.losses k) (last_run j (opening j) before e)
          ∙ ap (λ (f : Facts). f.losses k) (sched_is j w e ∙ ap (sched_after w.sched) is_leave)
          ∙ step_losses w.sched (Leave i) k
          ∙ ap (λ b. cond b (cond (is_on w.sched i k) (w.sched.losses k + 1) (w.sched.losses k)) 0) (ap (λ (n : ℕ → Bool). n k) (step_known w.sched (Leave i)) ∙ z.known)
          ∙ ap (λ b. cond b (w.sched.losses k + 1) (w.sched.losses k)) z.on

      killed_now : killed j (before ++ e ∷ []) k ≡ true
      killed_now = ap (λ n. is_above j.setting.allowed n) counted ∙ ap (λ (x : Setting). is_above x.allowed (w.sched.losses k + 1)) (sym h.sched.setting) ∙ z.above

  true_from : (before es : List Event) (w : World) → reached j before ≡ w → all ≡ before ++ es → LegalFrom j w es → IsTrueWorld (WasKilled j all) j w → IsTrueWorld (WasKilled j all) j (run_from j w es)
  true_from before [] w q whole l h = h
  true_from before (e ∷ es) w q whole l h =
      let x = killed_then before es e whole (subst (λ v. IsTrueWorld (WasKilled j all) j v) (sym q) h) in
      true_from (before ++ e ∷ []) es (world_step j w e) (last_run j (opening j) before e ∙ ap (λ v. world_step j v e) q) (whole ∙ one_by_one before e es) l.1
      (true_world_step (WasKilled j all) j g w e (subst (λ v. IsExcusingWorld (WasKilled j all) j g v e) q x) l.0 h)

pub true_after : (j : Job) → IsShape j.setting.shape → (es : List Event) → legal j es → IsTrueWorld (WasKilled j es) j (reached j es)
true_after j g es l = true_from j g es [] es (opening j) refl refl l (true_opening (WasKilled j es) j g)
