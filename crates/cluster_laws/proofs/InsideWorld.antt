-- Nothing in the world names a key that isn't there, whatever operations give.
use Rattle.std.proofs.Common.{◌≡◌, ℕ, zero, ◌+◌, Bool, true, false, not, ◌&&◌, List, [], ◌∷◌, ◌++◌, Option, Some, None, refl, ap, ◌∙◌, subst, cond}
use Rattle.std.specs.Prelude.{nat_lt}
use Rattle.std.specs.List.{list_all, AllByRecursion}
use Rattle.std.proofs.lemmas.Bool.{false≢true, and_parts}
use Rattle.small_facts.proofs.Every.{all_join, all_of_filter}
use Rattle.cluster_msgs.specs.Shape.{Shape, IsShape, key_count}
use Rattle.cluster_msgs.specs.declared.messages.Down.{Down}
use Rattle.cluster_msgs.specs.declared.messages.Up.{Up}
use Rattle.cluster_msgs.specs.declared.messages.ToClient.{ToClient}
use Rattle.cluster_msgs.specs.declared.messages.FromClient.{FromClient as ClientMessage}
use Rattle.cluster_msgs.specs.declared.cores.SchedEvent.{SchedEvent}
use Rattle.cluster_msgs.specs.declared.cores.SchedEvent.TheVariants.{Join as JoinSched, Leave, FromWorker, FromClient, Balance as BalanceSched, Evict as EvictSched, Replicate as ReplicateSched}
use Rattle.cluster_msgs.specs.declared.cores.WorkerEvent.{WorkerEvent}
use Rattle.cluster_msgs.specs.declared.cores.WorkerEvent.TheVariants.{Down as Told, Start as StartTask, Done, Ask as AskPeer, Gathered, GatherFailed, DataLost}
use Rattle.cluster_msgs.specs.declared.cores.ClientEvent.{ClientEvent}
use Rattle.cluster_msgs.specs.declared.cores.ClientEvent.TheVariants.{Want as WantKeys, Release as ReleaseKeys, FromScheduler, Ask as ClientAsk, Gathered as ClientGathered, GatherFailed as ClientGatherFailed}
use Rattle.cluster_msgs.specs.declared.events.Asker.{Asker}
use Rattle.cluster_msgs.specs.declared.events.Asker.TheVariants.{Worker, Client}
use Rattle.cluster_msgs.specs.declared.events.Event.{Event}
use Rattle.cluster_msgs.specs.declared.events.Event.TheVariants.{Want, Release, Join, Lose, SeeLoss, Suspect, DeliverDown, DeliverUp, DeliverToClient, DeliverFromClient, Start, Finish, SendGather, ServeGather, ArriveGather, FailGather, Balance, Evict, Replicate, Spill, LoseSpilled}
use Rattle.cluster_rules.specs.Functions.{put}
use Rattle.cluster_rules.specs.Sched.{Setting, held, holds}
use Rattle.cluster_rules.specs.SchedTable.{up_keys, client_keys, change, sched_takes}
use Rattle.cluster_rules.specs.SchedStep.{sched_step}
use Rattle.cluster_rules.specs.Worker.{Ask, new_worker, has_any}
use Rattle.cluster_rules.specs.WorkerStep.{worker_step}
use Rattle.cluster_rules.specs.Client.{client_step}
use Rattle.cluster_rules.specs.World.{Job, World, Parcel, opening, is_connected, open_ask, parcel_of}
use Rattle.cluster_rules.specs.WorldStep.{scheduled, sends, client_sends, worked, client_worked, at_scheduler, at_worker, at_client, new_at, died, cut_off, take_down_first, take_up, take_up_first, take_to_client, take_from_client, ask_by, gathered_at, failed_at, serve, take_answer, fail_ask, spill, world_step}
use Rattle.cluster_rules.specs.Enabled.{enabled}
use Rattle.cluster_rules.specs.Runs.{LegalFrom, run_from, legal, reached}
use Rattle.cluster_laws.specs.Moves.{world_after}
use Rattle.cluster_rules.specs.Inside.{IsKey, AreKeys, down_keys, news_keys, IsInsideWorker, IsInsideClient, IsInsideWorld}
use Rattle.cluster_rules.proofs.WorkerLemmas.{at_one}
use Rattle.cluster_laws.proofs.Framed.{change_framed, step_setting}
use Rattle.cluster_rules.proofs.InsideWorker.{IsInsideStep, IsInsideEvent, in_step, sends_in, requested_in, parcels_with}
use Rattle.cluster_rules.proofs.InsideSched.{IsInsideSched, down_in, mail_in, news_in, letters_in, IsInsideClientEvent, IsClientStep, client_in, client_sends_in, client_requested_in, all_found}

module _ (j : Job) (low : IsShape j.setting.shape) where
  abbrev graph : Shape
  graph = j.setting.shape

  keys_of_test : (ks : List ℕ) (g : Shape) → g ≡ graph → list_all (λ k. nat_lt k (key_count g)) ks ≡ true → AreKeys graph ks
  keys_of_test [] g e h = tt
  keys_of_test (k ∷ ks) g e h = let p = and_parts (nat_lt k (key_count g)) _ h in (subst (λ (s : Shape). nat_lt k (key_count s) ≡ true) e p.0, keys_of_test ks g e p.1)

  -- the scheduler took an event
  in_scheduler : (w : World) (e : SchedEvent) → IsInsideSched graph low e → IsInsideWorld graph w → IsInsideWorld graph (at_scheduler w e)
  unfolding scheduled
  in_scheduler w e v h =
      let same : (change w.sched e).facts.setting ≡ w.sched.setting = (change_framed w.sched e).setting in
      record {
        shape = ap (λ (x : Setting). x.shape) (step_setting w.sched e) ∙ h.shape;
        workers = h.workers;
        clients = h.clients;
        spilled = h.spilled;
        down = λ i. all_join (λ m. AreKeys graph (down_keys m)) (w.down i) _ (h.down i) (mail_in graph low i (sched_step w.sched e).down (down_in graph low w.sched e h.shape same v));
        up = h.up;
        to_client = λ c. all_join (λ m. AreKeys graph (news_keys m)) (w.to_client c) _ (h.to_client c) (letters_in graph low c (sched_step w.sched e).clients (news_in graph low j w.sched e h.shape same v));
        from_client = h.from_client;
        requests = h.requests;
        answers = h.answers;
      }

  -- a worker took an event
  in_worker : (w : World) (i : ℕ) (e : WorkerEvent) → IsInsideEvent graph (w.workers i) e → IsInsideWorld graph w → IsInsideWorld graph (at_worker w i e)
  unfolding worked
  in_worker w i e v h =
      let r : IsInsideStep graph (worker_step (w.workers i) e) = in_step graph (w.workers i) e v (h.workers i) in
      record {
        shape = h.shape;
        workers = at_one i (λ b x. IsInsideWorker graph (cond b (worker_step (w.workers i) e).facts (w.workers x))) r.facts h.workers;
        clients = h.clients;
        spilled = at_one i (λ b x. (k : ℕ) → cond b (λ k. w.spilled i k && (worker_step (w.workers i) e).facts.mem k) (w.spilled x) k ≡ true → IsKey graph k)
            (λ k s. h.spilled i k (and_parts (w.spilled i k) _ s).0) h.spilled;
        down = h.down;
        up = at_one i (λ b x. AllByRecursion (λ m. AreKeys graph (up_keys m)) (cond b (w.up i ++ sends (worker_step (w.workers i) e).out) (w.up x))) (all_join (λ m. AreKeys graph (up_keys m)) (w.up i) _ (h.up i) (sends_in graph _ r.out)) h.up;
        to_client = h.to_client;
        from_client = h.from_client;
        requests = requested_in graph (Worker i) (worker_step (w.workers i) e).out w.requests r.out h.requests;
        answers = h.answers;
      }

  -- a client took an event
  in_client : (w : World) (c : ℕ) (e : ClientEvent) → IsInsideClientEvent graph low e → IsInsideWorld graph w → IsInsideWorld graph (at_client w c e)
  unfolding client_worked
  in_client w c e v h =
      let r : IsClientStep graph low (client_step (w.clients c) e) = client_in graph low (w.clients c) e v (h.clients c) in
      record {
        shape = h.shape;
        workers = h.workers;
        clients = at_one c (λ b x. IsInsideClient graph (cond b (client_step (w.clients c) e).facts (w.clients x))) r.facts h.clients;
        spilled = h.spilled;
        down = h.down;
        up = h.up;
        to_client = h.to_client;
        from_client = at_one c (λ b x. AllByRecursion (λ m. AreKeys graph (client_keys m)) (cond b (w.from_client c ++ client_sends (client_step (w.clients c) e).out) (w.from_client x))) (all_join (λ m. AreKeys graph (client_keys m)) (w.from_client c) _ (h.from_client c) (client_sends_in graph low _ r.out)) h.from_client;
        requests = client_requested_in graph low (Client c) (client_step (w.clients c) e).out w.requests r.out h.requests;
        answers = h.answers;
      }

  in_gathered_at : (w : World) (a : Asker) (p n : ℕ) (found : List ℕ) → IsInsideWorld graph w → IsInsideWorld graph (gathered_at w a p n found)
  in_gathered_at w (Worker i) p n found h = in_worker w i (Gathered p n found) tt h
  in_gathered_at w (Client c) p n found h = in_client w c (ClientGathered p n found) tt h

  in_failed_at : (w : World) (a : Asker) (p n : ℕ) → IsInsideWorld graph w → IsInsideWorld graph (failed_at w a p n)
  in_failed_at w (Worker i) p n h = in_worker w i (GatherFailed p n) tt h
  in_failed_at w (Client c) p n h = in_client w c (ClientGatherFailed p n) tt h

  in_ask_by : (w : World) (a : Asker) (p : ℕ) → IsInsideWorld graph w → IsInsideWorld graph (ask_by w a p)
  in_ask_by w (Worker i) p h = in_worker w i (AskPeer p) tt h
  in_ask_by w (Client c) p h = in_client w c (ClientAsk p) tt h

  in_serve : (w : World) (a : Asker) (p n : ℕ) (o : Option Parcel) → parcel_of a p n w.requests ≡ o → IsInsideWorld graph w → IsInsideWorld graph (serve w p o)
  in_serve w a p n None e h = h
  in_serve w a p n (Some q) e h = record {
    shape = h.shape;
    workers = h.workers;
    clients = h.clients;
    spilled = h.spilled;
    down = h.down;
    up = h.up;
    to_client = h.to_client;
    from_client = h.from_client;
    requests = all_of_filter (λ (q : Parcel). AreKeys graph q.keys) _ w.requests h.requests;
    answers = parcels_with graph _ w.answers (all_of_filter (IsKey graph) (w.workers p).mem q.keys (all_found (λ (q : Parcel). AreKeys graph q.keys) _ w.requests q e h.requests)) h.answers;
  }

  in_take_answer : (w : World) (o : Option Parcel) → IsInsideWorld graph w → IsInsideWorld graph (take_answer w o)
  in_take_answer w None h = h
  in_take_answer w (Some q) h = in_gathered_at _ q.asker q.peer q.ask q.keys (record {
    shape = h.shape;
    workers = h.workers;
    clients = h.clients;
    spilled = h.spilled;
    down = h.down;
    up = h.up;
    to_client = h.to_client;
    from_client = h.from_client;
    requests = h.requests;
    answers = all_of_filter (λ (q : Parcel). AreKeys graph q.keys) _ w.answers h.answers;
  })

  in_fail_ask : (w : World) (a : Asker) (p : ℕ) (o : Option Ask) → IsInsideWorld graph w → IsInsideWorld graph (fail_ask w a p o)
  in_fail_ask w a p None h = h
  in_fail_ask w a p (Some q) h = in_failed_at w a p q.number h

  in_take_down : (w : World) (i : ℕ) (ms : List Down) → w.down i ≡ ms → IsInsideWorld graph w → IsInsideWorld graph (take_down_first w i ms)
  in_take_down w i [] e h = h
  in_take_down w i (m ∷ ms) e h = in_worker (record w { down = put w.down i ms }) i (Told m) all.0 (record {
    shape = h.shape;
    workers = h.workers;
    clients = h.clients;
    spilled = h.spilled;
    up = h.up;
    to_client = h.to_client;
    from_client = h.from_client;
    requests = h.requests;
    answers = h.answers;
    down = at_one i (λ b x. AllByRecursion (λ m. AreKeys graph (down_keys m)) (cond b ms (w.down x))) all.1 h.down;
  })
    where
      all : AllByRecursion (λ m. AreKeys graph (down_keys m)) (m ∷ ms)
      all = subst (λ l. AllByRecursion (λ m. AreKeys graph (down_keys m)) l) e (h.down i)

  in_take_up : (w : World) (i : ℕ) (ms : List Up) → w.up i ≡ ms → IsInsideWorld graph w → IsInsideWorld graph (take_up_first w i ms)
  in_take_up w i [] e h = h
  in_take_up w i (m ∷ ms) e h = heard (is_connected w i)
    where
      all : AllByRecursion (λ m. AreKeys graph (up_keys m)) (m ∷ ms)
      all = subst (λ l. AllByRecursion (λ m. AreKeys graph (up_keys m)) l) e (h.up i)

      rest : IsInsideWorld graph (record w { up = put w.up i ms })
      rest = record {
        shape = h.shape;
        workers = h.workers;
        clients = h.clients;
        spilled = h.spilled;
        down = h.down;
        to_client = h.to_client;
        from_client = h.from_client;
        requests = h.requests;
        answers = h.answers;
        up = at_one i (λ b x. AllByRecursion (λ m. AreKeys graph (up_keys m)) (cond b ms (w.up x))) all.1 h.up;
      }

      heard : (b : Bool) → IsInsideWorld graph (take_up (record w { up = put w.up i ms }) i m b)
      heard true = in_scheduler (record w { up = put w.up i ms }) (FromWorker i m) all.0 rest
      heard false = rest

  in_take_to_client : (w : World) (c : ℕ) (ms : List ToClient) → w.to_client c ≡ ms → IsInsideWorld graph w → IsInsideWorld graph (take_to_client w c ms)
  in_take_to_client w c [] e h = h
  in_take_to_client w c (m ∷ ms) e h = in_client (record w { to_client = put w.to_client c ms }) c (FromScheduler m) tt (record {
    shape = h.shape;
    workers = h.workers;
    clients = h.clients;
    spilled = h.spilled;
    down = h.down;
    up = h.up;
    from_client = h.from_client;
    requests = h.requests;
    answers = h.answers;
    to_client = at_one c (λ b x. AllByRecursion (λ m. AreKeys graph (news_keys m)) (cond b ms (w.to_client x))) all.1 h.to_client;
  })
    where
      all : AllByRecursion (λ m. AreKeys graph (news_keys m)) (m ∷ ms)
      all = subst (λ l. AllByRecursion (λ m. AreKeys graph (news_keys m)) l) e (h.to_client c)

  in_take_from_client : (w : World) (c : ℕ) (ms : List ClientMessage) → w.from_client c ≡ ms → IsInsideWorld graph w → IsInsideWorld graph (take_from_client w c ms)
  in_take_from_client w c [] e h = h
  in_take_from_client w c (m ∷ ms) e h = in_scheduler (record w { from_client = put w.from_client c ms }) (FromClient c m) all.0
      (record {
        shape = h.shape;
        workers = h.workers;
        clients = h.clients;
        spilled = h.spilled;
        down = h.down;
        up = h.up;
        to_client = h.to_client;
        requests = h.requests;
        answers = h.answers;
        from_client = at_one c (λ b x. AllByRecursion (λ m. AreKeys graph (client_keys m)) (cond b ms (w.from_client x))) all.1 h.from_client;
      })
    where
      all : AllByRecursion (λ m. AreKeys graph (client_keys m)) (m ∷ ms)
      all = subst (λ l. AllByRecursion (λ m. AreKeys graph (client_keys m)) l) e (h.from_client c)

  in_new_at : (w : World) (i threads : ℕ) → IsInsideWorld graph w → IsInsideWorld graph (new_at w i threads)
  in_new_at w i threads h = record {
    shape = h.shape;
    clients = h.clients;
    spilled = h.spilled;
    down = h.down;
    up = h.up;
    to_client = h.to_client;
    from_client = h.from_client;
    requests = h.requests;
    answers = h.answers;
    workers = at_one i (λ b x. IsInsideWorker graph (cond b (new_worker w.sched.setting.shape i threads) (w.workers x)))
        (record { shape = h.shape; mem = λ k e. absurd (false≢true e); running = λ k e. absurd (false≢true e); asks = tt }) h.workers;
  }

  in_died : (w : World) (i : ℕ) → IsInsideWorld graph w → IsInsideWorld graph (died w i)
  in_died w i h = record {
    shape = h.shape;
    clients = h.clients;
    down = h.down;
    up = h.up;
    to_client = h.to_client;
    from_client = h.from_client;
    requests = h.requests;
    answers = h.answers;
    workers = at_one i (λ b x. IsInsideWorker graph (cond b (record (w.workers i) { mem = λ k. false }) (w.workers x)))
        (record { shape = (h.workers i).shape; mem = λ k e. absurd (false≢true e); running = (h.workers i).running; asks = (h.workers i).asks }) h.workers;
    spilled = at_one i (λ b x. (k : ℕ) → cond b (λ k. false) (w.spilled x) k ≡ true → IsKey graph k) (λ k e. absurd (false≢true e)) h.spilled;
  }

  in_cut_off : (w : World) (i : ℕ) → IsInsideWorld graph w → IsInsideWorld graph (cut_off w i)
  in_cut_off w i h = record {
    shape = h.shape;
    workers = h.workers;
    clients = h.clients;
    spilled = h.spilled;
    to_client = h.to_client;
    from_client = h.from_client;
    requests = h.requests;
    answers = h.answers;
    down = at_one i (λ b x. AllByRecursion (λ m. AreKeys graph (down_keys m)) (cond b [] (w.down x))) tt h.down;
    up = at_one i (λ b x. AllByRecursion (λ m. AreKeys graph (up_keys m)) (cond b [] (w.up x))) tt h.up;
  }

  in_spill : (w : World) (i k : ℕ) → (w.workers i).mem k ≡ true → IsInsideWorld graph w → IsInsideWorld graph (spill w i k)
  in_spill w i k m h = record {
    shape = h.shape;
    workers = h.workers;
    clients = h.clients;
    down = h.down;
    up = h.up;
    to_client = h.to_client;
    from_client = h.from_client;
    requests = h.requests;
    answers = h.answers;
    spilled = at_one i (λ b x. (q : ℕ) → cond b (put (w.spilled i) k true) (w.spilled x) q ≡ true → IsKey graph q)
        (at_one k (λ b q. cond b true (w.spilled i q) ≡ true → IsKey graph q) (λ e. (h.workers i).mem k m) (h.spilled i)) h.spilled;
  }

  pub in_world_step : (w : World) (e : Event) → enabled w e ≡ true → IsInsideWorld graph w → IsInsideWorld graph (world_step j w e)
  unfolding world_step enabled sched_takes
  in_world_step w (Want c ks) t h = in_client w c (WantKeys ks) (keys_of_test ks w.sched.setting.shape h.shape (and_parts (has_any ks) _ (and_parts _ (has_any ks && _) t).1).1) h
  in_world_step w (Release c ks) t h = in_client w c (ReleaseKeys ks) (keys_of_test ks w.sched.setting.shape h.shape (and_parts (has_any ks) _ (and_parts _ (has_any ks && _) t).1).1) h
  in_world_step w (Join threads) t h = in_scheduler (new_at w (w.sched.last_worker + 1) threads) (JoinSched threads) tt (in_new_at w (w.sched.last_worker + 1) threads h)
  in_world_step w (Lose i) t h = in_died w i h
  in_world_step w (SeeLoss i) t h = in_cut_off (at_scheduler w (Leave i)) i (in_scheduler w (Leave i) tt h)
  in_world_step w (Suspect i) t h = in_scheduler w (Leave i) tt h
  in_world_step w (DeliverDown i) t h = in_take_down w i (w.down i) refl h
  in_world_step w (DeliverUp i) t h = in_take_up w i (w.up i) refl h
  in_world_step w (DeliverToClient c) t h = in_take_to_client w c (w.to_client c) refl h
  in_world_step w (DeliverFromClient c) t h = in_take_from_client w c (w.from_client c) refl h
  in_world_step w (Start i) t h = in_worker w i StartTask tt h
  in_world_step w (Finish i k) t h = in_worker w i (Done k (j.zero k)) ((h.workers i).running k (and_parts (w.alive i) _ t).1) h
  in_world_step w (SendGather a p) t h = in_ask_by w a p h
  in_world_step w (ServeGather p a n) t h = in_serve w a p n (parcel_of a p n w.requests) refl h
  in_world_step w (ArriveGather a p n) t h = in_take_answer w (parcel_of a p n w.answers) h
  in_world_step w (FailGather a p) t h = in_fail_ask w a p (open_ask w a p) h
  in_world_step w Balance t h = in_scheduler w BalanceSched tt h
  in_world_step w Evict t h = in_scheduler w EvictSched tt h
  in_world_step w (Replicate k i) t h = in_scheduler w (ReplicateSched k i) (keys_of_test (k ∷ []) w.sched.setting.shape h.shape (and_parts (is_connected w i) _ (and_parts _ (held w.sched k && not (holds w.sched i k)) t).0).1).0 h
  in_world_step w (Spill i k) t h = in_spill w i k (and_parts ((w.workers i).mem k) _ (and_parts (w.alive i) _ t).1).0 h
  in_world_step w (LoseSpilled i k) t h = in_worker w i (DataLost k) (h.spilled i k (and_parts (w.alive i) _ t).1) h

  in_opening : IsInsideWorld graph (opening j)
  in_opening = record {
    shape = refl;
    workers = λ i. record { shape = refl; mem = λ k e. absurd (false≢true e); running = λ k e. absurd (false≢true e); asks = tt };
    clients = λ c. record { shape = refl; asks = tt };
    spilled = λ i k e. absurd (false≢true e);
    down = λ i. tt;
    up = λ i. tt;
    to_client = λ c. tt;
    from_client = λ c. tt;
    requests = tt;
    answers = tt;
  }

  in_from : (w : World) (es : List Event) → LegalFrom j w es → IsInsideWorld graph w → IsInsideWorld graph (run_from j w es)
  in_from w [] l h = h
  in_from w (e ∷ es) l h = in_from (world_step j w e) es l.1 (in_world_step w e l.0 h)

  pub in_after : (es : List Event) → legal j es → IsInsideWorld graph (reached j es)
  in_after es l = in_from (opening j) es l in_opening

-- whatever the operation gave that an event ended
pub inside_after : (met : Bool) (w : World) (e : Event) → IsShape w.sched.setting.shape → enabled w e ≡ true → IsInsideWorld w.sched.setting.shape w → IsInsideWorld w.sched.setting.shape (world_after met w e)
inside_after met w e low t h = in_world_step (record { setting = w.sched.setting; zero = λ k. met }) low w e t h
