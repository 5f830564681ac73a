-- What each client waits for stays known to it or on its way, over the world's events.
use Rattle.std.proofs.Common.{◌≡◌, ℕ, ◌+◌, ◌≤◌, Bool, true, false, cond, not, List, [], ◌∷◌, ◌++◌, Option, Some, None, refl, sym, ap, ◌∙◌, subst, is_none, filter, fold}
use Rattle.std.proofs.lemmas.Bool.{eqb-true, eq-eqb}
use Rattle.std.proofs.Math.Dec.{eqb}
use Rattle.cluster_msgs.specs.declared.messages.Down.{Down}
use Rattle.cluster_msgs.specs.declared.cores.WorkerEvent.{WorkerEvent}
use Rattle.cluster_msgs.specs.declared.cores.WorkerEvent.TheVariants.{Down as ToldWorker, Start as StartTask, Done, Ask as AskPeer, Gathered, GatherFailed, DataLost}
use Rattle.cluster_rules.specs.Functions.{put}
use Rattle.cluster_rules.specs.Derived.{is_in}
use Rattle.cluster_rules.specs.Worker.{Ask as OpenAsk, ask_to, without_ask}
use Rattle.cluster_rules.specs.WorkerStep.{keys_of}
use Rattle.cluster_msgs.specs.declared.messages.Up.{Up}
use Rattle.cluster_msgs.specs.declared.messages.ToClient.{ToClient}
use Rattle.cluster_msgs.specs.declared.messages.FromClient.{FromClient as ClientMessage}
use Rattle.cluster_msgs.specs.declared.cores.SchedEvent.{SchedEvent}
use Rattle.cluster_msgs.specs.declared.cores.SchedEvent.TheVariants.{Join as JoinSched, Leave, FromWorker, FromClient, Balance as BalanceSched, Evict as EvictSched, Replicate as ReplicateSched}
use Rattle.cluster_msgs.specs.declared.cores.ClientEvent.{ClientEvent}
use Rattle.cluster_msgs.specs.declared.cores.ClientEvent.TheVariants.{Want as WantKeys, Release as ReleaseKeys, FromScheduler, Ask as ClientAsk, Gathered as ClientGathered, GatherFailed as ClientGatherFailed}
use Rattle.cluster_msgs.specs.declared.events.Asker.{Asker}
use Rattle.cluster_msgs.specs.declared.events.Asker.TheVariants.{Worker, Client}
use Rattle.cluster_msgs.specs.declared.events.Event.{Event}
use Rattle.cluster_msgs.specs.declared.events.Event.TheVariants.{Want, Release, Join, Lose, SeeLoss, Suspect, DeliverDown, DeliverUp, DeliverToClient, DeliverFromClient, Start, Finish, SendGather, ServeGather, ArriveGather, FailGather, Balance, Evict, Replicate, Spill, LoseSpilled}
use Rattle.cluster_rules.specs.World.{Job, World, Parcel, is_connected, is_asker, open_ask, parcel_of, without_parcel}
use Rattle.cluster_rules.specs.WorldStep.{scheduled, worked, client_worked, at_scheduler, at_worker, at_client, new_at, died, cut_off, take_down_first, take_up, take_up_first, take_to_client, take_from_client, ask_by, gathered_at, serve, take_answer, fail_ask, world_step}
use Rattle.cluster_rules.specs.Enabled.{enabled, may_ask, front}
use Rattle.cluster_rules.specs.SchedTable.{sched_takes}
use Rattle.cluster_rules.proofs.WorkerLemmas.{at_one}
use Rattle.std.proofs.lemmas.Bool.{and_parts}
use Rattle.std.specs.Option.{option_map}
use Rattle.cluster_rules.specs.Worker.{ask_items}
use Rattle.cluster_rules.specs.WorldStep.{spill}
use Rattle.cluster_rules.specs.Client.{ClientFacts, hear, client_gets, client_misses, client_answered, client_gathered_by, client_gathered, keeps_still, client_wants, client_releases, client_fetchable, client_ask, client_would_ask, client_step}
use Rattle.cluster_rules.specs.Sched.{IsSound}
use Rattle.cluster_rules.specs.SchedTable.{sched_takes}
use Rattle.safety_laws.specs.Lively.{IsServed}
use Rattle.cluster_rules.specs.Client.{ClientStep}
use Rattle.cluster_rules.specs.WorldStep.{client_sends}
use Rattle.safety_laws.proofs.Answered.{gets_asks, misses_asks}
use Rattle.std.proofs.Common.{append-nil}
use Rattle.small_facts.proofs.Options.{none_from_is_none}
use Rattle.cluster_rules.specs.WorldStep.{take_up}
use Rattle.cluster_rules.specs.Runs.{sched_event}
use Rattle.cluster_rules.proofs.SoundStep.{sound_step}
use Rattle.safety_laws.proofs.Served.{IsTurn, served_scheduler}
use Rattle.safety_laws.proofs.Waiting.{AreDistinct, IsOwnTurn, turn_want, turn_release, turn_same, turn_ask, turn_gathered}
use Rattle.safety_laws.proofs.Clients.{served_own, served_hear, hears_same}
use Rattle.safety_laws.proofs.ClientWorld.{NoLetter, turn_quiet, turn_letter, distinct_with, distinct_without, distinct_same}

-- ## A client's open asks have different peers

abbrev MayAsk : ClientFacts → ClientEvent → Type 0
MayAsk c (ClientAsk p) = ask_to c.asks p ≡ None
MayAsk c e = Unit {0}

distinct_gathered : (c : ClientFacts) (p n : ℕ) (found : List ℕ) → AreDistinct c.asks → AreDistinct (client_gathered c p n found).facts.asks
unfolding client_gathered
distinct_gathered c p n found d = by_ask (ask_to c.asks p)
  where
    over : (a : OpenAsk) (b : Bool) → AreDistinct (cond {A = ClientStep} b (client_answered (record c { asks = without_ask c.asks p }) p (keys_of (filter (λ i. is_in i.0 found) a.items)) (filter (λ i. not (is_in i.0 found)) a.items)) (keeps_still c)).facts.asks
    over a true = distinct_same (without_ask c.asks p) (fold client_misses (fold client_gets (record c { asks = without_ask c.asks p }) (keys_of (filter (λ i. is_in i.0 found) a.items))) (filter (λ i. not (is_in i.0 found)) a.items)).asks
        (misses_asks (filter (λ i. not (is_in i.0 found)) a.items) (fold client_gets (record c { asks = without_ask c.asks p }) (keys_of (filter (λ i. is_in i.0 found) a.items))) ∙ gets_asks (keys_of (filter (λ i. is_in i.0 found) a.items)) (record c { asks = without_ask c.asks p }))
        (distinct_without p c.asks d)
    over a false = d

    by_ask : (o : Option OpenAsk) → AreDistinct (client_gathered_by c p n found o).facts.asks
    by_ask None = d
    by_ask (Some a) = over a (eqb a.number n)

distinct_client : (c : ClientFacts) (e : ClientEvent) → MayAsk c e → AreDistinct c.asks → AreDistinct (client_step c e).facts.asks
unfolding client_step client_wants client_releases client_ask
distinct_client c (WantKeys ks) m d = d
distinct_client c (ReleaseKeys ks) m d = d
distinct_client c (FromScheduler n) m d = distinct_same c.asks (hear c n).asks (hears_same c n).1 d
distinct_client c (ClientAsk p) m d = distinct_with (record { peer = p; number = c.next_ask; items = ask_items c.shape (client_fetchable c p) }) c.asks m d
distinct_client c (ClientGathered p n found) m d = distinct_gathered c p n found d
distinct_client c (ClientGatherFailed p n) m d = distinct_gathered c p n [] d

abbrev pub AsksDiffer : World → Type 0
AsksDiffer w = (c : ℕ) → AreDistinct (w.clients c).asks

ds_worker : (w : World) (i : ℕ) (e : WorkerEvent) → AsksDiffer w → AsksDiffer (at_worker w i e)
unfolding worked
ds_worker w i e h = h

ds_client : (w : World) (c : ℕ) (e : ClientEvent) → MayAsk (w.clients c) e → AsksDiffer w → AsksDiffer (at_client w c e)
unfolding client_worked
ds_client w c e m h = at_one c (λ b x. AreDistinct (cond b (client_step (w.clients c) e).facts (w.clients x)).asks) (distinct_client (w.clients c) e m (h c)) h

ds_scheduler : (w : World) (s : SchedEvent) → AsksDiffer w → AsksDiffer (at_scheduler w s)
unfolding scheduled
ds_scheduler w s h = h

ds_gathered : (w : World) (a : Asker) (p n : ℕ) (found : List ℕ) → AsksDiffer w → AsksDiffer (gathered_at w a p n found)
ds_gathered w (Worker i) p n found h = ds_worker w i (Gathered p n found) h
ds_gathered w (Client c) p n found h = ds_client w c (ClientGathered p n found) tt h

ds_failed : (w : World) (a : Asker) (p : ℕ) (o : Option OpenAsk) → AsksDiffer w → AsksDiffer (fail_ask w a p o)
ds_failed w a p None h = h
ds_failed w (Worker i) p (Some q) h = ds_worker w i (GatherFailed p q.number) h
ds_failed w (Client c) p (Some q) h = ds_client w c (ClientGatherFailed p q.number) tt h

ds_asks : (w : World) (a : Asker) (p : ℕ) → may_ask w a p ≡ true → AsksDiffer w → AsksDiffer (ask_by w a p)
unfolding client_would_ask
ds_asks w (Worker i) p t h = ds_worker w i (AskPeer p) h
ds_asks w (Client c) p t h = ds_client w c (ClientAsk p) (none_from_is_none (ask_to (w.clients c).asks p) (and_parts (is_none (ask_to (w.clients c).asks p)) _ t).0) h

ds_serves : (w : World) (p : ℕ) (o : Option Parcel) → AsksDiffer w → AsksDiffer (serve w p o)
ds_serves w p None h = h
ds_serves w p (Some q) h = h

ds_answer : (w : World) (o : Option Parcel) → AsksDiffer w → AsksDiffer (take_answer w o)
ds_answer w None h = h
ds_answer w (Some q) h = ds_gathered (record w { answers = without_parcel q.asker q.peer q.ask w.answers }) q.asker q.peer q.ask q.keys h

ds_down : (w : World) (i : ℕ) (ms : List Down) → AsksDiffer w → AsksDiffer (take_down_first w i ms)
ds_down w i [] h = h
ds_down w i (m ∷ ms) h = ds_worker (record w { down = put w.down i ms }) i (ToldWorker m) h

ds_up : (w : World) (i : ℕ) (ms : List Up) → AsksDiffer w → AsksDiffer (take_up_first w i ms)
ds_up w i [] h = h
ds_up w i (m ∷ ms) h = pick (is_connected w i)
  where
    pick : (b : Bool) → AsksDiffer (take_up (record w { up = put w.up i ms }) i m b)
    pick true = ds_scheduler (record w { up = put w.up i ms }) (FromWorker i m) h
    pick false = h

ds_news : (w : World) (c : ℕ) (ms : List ToClient) → AsksDiffer w → AsksDiffer (take_to_client w c ms)
ds_news w c [] h = h
ds_news w c (m ∷ ms) h = ds_client (record w { to_client = put w.to_client c ms }) c (FromScheduler m) tt h

ds_letter : (w : World) (c : ℕ) (ms : List ClientMessage) → AsksDiffer w → AsksDiffer (take_from_client w c ms)
ds_letter w c [] h = h
ds_letter w c (m ∷ ms) h = ds_scheduler (record w { from_client = put w.from_client c ms }) (FromClient c m) h

pub differ_step : (j : Job) (w : World) (e : Event) → enabled w e ≡ true → AsksDiffer w → AsksDiffer (world_step j w e)
unfolding world_step enabled
differ_step j w (Want c ks) t h = ds_client w c (WantKeys ks) tt h
differ_step j w (Release c ks) t h = ds_client w c (ReleaseKeys ks) tt h
differ_step j w (Join threads) t h = ds_scheduler (new_at w (w.sched.last_worker + 1) threads) (JoinSched threads) h
differ_step j w (Lose i) t h = h
differ_step j w (SeeLoss i) t h = ds_scheduler w (Leave i) h
differ_step j w (Suspect i) t h = ds_scheduler w (Leave i) h
differ_step j w (DeliverDown i) t h = ds_down w i (w.down i) h
differ_step j w (DeliverUp i) t h = ds_up w i (w.up i) h
differ_step j w (DeliverToClient c) t h = ds_news w c (w.to_client c) h
differ_step j w (DeliverFromClient c) t h = ds_letter w c (w.from_client c) h
differ_step j w (Start i) t h = ds_worker w i StartTask h
differ_step j w (Finish i k) t h = ds_worker w i (Done k (j.zero k)) h
differ_step j w (SendGather a p) t h = ds_asks w a p (and_parts (is_asker w a) (may_ask w a p) t).1 h
differ_step j w (ServeGather p a n) t h = ds_serves w p (parcel_of a p n w.requests) h
differ_step j w (ArriveGather a p n) t h = ds_answer w (parcel_of a p n w.answers) h
differ_step j w (FailGather a p) t h = ds_failed w a p (open_ask w a p) h
differ_step j w Balance t h = ds_scheduler w BalanceSched h
differ_step j w Evict t h = ds_scheduler w EvictSched h
differ_step j w (Replicate k i) t h = ds_scheduler w (ReplicateSched k i) h
differ_step j w (Spill i k) t h = h
differ_step j w (LoseSpilled i k) t h = ds_worker w i (DataLost k) h

-- ## The clients are served

served_same : (w : World) (c k : ℕ) (v : World) → v.sched ≡ w.sched → v.to_client c ≡ w.to_client c → v.clients c ≡ w.clients c → v.from_client c ≡ w.from_client c → IsServed w c k → IsServed v c k
served_same w c k v s t cl f h = served_own w c k (w.clients c) [] v s t cl (f ∙ sym (append-nil (w.from_client c))) (turn_same k (w.clients c)) h

module _ (w : World) (sound : IsSound w.sched) (differ : AsksDiffer w) (c k : ℕ) (from : 1 ≤ c) (upto : c ≤ w.sched.setting.clients) (h : IsServed w c k) where
  sv_scheduler : (v : World) (s : SchedEvent) → v.sched ≡ w.sched → v.clients ≡ w.clients → v.to_client ≡ w.to_client → sched_takes w.sched s ≡ true → IsTurn w v s c k → IsServed (at_scheduler v s) c k
  sv_scheduler v s a b n t turn = served_scheduler w v s sound (sound_step w.sched sound s t) a b n c k from upto turn h

  sv_worker : (v : World) (i : ℕ) (e : WorkerEvent) → v.sched ≡ w.sched → v.clients ≡ w.clients → v.to_client ≡ w.to_client → v.from_client ≡ w.from_client → IsServed (at_worker v i e) c k
  unfolding worked
  sv_worker v i e s cl t f = served_same w c k (at_worker v i e) s (ap (λ (x : ℕ → List ToClient). x c) t) (ap (λ (x : ℕ → ClientFacts). x c) cl) (ap (λ (x : ℕ → List ClientMessage). x c) f) h

  sv_client : (v : World) (x : ℕ) (e : ClientEvent) → v.sched ≡ w.sched → v.clients ≡ w.clients → v.to_client ≡ w.to_client → v.from_client ≡ w.from_client
      → ((d : ClientFacts) → d ≡ w.clients x → IsOwnTurn k d (client_step d e).facts (client_sends (client_step d e).out)) → IsServed (at_client v x e) c k
  unfolding client_worked
  sv_client v x e s cl t f turn = pick (eqb c x) refl
    where
      D : ClientFacts
      D = (client_step (v.clients x) e).facts

      ms : List ClientMessage
      ms = client_sends (client_step (v.clients x) e).out

      own : c ≡ x → IsServed (at_client v x e) c k
      own q = served_own w c k D ms (at_client v x e) s (ap (λ (y : ℕ → List ToClient). y c) t) (ap (λ b. cond b D (v.clients c)) (eq-eqb c x q))
          (ap (λ b. cond b (v.from_client x ++ ms) (v.from_client c)) (eq-eqb c x q) ∙ ap (λ y. v.from_client y ++ ms) (sym q) ∙ ap (λ (y : ℕ → List ClientMessage). y c ++ ms) f)
          (subst (λ y. IsOwnTurn k y D ms) (ap (λ (y : ℕ → ClientFacts). y x) cl ∙ ap w.clients (sym q)) (turn (v.clients x) (ap (λ (y : ℕ → ClientFacts). y x) cl))) h

      pick : (b : Bool) → eqb c x ≡ b → IsServed (at_client v x e) c k
      pick true q = own (eqb-true c x q)
      pick false q = served_same w c k (at_client v x e) s (ap (λ (y : ℕ → List ToClient). y c) t) (ap (λ b. cond b D (v.clients c)) q ∙ ap (λ (y : ℕ → ClientFacts). y c) cl) (ap (λ b. cond b (v.from_client x ++ ms) (v.from_client c)) q ∙ ap (λ (y : ℕ → List ClientMessage). y c) f) h

  differs : (x : ℕ) (d : ClientFacts) → d ≡ w.clients x → AreDistinct d.asks
  differs x d e = subst (λ y. AreDistinct y.asks) (sym e) (differ x)

  sv_gathered : (v : World) (a : Asker) (p n : ℕ) (found : List ℕ) → v.sched ≡ w.sched → v.clients ≡ w.clients → v.to_client ≡ w.to_client → v.from_client ≡ w.from_client → IsServed (gathered_at v a p n found) c k
  unfolding client_step
  sv_gathered v (Worker i) p n found s cl t f = sv_worker v i (Gathered p n found) s cl t f
  sv_gathered v (Client x) p n found s cl t f = sv_client v x (ClientGathered p n found) s cl t f (λ d e. turn_gathered k d p n found (differs x d e))

  sv_failed : (a : Asker) (p : ℕ) (o : Option OpenAsk) → IsServed (fail_ask w a p o) c k
  unfolding client_step
  sv_failed a p None = h
  sv_failed (Worker i) p (Some q) = sv_worker w i (GatherFailed p q.number) refl refl refl refl
  sv_failed (Client x) p (Some q) = sv_client w x (ClientGatherFailed p q.number) refl refl refl refl (λ d e. turn_gathered k d p q.number [] (differs x d e))

  sv_asks : (a : Asker) (p : ℕ) → IsServed (ask_by w a p) c k
  unfolding client_step
  sv_asks (Worker i) p = sv_worker w i (AskPeer p) refl refl refl refl
  sv_asks (Client x) p = sv_client w x (ClientAsk p) refl refl refl refl (λ d e. turn_ask k d p)

  sv_serves : (p : ℕ) (o : Option Parcel) → IsServed (serve w p o) c k
  sv_serves p None = h
  sv_serves p (Some q) = served_same w c k (serve w p (Some q)) refl refl refl refl h

  sv_answer : (o : Option Parcel) → IsServed (take_answer w o) c k
  sv_answer None = h
  sv_answer (Some q) = sv_gathered (record w { answers = without_parcel q.asker q.peer q.ask w.answers }) q.asker q.peer q.ask q.keys refl refl refl refl

  sv_down : (i : ℕ) (ms : List Down) → IsServed (take_down_first w i ms) c k
  sv_down i [] = h
  sv_down i (m ∷ ms) = sv_worker (record w { down = put w.down i ms }) i (ToldWorker m) refl refl refl refl

  sv_news : (x : ℕ) (ms : List ToClient) → w.to_client x ≡ ms → IsServed (take_to_client w x ms) c k
  unfolding client_worked client_step
  sv_news x [] e = h
  sv_news x (m ∷ ms) e = pick (eqb c x) refl
    where
      v : World
      v = take_to_client w x (m ∷ ms)

      own : c ≡ x → IsServed v c k
      own q = served_hear w c k m ms v (ap w.to_client q ∙ e) refl (ap (λ b. cond b ms (w.to_client c)) (eq-eqb c x q))
          (ap (λ b. cond b (hear (w.clients x) m) (w.clients c)) (eq-eqb c x q) ∙ ap (λ y. hear (w.clients y) m) (sym q))
          (ap (λ b. cond b (w.from_client x ++ []) (w.from_client c)) (eq-eqb c x q) ∙ append-nil (w.from_client x) ∙ ap w.from_client (sym q)) h

      pick : (b : Bool) → eqb c x ≡ b → IsServed v c k
      pick true q = own (eqb-true c x q)
      pick false q = served_same w c k v refl (ap (λ b. cond b ms (w.to_client c)) q) (ap (λ b. cond b (hear (w.clients x) m) (w.clients c)) q) (ap (λ b. cond b (w.from_client x ++ []) (w.from_client c)) q) h

  sv_up : (i : ℕ) (ms : List Up) (b : Bool) → w.up i ≡ ms → is_connected w i ≡ b → ((m : Up) (rest : List Up) → ms ≡ m ∷ rest → b ≡ true → sched_takes w.sched (FromWorker i m) ≡ true) → IsServed (take_up_first w i ms) c k
  sv_up i [] b e q t = h
  sv_up i (m ∷ ms) b e q t = subst (λ y. IsServed (take_up (record w { up = put w.up i ms }) i m y) c k) (sym q) (pick b refl)
    where
      pick : (y : Bool) → b ≡ y → IsServed (take_up (record w { up = put w.up i ms }) i m b) c k
      pick true z = subst (λ y. IsServed (take_up (record w { up = put w.up i ms }) i m y) c k) (sym z) (sv_scheduler (record w { up = put w.up i ms }) (FromWorker i m) refl refl refl (t m ms refl z) (turn_quiet w (record w { up = put w.up i ms }) (FromWorker i m) c k tt refl))
      pick false z = subst (λ y. IsServed (take_up (record w { up = put w.up i ms }) i m y) c k) (sym z) (served_same w c k (record w { up = put w.up i ms }) refl refl refl refl h)

  sv_letter : (x : ℕ) (ms : List ClientMessage) → w.from_client x ≡ ms → ((m : ClientMessage) (rest : List ClientMessage) → ms ≡ m ∷ rest → sched_takes w.sched (FromClient x m) ≡ true) → IsServed (take_from_client w x ms) c k
  sv_letter x [] e t = h
  sv_letter x (m ∷ ms) e t = sv_scheduler (record w { from_client = put w.from_client x ms }) (FromClient x m) refl refl refl (t m ms refl) (turn_letter w x m ms c k e)

  sv_quiet : (s : SchedEvent) → NoLetter s → sched_takes w.sched s ≡ true → IsServed (at_scheduler w s) c k
  sv_quiet s o t = sv_scheduler w s refl refl refl t (turn_quiet w w s c k o refl)

  pub served_step : (j : Job) (e : Event) → ((s : SchedEvent) → sched_event w e ≡ Some s → sched_takes w.sched s ≡ true) → IsServed (world_step j w e) c k
  unfolding world_step client_step
  served_step j (Want x ks) t = sv_client w x (WantKeys ks) refl refl refl refl (λ d e. turn_want k d ks)
  served_step j (Release x ks) t = sv_client w x (ReleaseKeys ks) refl refl refl refl (λ d e. turn_release k d ks)
  served_step j (Join threads) t = sv_scheduler (new_at w (w.sched.last_worker + 1) threads) (JoinSched threads) refl refl refl (t (JoinSched threads) refl) (turn_quiet w (new_at w (w.sched.last_worker + 1) threads) (JoinSched threads) c k tt refl)
  served_step j (Lose i) t = served_same w c k (died w i) refl refl refl refl h
  served_step j (SeeLoss i) t = served_same (at_scheduler w (Leave i)) c k (cut_off (at_scheduler w (Leave i)) i) refl refl refl refl (sv_quiet (Leave i) tt (t (Leave i) refl))
  served_step j (Suspect i) t = sv_quiet (Leave i) tt (t (Leave i) refl)
  served_step j (DeliverDown i) t = sv_down i (w.down i)
  served_step j (DeliverUp i) t = sv_up i (w.up i) (is_connected w i) refl refl (λ m rest e q. t (FromWorker i m) (ap (λ b. cond b (option_map (λ m. FromWorker i m) (front (w.up i))) None) q ∙ ap (λ l. option_map (λ m. FromWorker i m) (front l)) e))
  served_step j (DeliverToClient x) t = sv_news x (w.to_client x) refl
  served_step j (DeliverFromClient x) t = sv_letter x (w.from_client x) refl (λ m rest e. t (FromClient x m) (ap (λ l. option_map (λ m. FromClient x m) (front l)) e))
  served_step j (Start i) t = sv_worker w i StartTask refl refl refl refl
  served_step j (Finish i q) t = sv_worker w i (Done q (j.zero q)) refl refl refl refl
  served_step j (SendGather a p) t = sv_asks a p
  served_step j (ServeGather p a n) t = sv_serves p (parcel_of a p n w.requests)
  served_step j (ArriveGather a p n) t = sv_answer (parcel_of a p n w.answers)
  served_step j (FailGather a p) t = sv_failed a p (open_ask w a p)
  served_step j Balance t = sv_quiet BalanceSched tt (t BalanceSched refl)
  served_step j Evict t = sv_quiet EvictSched tt (t EvictSched refl)
  served_step j (Replicate q i) t = sv_quiet (ReplicateSched q i) tt (t (ReplicateSched q i) refl)
  served_step j (Spill i q) t = served_same w c k (spill w i q) refl refl refl refl h
  served_step j (LoseSpilled i q) t = sv_worker w i (DataLost q) refl refl refl refl
