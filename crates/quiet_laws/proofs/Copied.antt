-- Each copy that is named was drawn: over every event.
use Rattle.std.proofs.Common.{◌≡◌, ℕ, ◌+◌, ◌<◌, ◌≤◌, Bool, true, false, cond, List, [], ◌∷◌, ◌++◌, Option, Some, None, refl, subst, arith}
use Rattle.cluster_msgs.specs.declared.messages.Down.{Down}
use Rattle.cluster_msgs.specs.declared.messages.Down.TheVariants.{ComputeTask, FreeKeys, StealRequest, RemoveReplicas, AcquireReplicas, RefreshWhoHas}
use Rattle.cluster_msgs.specs.declared.messages.Up.TheVariants.{TaskFinished, MissingData, StealResponse}
use Rattle.cluster_msgs.specs.declared.cores.WorkerEvent.{WorkerEvent}
use Rattle.cluster_msgs.specs.declared.cores.WorkerEvent.TheVariants.{Down as Told, Start as StartTask, Done, Ask as AskPeer, Gathered, GatherFailed, DataLost}
use Rattle.cluster_rules.specs.Functions.{put}
use Rattle.cluster_rules.specs.Worker.{Ask as OpenAsk}
use Rattle.cluster_rules.specs.WorkerStep.{worker_step}
use Rattle.cluster_msgs.specs.declared.messages.Up.{Up}
use Rattle.cluster_msgs.specs.declared.messages.ToClient.{ToClient}
use Rattle.cluster_msgs.specs.declared.messages.FromClient.{FromClient as ClientMessage}
use Rattle.cluster_msgs.specs.declared.cores.SchedEvent.{SchedEvent}
use Rattle.cluster_msgs.specs.declared.cores.SchedEvent.TheVariants.{Join as JoinSched, Leave, FromWorker, FromClient, Balance as BalanceSched, Evict as EvictSched, Replicate as ReplicateSched}
use Rattle.cluster_msgs.specs.declared.cores.ClientEvent.{ClientEvent}
use Rattle.cluster_msgs.specs.declared.cores.ClientEvent.TheVariants.{Want as WantKeys, Release as ReleaseKeys, FromScheduler, Ask as ClientAsk, Gathered as ClientGathered, GatherFailed as ClientGatherFailed}
use Rattle.cluster_msgs.specs.declared.events.Asker.{Asker}
use Rattle.cluster_msgs.specs.declared.events.Asker.TheVariants.{Worker, Client}
use Rattle.cluster_msgs.specs.declared.events.Event.{Event}
use Rattle.cluster_msgs.specs.declared.events.Event.TheVariants.{Want, Release, Join, Lose, SeeLoss, Suspect, DeliverDown, DeliverUp, DeliverToClient, DeliverFromClient, Start, Finish, SendGather, ServeGather, ArriveGather, FailGather, Balance, Evict, Replicate, Spill, LoseSpilled}
use Rattle.cluster_rules.specs.World.{opening, Job, World, Parcel, shape_of, is_connected, open_ask, parcel_of, without_parcel}
use Rattle.cluster_rules.specs.WorldStep.{scheduled, worked, client_worked, at_scheduler, at_worker, at_client, new_at, died, cut_off, take_down_first, take_up, take_up_first, take_to_client, take_from_client, ask_by, gathered_at, serve, take_answer, fail_ask, world_step}
use Rattle.cluster_rules.specs.Enabled.{may_ask}
use Rattle.cluster_rules.specs.Worker.{new_worker}
use Rattle.cluster_rules.proofs.WorkerLemmas.{at_one}
use Rattle.std.specs.List.{AllByRecursion}
use Rattle.small_facts.proofs.Every.{all_join, all_weaker}
use Rattle.cluster_msgs.specs.declared.messages.ToClient.TheVariants.{KeyInMemory, LostData, ClientTaskErred}
use Rattle.cluster_msgs.specs.declared.messages.FromClient.TheVariants.{Want as WantMessage, Release as ReleaseMessage, Missing as MissingMessage}
use Rattle.cluster_msgs.specs.declared.messages.Up.TheVariants.{TaskErred, AddKeys, ReleaseWorkerData, RequestRefreshWhoHas}
use Rattle.cluster_rules.specs.SchedStep.{sched_step, mail}
use Rattle.cluster_rules.specs.WorldStep.{letters}
use Rattle.cluster_rules.specs.Client.{client_step}
use Rattle.quiet_laws.specs.Old.{IsOldUp, IsOldLetter, IsOldAsk}
use Rattle.quiet_laws.specs.Copies.{AreOldHolders, AreOldWho, IsOldDown, IsOldNews, HasBelow}
use Rattle.cluster_rules.specs.WorldStep.{sends, client_sends}
use Rattle.quiet_laws.specs.Old.{AreOld}
use Rattle.quiet_laws.proofs.Copies.{IsNamedWorker, IsNamedClient, BringsNumbers, NewsNumbers, nw_step, nc_step, down_named, mail_named, news_named, letters_named}
use Rattle.quiet_laws.proofs.SentCopies.{step_out, client_out}
use Rattle.quiet_laws.proofs.Has.{drawn_step, counter_step}

module _ (N : ℕ) where
  pub record AreCopiedTo (w : World) : Type 0 where
    pub workers : (i : ℕ) → IsNamedWorker N (w.workers i)
    pub clients : (c : ℕ) → IsNamedClient N (w.clients c)
    pub down : (i : ℕ) → AllByRecursion (IsOldDown N) (w.down i)
    pub news : (c : ℕ) → AllByRecursion (IsOldNews N) (w.to_client c)
    pub up : (i : ℕ) → AllByRecursion (IsOldUp N) (w.up i)
    pub letters : (c : ℕ) → AllByRecursion (IsOldLetter N) (w.from_client c)

  nt_scheduler : (w : World) (s : SchedEvent) → HasBelow N (sched_step w.sched s).facts → AreCopiedTo w → AreCopiedTo (at_scheduler w s)
  unfolding scheduled
  nt_scheduler w s l h = record {
    workers = h.workers;
    clients = h.clients;
    down = λ i. all_join (IsOldDown N) (w.down i) (mail i (sched_step w.sched s).down) (h.down i) (mail_named N i (sched_step w.sched s).down (down_named N w.sched s l));
    news = λ c. all_join (IsOldNews N) (w.to_client c) (letters c (sched_step w.sched s).clients) (h.news c) (letters_named N c (sched_step w.sched s).clients (news_named N w.sched s l));
    up = h.up;
    letters = h.letters;
  }

  nt_worker : (w : World) (i : ℕ) (e : WorkerEvent) → BringsNumbers N (w.workers i) e → AreCopiedTo w → AreCopiedTo (at_worker w i e)
  unfolding worked
  nt_worker w i e b h = record {
    workers = at_one i (λ d x. IsNamedWorker N (cond d (worker_step (w.workers i) e).facts (w.workers x))) (nw_step N (w.workers i) e b (h.workers i)) h.workers;
    clients = h.clients;
    down = h.down;
    news = h.news;
    up = at_one i (λ d x. AllByRecursion (IsOldUp N) (cond d (w.up i ++ sends (worker_step (w.workers i) e).out) (w.up x))) (all_join (IsOldUp N) (w.up i) (sends (worker_step (w.workers i) e).out) (h.up i) (step_out N (w.workers i) e (h.workers i).asks)) h.up;
    letters = h.letters;
  }

  nt_client : (w : World) (c : ℕ) (e : ClientEvent) → NewsNumbers N (w.clients c) e → AreCopiedTo w → AreCopiedTo (at_client w c e)
  unfolding client_worked
  nt_client w c e b h = record {
    workers = h.workers;
    clients = at_one c (λ d x. IsNamedClient N (cond d (client_step (w.clients c) e).facts (w.clients x))) (nc_step N (w.clients c) e b (h.clients c)) h.clients;
    down = h.down;
    news = h.news;
    up = h.up;
    letters = at_one c (λ d x. AllByRecursion (IsOldLetter N) (cond d (w.from_client c ++ client_sends (client_step (w.clients c) e).out) (w.from_client x))) (all_join (IsOldLetter N) (w.from_client c) (client_sends (client_step (w.clients c) e).out) (h.letters c) (client_out N (w.clients c) e (h.clients c).asks)) h.letters;
  }

  nt_gathered : (w : World) (a : Asker) (p n : ℕ) (found : List ℕ) → AreCopiedTo w → AreCopiedTo (gathered_at w a p n found)
  nt_gathered w (Worker i) p n found h = nt_worker w i (Gathered p n found) tt h
  nt_gathered w (Client c) p n found h = nt_client w c (ClientGathered p n found) tt h

  nt_fails : (w : World) (a : Asker) (p : ℕ) (o : Option OpenAsk) → AreCopiedTo w → AreCopiedTo (fail_ask w a p o)
  nt_fails w a p None h = h
  nt_fails w (Worker i) p (Some q) h = nt_worker w i (GatherFailed p q.number) tt h
  nt_fails w (Client c) p (Some q) h = nt_client w c (ClientGatherFailed p q.number) tt h

  nt_asks : (w : World) (a : Asker) (p : ℕ) → may_ask w a p ≡ true → AreCopiedTo w → AreCopiedTo (ask_by w a p)
  nt_asks w (Worker i) p t h = nt_worker w i (AskPeer p) tt h
  nt_asks w (Client c) p t h = nt_client w c (ClientAsk p) tt h

  nt_serves : (w : World) (p : ℕ) (o : Option Parcel) → AreCopiedTo w → AreCopiedTo (serve w p o)
  nt_serves w p None h = h
  nt_serves w p (Some q) h = record { workers = h.workers; clients = h.clients; down = h.down; news = h.news; up = h.up; letters = h.letters }

  nt_answer : (w : World) (o : Option Parcel) → AreCopiedTo w → AreCopiedTo (take_answer w o)
  nt_answer w None h = h
  nt_answer w (Some q) h = nt_gathered (record w { answers = without_parcel q.asker q.peer q.ask w.answers }) q.asker q.peer q.ask q.keys (record { workers = h.workers; clients = h.clients; down = h.down; news = h.news; up = h.up; letters = h.letters })

  nt_down : (w : World) (i : ℕ) (ms : List Down) → w.down i ≡ ms → AreCopiedTo w → AreCopiedTo (take_down_first w i ms)
  nt_down w i [] e h = h
  nt_down w i (m ∷ ms) e h = let d = subst (λ l. AllByRecursion (IsOldDown N) l) e (h.down i) in
      nt_worker (record w { down = put w.down i ms }) i (Told m) d.0 (record { workers = h.workers; clients = h.clients; down = at_one i (λ b x. AllByRecursion (IsOldDown N) (cond b ms (w.down x))) d.1 h.down; news = h.news; up = h.up; letters = h.letters })

  nt_news : (w : World) (c : ℕ) (ms : List ToClient) → w.to_client c ≡ ms → AreCopiedTo w → AreCopiedTo (take_to_client w c ms)
  nt_news w c [] e h = h
  nt_news w c (m ∷ ms) e h = let d = subst (λ l. AllByRecursion (IsOldNews N) l) e (h.news c) in
      nt_client (record w { to_client = put w.to_client c ms }) c (FromScheduler m) d.0 (record { workers = h.workers; clients = h.clients; down = h.down; news = at_one c (λ b x. AllByRecursion (IsOldNews N) (cond b ms (w.to_client x))) d.1 h.news; up = h.up; letters = h.letters })

  nt_letter : (w : World) (c : ℕ) (ms : List ClientMessage) → w.from_client c ≡ ms → ((m : ClientMessage) → HasBelow N (sched_step w.sched (FromClient c m)).facts) → AreCopiedTo w → AreCopiedTo (take_from_client w c ms)
  nt_letter w c [] e l h = h
  nt_letter w c (m ∷ ms) e l h = let d = subst (λ l. AllByRecursion (IsOldLetter N) l) e (h.letters c) in
      nt_scheduler (record w { from_client = put w.from_client c ms }) (FromClient c m) (l m) (record { workers = h.workers; clients = h.clients; down = h.down; news = h.news; up = h.up; letters = at_one c (λ b x. AllByRecursion (IsOldLetter N) (cond b ms (w.from_client x))) d.1 h.letters })

  nt_up : (w : World) (i : ℕ) (ms : List Up) → w.up i ≡ ms → ((m : Up) → HasBelow N (sched_step w.sched (FromWorker i m)).facts) → AreCopiedTo w → AreCopiedTo (take_up_first w i ms)
  nt_up w i [] e l h = h
  nt_up w i (m ∷ ms) e l h = pick (is_connected w i)
    where
      less : AreCopiedTo (record w { up = put w.up i ms })
      less = record { workers = h.workers; clients = h.clients; down = h.down; news = h.news; up = at_one i (λ b x. AllByRecursion (IsOldUp N) (cond b ms (w.up x))) (subst (λ l. AllByRecursion (IsOldUp N) l) e (h.up i)).1 h.up; letters = h.letters }

      pick : (b : Bool) → AreCopiedTo (take_up (record w { up = put w.up i ms }) i m b)
      pick true = nt_scheduler (record w { up = put w.up i ms }) (FromWorker i m) (l m) less
      pick false = less

  nt_new : (w : World) (i threads : ℕ) → AreCopiedTo w → AreCopiedTo (new_at w i threads)
  nt_new w i threads h = record {
    workers = at_one i (λ b x. IsNamedWorker N (cond b (new_worker (shape_of w) i threads) (w.workers x))) (record { holders = λ k. tt; asks = tt }) h.workers;
    clients = h.clients;
    down = h.down;
    news = h.news;
    up = h.up;
    letters = h.letters;
  }

  nt_died : (w : World) (i : ℕ) → AreCopiedTo w → AreCopiedTo (died w i)
  nt_died w i h = record {
    workers = at_one i (λ b x. IsNamedWorker N (cond b (record (w.workers i) { mem = λ k. false }) (w.workers x))) (record { holders = (h.workers i).holders; asks = (h.workers i).asks }) h.workers;
    clients = h.clients;
    down = h.down;
    news = h.news;
    up = h.up;
    letters = h.letters;
  }

  nt_cut : (w : World) (i : ℕ) → AreCopiedTo w → AreCopiedTo (cut_off w i)
  nt_cut w i h = record { workers = h.workers; clients = h.clients; down = at_one i (λ b x. AllByRecursion (IsOldDown N) (cond b [] (w.down x))) tt h.down; news = h.news; up = at_one i (λ b x. AllByRecursion (IsOldUp N) (cond b [] (w.up x))) tt h.up; letters = h.letters }

-- ## By the counter

more_holders : (n m : ℕ) → n ≤ m → (hs : List (ℕ × ℕ)) → AreOldHolders n hs → AreOldHolders m hs
more_holders n m l hs h = all_weaker (λ (x : ℕ × ℕ). x.1 < n) (λ (x : ℕ × ℕ). x.1 < m) (λ x a. omega (arith, a, l)) hs h

more_ask : (n m : ℕ) → n ≤ m → (q : OpenAsk) → IsOldAsk n q → IsOldAsk m q
more_ask n m l q h = more_holders n m l q.items h

more_who : (n m : ℕ) → n ≤ m → (who : List (ℕ × List (ℕ × ℕ))) → AreOldWho n who → AreOldWho m who
more_who n m l who h = all_weaker (λ (p : ℕ × List (ℕ × ℕ)). AreOldHolders n p.1) (λ (p : ℕ × List (ℕ × ℕ)). AreOldHolders m p.1) (λ p a. more_holders n m l p.1 a) who h

more_down : (n m : ℕ) → n ≤ m → (x : Down) → IsOldDown n x → IsOldDown m x
more_down n m l (ComputeTask q a who) h = more_who n m l who h
more_down n m l (AcquireReplicas who) h = more_who n m l who h
more_down n m l (RefreshWhoHas who) h = more_who n m l who h
more_down n m l (FreeKeys ks) h = tt
more_down n m l (StealRequest q a) h = tt
more_down n m l (RemoveReplicas ks) h = tt

more_news : (n m : ℕ) → n ≤ m → (x : ToClient) → IsOldNews n x → IsOldNews m x
more_news n m l (KeyInMemory k hs) h = more_holders n m l hs h
more_news n m l (LostData k) h = tt
more_news n m l (ClientTaskErred k b) h = tt

more_up : (n m : ℕ) → n ≤ m → (x : Up) → IsOldUp n x → IsOldUp m x
more_up n m l (MissingData seen k x c) h = omega (arith, h, l)
more_up n m l (TaskFinished seen k a) h = tt
more_up n m l (TaskErred seen k a) h = tt
more_up n m l (AddKeys seen ks) h = tt
more_up n m l (ReleaseWorkerData seen k) h = tt
more_up n m l (RequestRefreshWhoHas seen k) h = tt
more_up n m l (StealResponse seen k a agreed) h = tt

more_letter : (n m : ℕ) → n ≤ m → (x : ClientMessage) → IsOldLetter n x → IsOldLetter m x
more_letter n m l (MissingMessage k x c) h = omega (arith, h, l)
more_letter n m l (WantMessage ks) h = tt
more_letter n m l (ReleaseMessage ks) h = tt

copied_more : (w : World) (n m : ℕ) → n ≤ m → AreCopiedTo n w → AreCopiedTo m w
copied_more w n m l h = record {
  workers = λ i. record { holders = λ k. more_holders n m l ((w.workers i).holders k) ((h.workers i).holders k); asks = all_weaker (IsOldAsk n) (IsOldAsk m) (more_ask n m l) (w.workers i).asks (h.workers i).asks };
  clients = λ c. record { located = λ k. more_holders n m l ((w.clients c).located k) ((h.clients c).located k); asks = all_weaker (IsOldAsk n) (IsOldAsk m) (more_ask n m l) (w.clients c).asks (h.clients c).asks };
  down = λ i. all_weaker (IsOldDown n) (IsOldDown m) (more_down n m l) (w.down i) (h.down i);
  news = λ c. all_weaker (IsOldNews n) (IsOldNews m) (more_news n m l) (w.to_client c) (h.news c);
  up = λ i. all_weaker (IsOldUp n) (IsOldUp m) (more_up n m l) (w.up i) (h.up i);
  letters = λ c. all_weaker (IsOldLetter n) (IsOldLetter m) (more_letter n m l) (w.from_client c) (h.letters c);
}

pub record AreCopied (w : World) : Type 0 where
  pub has : HasBelow w.sched.counter w.sched
  pub named : AreCopiedTo w.sched.counter w

pub old_from : (w : World) → AreCopied w → AreOld w
old_from w h = record { up = h.named.up; letters = h.named.letters; asks = λ i. (h.named.workers i).asks; client_asks = λ c. (h.named.clients c).asks }

-- an event of the scheduler, in a world that is this one but for what was taken
by_scheduler : (w : World) (s : SchedEvent) → HasBelow w.sched.counter w.sched → AreCopiedTo w.sched.counter w → AreCopied (at_scheduler w s)
unfolding scheduled
by_scheduler w s h c = record {
  has = drawn_step w.sched s h;
  named = nt_scheduler (sched_step w.sched s).facts.counter w s (drawn_step w.sched s h) (copied_more w w.sched.counter (sched_step w.sched s).facts.counter (counter_step w.sched s) c);
}

by_worker : (w : World) (i : ℕ) (e : WorkerEvent) → BringsNumbers w.sched.counter (w.workers i) e → AreCopied w → AreCopied (at_worker w i e)
unfolding worked
by_worker w i e b h = record { has = h.has; named = nt_worker w.sched.counter w i e b h.named }

by_client : (w : World) (c : ℕ) (e : ClientEvent) → NewsNumbers w.sched.counter (w.clients c) e → AreCopied w → AreCopied (at_client w c e)
unfolding client_worked
by_client w c e b h = record { has = h.has; named = nt_client w.sched.counter w c e b h.named }

copied_up : (w : World) (i : ℕ) (ms : List Up) → w.up i ≡ ms → AreCopied w → AreCopied (take_up_first w i ms)
copied_up w i [] e h = h
copied_up w i (m ∷ ms) e h = pick (is_connected w i)
  where
    less : AreCopiedTo w.sched.counter (record w { up = put w.up i ms })
    less = let n = h.named in record { workers = n.workers; clients = n.clients; down = n.down; news = n.news; up = at_one i (λ b x. AllByRecursion (IsOldUp w.sched.counter) (cond b ms (w.up x))) (subst (λ l. AllByRecursion (IsOldUp w.sched.counter) l) e (n.up i)).1 n.up; letters = n.letters }

    pick : (b : Bool) → AreCopied (take_up (record w { up = put w.up i ms }) i m b)
    pick true = by_scheduler (record w { up = put w.up i ms }) (FromWorker i m) h.has less
    pick false = record { has = h.has; named = less }

copied_letter : (w : World) (c : ℕ) (ms : List ClientMessage) → w.from_client c ≡ ms → AreCopied w → AreCopied (take_from_client w c ms)
copied_letter w c [] e h = h
copied_letter w c (m ∷ ms) e h = by_scheduler (record w { from_client = put w.from_client c ms }) (FromClient c m) h.has
    (let n = h.named in record { workers = n.workers; clients = n.clients; down = n.down; news = n.news; up = n.up; letters = at_one c (λ b x. AllByRecursion (IsOldLetter w.sched.counter) (cond b ms (w.from_client x))) (subst (λ l. AllByRecursion (IsOldLetter w.sched.counter) l) e (n.letters c)).1 n.letters })

copied_down : (w : World) (i : ℕ) (ms : List Down) → w.down i ≡ ms → AreCopied w → AreCopied (take_down_first w i ms)
copied_down w i [] e h = h
copied_down w i (m ∷ ms) e h = let n = h.named in let d = subst (λ l. AllByRecursion (IsOldDown w.sched.counter) l) e (n.down i) in
    by_worker (record w { down = put w.down i ms }) i (Told m) d.0 (record { has = h.has; named = record { workers = n.workers; clients = n.clients; down = at_one i (λ b x. AllByRecursion (IsOldDown w.sched.counter) (cond b ms (w.down x))) d.1 n.down; news = n.news; up = n.up; letters = n.letters } })

copied_news : (w : World) (c : ℕ) (ms : List ToClient) → w.to_client c ≡ ms → AreCopied w → AreCopied (take_to_client w c ms)
copied_news w c [] e h = h
copied_news w c (m ∷ ms) e h = let n = h.named in let d = subst (λ l. AllByRecursion (IsOldNews w.sched.counter) l) e (n.news c) in
    by_client (record w { to_client = put w.to_client c ms }) c (FromScheduler m) d.0 (record { has = h.has; named = record { workers = n.workers; clients = n.clients; down = n.down; news = at_one c (λ b x. AllByRecursion (IsOldNews w.sched.counter) (cond b ms (w.to_client x))) d.1 n.news; up = n.up; letters = n.letters } })

copied_gathered : (w : World) (a : Asker) (p n : ℕ) (found : List ℕ) → AreCopied w → AreCopied (gathered_at w a p n found)
copied_gathered w (Worker i) p n found h = by_worker w i (Gathered p n found) tt h
copied_gathered w (Client c) p n found h = by_client w c (ClientGathered p n found) tt h

copied_answer : (w : World) (o : Option Parcel) → AreCopied w → AreCopied (take_answer w o)
copied_answer w None h = h
copied_answer w (Some q) h = let n = h.named in copied_gathered (record w { answers = without_parcel q.asker q.peer q.ask w.answers }) q.asker q.peer q.ask q.keys (record { has = h.has; named = record { workers = n.workers; clients = n.clients; down = n.down; news = n.news; up = n.up; letters = n.letters } })

copied_fails : (w : World) (a : Asker) (p : ℕ) (o : Option OpenAsk) → AreCopied w → AreCopied (fail_ask w a p o)
copied_fails w a p None h = h
copied_fails w (Worker i) p (Some q) h = by_worker w i (GatherFailed p q.number) tt h
copied_fails w (Client c) p (Some q) h = by_client w c (ClientGatherFailed p q.number) tt h

copied_asks : (w : World) (a : Asker) (p : ℕ) → AreCopied w → AreCopied (ask_by w a p)
copied_asks w (Worker i) p h = by_worker w i (AskPeer p) tt h
copied_asks w (Client c) p h = by_client w c (ClientAsk p) tt h

copied_serves : (w : World) (p : ℕ) (o : Option Parcel) → AreCopied w → AreCopied (serve w p o)
copied_serves w p None h = h
copied_serves w p (Some q) h = record { has = h.has; named = nt_serves w.sched.counter w p (Some q) h.named }

pub copied_step : (j : Job) (w : World) (e : Event) → AreCopied w → AreCopied (world_step j w e)
unfolding world_step
copied_step j w (Want c ks) h = by_client w c (WantKeys ks) tt h
copied_step j w (Release c ks) h = by_client w c (ReleaseKeys ks) tt h
copied_step j w (Join threads) h = by_scheduler (new_at w (w.sched.last_worker + 1) threads) (JoinSched threads) h.has (nt_new w.sched.counter w (w.sched.last_worker + 1) threads h.named)
copied_step j w (Lose i) h = record { has = h.has; named = nt_died w.sched.counter w i h.named }
copied_step j w (SeeLoss i) h = cut (at_scheduler w (Leave i)) (by_scheduler w (Leave i) h.has h.named)
  where
    cut : (v : World) → AreCopied v → AreCopied (cut_off v i)
    cut v k = record { has = k.has; named = nt_cut v.sched.counter v i k.named }
copied_step j w (Suspect i) h = by_scheduler w (Leave i) h.has h.named
copied_step j w (DeliverDown i) h = copied_down w i (w.down i) refl h
copied_step j w (DeliverUp i) h = copied_up w i (w.up i) refl h
copied_step j w (DeliverToClient c) h = copied_news w c (w.to_client c) refl h
copied_step j w (DeliverFromClient c) h = copied_letter w c (w.from_client c) refl h
copied_step j w (Start i) h = by_worker w i StartTask tt h
copied_step j w (Finish i k) h = by_worker w i (Done k (j.zero k)) tt h
copied_step j w (SendGather a p) h = copied_asks w a p h
copied_step j w (ServeGather p a n) h = copied_serves w p (parcel_of a p n w.requests) h
copied_step j w (ArriveGather a p n) h = copied_answer w (parcel_of a p n w.answers) h
copied_step j w (FailGather a p) h = copied_fails w a p (open_ask w a p) h
copied_step j w Balance h = by_scheduler w BalanceSched h.has h.named
copied_step j w Evict h = by_scheduler w EvictSched h.has h.named
copied_step j w (Replicate k i) h = by_scheduler w (ReplicateSched k i) h.has h.named
copied_step j w (Spill i k) h = let n = h.named in record { has = h.has; named = record { workers = n.workers; clients = n.clients; down = n.down; news = n.news; up = n.up; letters = n.letters } }
copied_step j w (LoseSpilled i k) h = by_worker w i (DataLost k) tt h

none_copy : (c : ℕ) → None ≡ Some c → ⊥
none_copy c e = cc

pub copied_opening : (j : Job) → AreCopied (opening j)
copied_opening j = record {
  has = λ x k c e. absurd (none_copy c e);
  named = record { workers = λ i. record { holders = λ k. tt; asks = tt }; clients = λ c. record { located = λ k. tt; asks = tt }; down = λ i. tt; news = λ c. tt; up = λ i. tt; letters = λ c. tt };
}
