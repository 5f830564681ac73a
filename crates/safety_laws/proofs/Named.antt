-- Each worker that is named as a holder, or asked, has a number that was given.
use Rattle.std.proofs.Common.{◌≡◌, ℕ, ◌+◌, ◌≤◌, Bool, true, false, cond, not, ◌&&◌, List, [], ◌∷◌, ◌++◌, Option, Some, None, refl, sym, ap, subst, arith, is_some, is_none, find, zero, suc, filter, fold}
use Rattle.std.proofs.lemmas.Bool.{false≢true, eqb-true}
use Rattle.std.proofs.Math.Dec.{eqb}
use Rattle.cluster_msgs.specs.declared.messages.Down.{Down}
use Rattle.cluster_msgs.specs.declared.messages.Down.TheVariants.{ComputeTask, FreeKeys, StealRequest, RemoveReplicas, AcquireReplicas, RefreshWhoHas}
use Rattle.cluster_msgs.specs.declared.messages.Up.TheVariants.{TaskFinished, MissingData, StealResponse}
use Rattle.cluster_msgs.specs.declared.cores.Instruction.TheVariants.{Keep, Drop, Send}
use Rattle.cluster_msgs.specs.declared.cores.WorkerEvent.{WorkerEvent}
use Rattle.cluster_msgs.specs.declared.cores.WorkerEvent.TheVariants.{Down as Told, Start as StartTask, Done, Ask as AskPeer, Gathered, GatherFailed, DataLost}
use Rattle.cluster_rules.specs.Functions.{put}
use Rattle.cluster_rules.specs.Derived.{is_in}
use Rattle.cluster_rules.specs.Worker.{Ask as OpenAsk, WorkerFacts, awaited, is_wanted, wstate, is_missing_state, would_start, ask_to, without_ask}
use Rattle.cluster_rules.specs.WorkerStep.{WorkerStep, quiet, after_out, each_key, taken, set_holders, into_mem, give_up, given, free_key, yields, asked_back, remove_replica, remove_replicas, acquire, refresh, take_down, start, Arrivals, arrive_as, arrive, arrived, stopped, erred_as, done, keys_of, ask_peer, lose_holders, not_found, answered_ask, gathered_by, gathered, worker_row, worker_step}
use Rattle.cluster_msgs.specs.declared.messages.Up.{Up}
use Rattle.cluster_msgs.specs.declared.messages.ToClient.{ToClient}
use Rattle.cluster_msgs.specs.declared.messages.FromClient.{FromClient as ClientMessage}
use Rattle.cluster_msgs.specs.declared.cores.SchedEvent.{SchedEvent}
use Rattle.cluster_msgs.specs.declared.cores.SchedEvent.TheVariants.{Join as JoinSched, Leave, FromWorker, FromClient, Balance as BalanceSched, Evict as EvictSched, Replicate as ReplicateSched}
use Rattle.cluster_msgs.specs.declared.cores.ClientEvent.{ClientEvent}
use Rattle.cluster_msgs.specs.declared.cores.ClientEvent.TheVariants.{Want as WantKeys, Release as ReleaseKeys, FromScheduler, Ask as ClientAsk, Gathered as ClientGathered, GatherFailed as ClientGatherFailed}
use Rattle.cluster_msgs.specs.declared.events.Asker.{Asker}
use Rattle.cluster_msgs.specs.declared.events.Asker.TheVariants.{Worker, Client}
use Rattle.cluster_msgs.specs.declared.events.Event.{Event}
use Rattle.cluster_msgs.specs.declared.events.Event.TheVariants.{Want, Release, Join, Lose, SeeLoss, Suspect, DeliverDown, DeliverUp, DeliverToClient, DeliverFromClient, Start, Finish, SendGather, ServeGather, ArriveGather, FailGather, Balance, Evict, Replicate, Spill, LoseSpilled}
use Rattle.cluster_rules.specs.World.{Job, World, Parcel, shape_of, is_connected, is_asker, open_ask, parcel_of, without_parcel}
use Rattle.cluster_rules.specs.WorldStep.{scheduled, worked, client_worked, at_scheduler, at_worker, at_client, new_at, died, cut_off, take_down_first, take_up, take_up_first, take_to_client, take_from_client, ask_by, gathered_at, serve, take_answer, fail_ask, world_step}
use Rattle.cluster_rules.specs.Enabled.{enabled, may_ask}
use Rattle.std.specs.Prelude.{nat_le}
use Rattle.cluster_rules.specs.Worker.{new_worker}
use Rattle.cluster_rules.proofs.WorkerLemmas.{at_one}
use Rattle.std.proofs.lemmas.Bool.{and_parts}
use Rattle.std.specs.List.{list_any, filter_map, flat_map, cons_option, range_with_len, AllByRecursion}
use Rattle.std.specs.Option.{option_map}
use Rattle.std.specs.Prelude.{nat_lt}
use Rattle.std.proofs.Math.Nat.{le_refl}
use Rattle.small_facts.proofs.Every.{all_join, all_weaker, all_of_filter}
use Rattle.small_facts.proofs.Options.{find_passes}
use Rattle.cluster_msgs.specs.declared.cores.Steal.{Steal}
use Rattle.cluster_msgs.specs.declared.messages.ToClient.TheVariants.{KeyInMemory, LostData, ClientTaskErred}
use Rattle.cluster_msgs.specs.declared.messages.FromClient.TheVariants.{Want as WantMessage, Release as ReleaseMessage, Missing as MissingMessage}
use Rattle.cluster_msgs.specs.declared.messages.Up.TheVariants.{TaskErred, AddKeys, ReleaseWorkerData, RequestRefreshWhoHas}
use Rattle.cluster_rules.specs.Functions.{from_one, put_pair}
use Rattle.cluster_rules.specs.Derived.{below}
use Rattle.cluster_rules.specs.Sched.{Facts, keys, deps, held, erred, blame, holders, who_has, workers}
use Rattle.cluster_rules.specs.Policies.{next_steal, next_drop}
use Rattle.cluster_rules.specs.SchedTable.{Changed, plain, change, is_copy, lost_copy, ask_message, balanced, evicted}
use Rattle.cluster_rules.specs.SchedStep.{Stages, sched_step, settle, finish_step, posted, mail, to_worker, free_message, lost_keys, task_message, task_messages, down_messages, client_message, was_held, was_erred, to_clients, reply_message, client_messages, tells_held}
use Rattle.cluster_rules.specs.Worker.{with_ask, has_any, fetchable, item_at, would_ask}
use Rattle.cluster_rules.specs.WorkerStep.{others}
use Rattle.cluster_rules.specs.WorldStep.{letters}
use Rattle.cluster_rules.specs.Client.{ClientFacts, hear, client_gets, client_misses, client_answered, client_gathered_by, client_gathered, keeps_still, client_wants, client_releases, client_fetchable, client_ask, client_would_ask, client_step}
use Rattle.cluster_rules.proofs.InsideWorker.{all_map_in}
use Rattle.cluster_rules.proofs.InsideSched.{all_flat_map_in, all_always, all_found}
use Rattle.pair_moves.proofs.HoldRows.{left_plain}
use Rattle.safety_laws.specs.Lively.{IsNumber, AreNumbers, AreHolders, AreNumbersDown, AreNumbersNews, AreNamed}
use Rattle.safety_laws.proofs.Homes.{last_more}

module _ (N : ℕ) where
  -- ## The scheduler

  range_named : (f : Facts) (k b n : ℕ) → 1 ≤ b → b + n ≤ N + 1 → AreNumbers N (filter_map (λ w. option_map (λ c. (w, c)) (f.has w k)) (range_with_len b n))
  range_named f k b zero l m = tt
  range_named f k b (suc n) l m = pick (f.has b k) (range_named f k (b + 1) n (omega (arith, l)) (omega (arith, m)))
    where
      pick : (o : Option ℕ) → AreNumbers N (filter_map (λ w. option_map (λ c. (w, c)) (f.has w k)) (range_with_len (b + 1) n)) → AreNumbers N (cons_option (option_map (λ c. (b, c)) o) (filter_map (λ w. option_map (λ c. (w, c)) (f.has w k)) (range_with_len (b + 1) n)))
      pick None r = r
      pick (Some c) r = ((l, omega (arith, m)), r)

  holders_named : (f : Facts) → f.last_worker ≤ N → (k : ℕ) → AreNumbers N (holders f k)
  unfolding holders
  holders_named f l k = range_named f k 1 f.last_worker (omega arith) (omega (arith, l))

  who_named : (f : Facts) → f.last_worker ≤ N → (ks : List ℕ) → AreHolders N (who_has f ks)
  unfolding who_has
  who_named f l [] = tt
  who_named f l (k ∷ ks) = (holders_named f l k, who_named f l ks)

  abbrev DownNamed : List (ℕ × Down) → Type 0
  DownNamed ms = AllByRecursion (λ (m : ℕ × Down). AreNumbersDown N m.1) ms

  free_named : (w : ℕ) (ks : List ℕ) → DownNamed (free_message w ks)
  free_named w [] = tt
  free_named w (k ∷ ks) = (tt, tt)

  tasks_named : (f : Facts) → f.last_worker ≤ N → (since w : ℕ) (ks : List ℕ) → DownNamed (filter_map (λ k. task_message f since w k (f.on k)) ks)
  tasks_named f l since w [] = tt
  tasks_named f l since w (k ∷ ks) = one (f.on k) (tasks_named f l since w ks)
    where
      one : (o : Option (ℕ × ℕ)) → DownNamed (filter_map (λ q. task_message f since w q (f.on q)) ks) → DownNamed (cons_option (task_message f since w k o) (filter_map (λ q. task_message f since w q (f.on q)) ks))
      one None r = r
      one (Some p) r = pick (eqb p.0 w && nat_le since p.1)
        where
          pick : (b : Bool) → DownNamed (cons_option (cond b (Some (w, ComputeTask k p.1 (who_has f (deps f k)))) None) (filter_map (λ q. task_message f since w q (f.on q)) ks))
          pick true = (who_named f l (deps f k), r)
          pick false = r

  abbrev AnswersNamed : Changed → Type 0
  AnswersNamed g = (x : Facts) → x.last_worker ≤ N → (w : ℕ) → AllByRecursion (AreNumbersDown N) (g.answer x w)

  refresh_named : (x : Facts) → x.last_worker ≤ N → (k : ℕ) (b : Bool) → AllByRecursion (AreNumbersDown N) (cond b (RefreshWhoHas (who_has x (k ∷ [])) ∷ []) [])
  refresh_named x l k true = (who_named x l (k ∷ []), tt)
  refresh_named x l k false = tt

  acquire_named : (x : Facts) → x.last_worker ≤ N → (k : ℕ) (b : Bool) → AllByRecursion (AreNumbersDown N) (cond b (AcquireReplicas (who_has x (k ∷ [])) ∷ []) [])
  acquire_named x l k true = (who_named x l (k ∷ []), tt)
  acquire_named x l k false = tt

  ask_named : (q : ℕ) (o : Option (ℕ × ℕ)) (w : ℕ) → AllByRecursion (AreNumbersDown N) (ask_message q o w)
  ask_named q None w = tt
  ask_named q (Some p) w = pick (eqb p.0 w)
    where
      pick : (b : Bool) → AllByRecursion (AreNumbersDown N) (cond b (StealRequest q p.1 ∷ []) [])
      pick true = (tt, tt)
      pick false = tt

  balanced_named : (f : Facts) (o : Option Steal) → AnswersNamed (balanced f o)
  balanced_named f None x l w = tt
  balanced_named f (Some c) x l w = ask_named c.key (f.on c.key) w

  evicted_named : (f : Facts) (o : Option (ℕ × ℕ)) → AnswersNamed (evicted f o)
  evicted_named f None x l w = tt
  evicted_named f (Some p) x l w = pick (eqb w p.0)
    where
      pick : (b : Bool) → AllByRecursion (AreNumbersDown N) (cond b (RemoveReplicas (p.1 ∷ []) ∷ []) [])
      pick true = (tt, tt)
      pick false = tt

  lost_named : (f : Facts) (v q c : ℕ) → AnswersNamed (lost_copy f v q c)
  unfolding lost_copy
  lost_named f v q c x l w = pick (is_copy c (f.has v q))
    where
      pick : (b : Bool) → AllByRecursion (AreNumbersDown N) ((cond b (record (plain (record f { has = put_pair f.has v q None })) { freed = put_pair (λ w j. false) v q true }) (plain f)).answer x w)
      pick true = tt
      pick false = tt

  answers_named : (f : Facts) (s : SchedEvent) → AnswersNamed (change f s)
  answers_named f (JoinSched threads) x l w = tt
  answers_named f (Leave v) x l w = tt
  answers_named f (FromWorker v (TaskFinished seen k a)) x l w = tt
  answers_named f (FromWorker v (TaskErred seen k a)) x l w = tt
  answers_named f (FromWorker v (AddKeys seen ks)) x l w = subst (λ (h : Facts → ℕ → List Down). AllByRecursion (AreNumbersDown N) (h x w)) (sym (left_plain f v seen ks).answer) tt
  answers_named f (FromWorker v (ReleaseWorkerData seen k)) x l w = tt
  answers_named f (FromWorker v (MissingData seen k y c)) x l w = refresh_named x l k (eqb w v)
  answers_named f (FromWorker v (RequestRefreshWhoHas seen k)) x l w = refresh_named x l k (eqb w v)
  answers_named f (FromWorker v (StealResponse seen k a agreed)) x l w = tt
  answers_named f (FromClient c (WantMessage ks)) x l w = tt
  answers_named f (FromClient c (ReleaseMessage ks)) x l w = tt
  answers_named f (FromClient c (MissingMessage k y n)) x l w = lost_named f y k n x l w
  answers_named f BalanceSched x l w = balanced_named f (next_steal f) x l w
  answers_named f EvictSched x l w = evicted_named f (next_drop f) x l w
  answers_named f (ReplicateSched k v) x l w = acquire_named x l k (eqb w v)

  down_named : (f : Facts) (s : SchedEvent) → (sched_step f s).facts.last_worker ≤ N → DownNamed (sched_step f s).down
  unfolding sched_step finish_step posted down_messages to_worker task_messages settle
  down_named f s l =
      let t = settle f (change f s) in
      all_flat_map_in (λ (m : ℕ × Down). AreNumbersDown N m.1) _ (workers t.placed) (all_always _ (λ w. all_join (λ (m : ℕ × Down). AreNumbersDown N m.1) (free_message w (lost_keys t w)) _ (free_named w (lost_keys t w))
      (all_join (λ (m : ℕ × Down). AreNumbersDown N m.1) (filter_map (λ k. task_message t.placed t.before.counter w k (t.placed.on k)) (below (keys t.placed))) _ (tasks_named t.placed l t.before.counter w (below (keys t.placed)))
      (all_map_in (λ (m : ℕ × Down). AreNumbersDown N m.1) (λ m. (w, m)) (t.changed.answer t.placed w) (answers_named f s t.placed l w)))) (workers t.placed))

  mail_named : (w : ℕ) (ms : List (ℕ × Down)) → DownNamed ms → AllByRecursion (AreNumbersDown N) (mail w ms)
  mail_named w [] h = tt
  mail_named w (m ∷ ms) h = pick (eqb m.0 w) (mail_named w ms h.1)
    where
      pick : (b : Bool) → AllByRecursion (AreNumbersDown N) (mail w ms) → AllByRecursion (AreNumbersDown N) (cond b (m.1 ∷ mail w ms) (mail w ms))
      pick true r = (h.0, r)
      pick false r = r

  abbrev NewsNamed : List (ℕ × ToClient) → Type 0
  NewsNamed ms = AllByRecursion (λ (m : ℕ × ToClient). AreNumbersNews N m.1) ms

  news_named_one : (t : Stages) → t.placed.last_worker ≤ N → (c k : ℕ) (ms : List (ℕ × ToClient)) → NewsNamed ms → NewsNamed (cons_option (client_message t c k) ms)
  news_named_one t l c k ms r = by (t.placed.want c k) (erred t.placed k && not (was_erred t k)) (held t.placed k && not (was_held t k)) (was_held t k && not (held t.placed k)) (blame t.placed k)
    where
      by : (p q u x : Bool) (o : Option ℕ) → NewsNamed (cons_option (cond (not p) None (cond q (option_map (λ b. (c, ClientTaskErred k b)) o) (cond u (Some (c, KeyInMemory k (holders t.placed k))) (cond x (Some (c, LostData k)) None)))) ms)
      by false q u x o = r
      by true true u x None = r
      by true true u x (Some b) = (tt, r)
      by true false true x o = (holders_named t.placed l k, r)
      by true false false true o = (tt, r)
      by true false false false o = r

  news_named_keys : (t : Stages) → t.placed.last_worker ≤ N → (c : ℕ) (ks : List ℕ) → NewsNamed (filter_map (client_message t c) ks)
  news_named_keys t l c [] = tt
  news_named_keys t l c (k ∷ ks) = news_named_one t l c k _ (news_named_keys t l c ks)

  reply_named : (t : Stages) → t.placed.last_worker ≤ N → (ms : List (ℕ × ToClient)) (o : Option (ℕ × ℕ)) → NewsNamed (reply_message t ms o)
  reply_named t l ms None = tt
  reply_named t l ms (Some p) = pick (held t.placed p.1 && not (list_any (tells_held p.0 p.1) ms))
    where
      pick : (b : Bool) → NewsNamed (cond b ((p.0, KeyInMemory p.1 (holders t.placed p.1)) ∷ []) [])
      pick true = (holders_named t.placed l p.1, tt)
      pick false = tt

  news_named : (f : Facts) (s : SchedEvent) → (sched_step f s).facts.last_worker ≤ N → NewsNamed (sched_step f s).clients
  unfolding sched_step finish_step posted client_messages to_clients settle
  news_named f s l =
      let t = settle f (change f s) in
      all_join (λ (m : ℕ × ToClient). AreNumbersNews N m.1) (flat_map (λ c. filter_map (client_message t c) (below (keys t.before))) (from_one t.before.setting.clients)) _
      (all_flat_map_in (λ (m : ℕ × ToClient). AreNumbersNews N m.1) _ (from_one t.before.setting.clients) (all_always _ (λ c. news_named_keys t l c (below (keys t.before))) (from_one t.before.setting.clients)))
      (reply_named t l (to_clients t) t.changed.reply)

  letters_named : (c : ℕ) (ms : List (ℕ × ToClient)) → NewsNamed ms → AllByRecursion (AreNumbersNews N) (letters c ms)
  letters_named c [] h = tt
  letters_named c (m ∷ ms) h = pick (eqb m.0 c) (letters_named c ms h.1)
    where
      pick : (b : Bool) → AllByRecursion (AreNumbersNews N) (letters c ms) → AllByRecursion (AreNumbersNews N) (cond b (m.1 ∷ letters c ms) (letters c ms))
      pick true r = (h.0, r)
      pick false r = r

  -- ## A worker

  pub record IsNamedWorker (v : WorkerFacts) : Type 0 where
    pub holders : (k : ℕ) → AreNumbers N (v.holders k)
    pub asks : AllByRecursion (λ (q : OpenAsk). IsNumber N q.peer) v.asks

  -- one key's holders change
  put_named : (v : WorkerFacts) (u : WorkerFacts) (q : ℕ) (hs : List (ℕ × ℕ)) → AreNumbers N hs → u.holders ≡ put v.holders q hs → u.asks ≡ v.asks → IsNamedWorker v → IsNamedWorker u
  put_named v u q hs n e a h = record {
    holders = λ k. subst (λ (f : ℕ → List (ℕ × ℕ)). AreNumbers N (f k)) (sym e) (pick k (eqb k q));
    asks = subst (λ l. AllByRecursion (λ (x : OpenAsk). IsNumber N x.peer) l) (sym a) h.asks;
  }
    where
      pick : (k : ℕ) (b : Bool) → AreNumbers N (cond b hs (v.holders k))
      pick k true = n
      pick k false = h.holders k

  same_named : (v u : WorkerFacts) → u.holders ≡ v.holders → u.asks ≡ v.asks → IsNamedWorker v → IsNamedWorker u
  same_named v u e a h = record { holders = λ k. subst (λ (f : ℕ → List (ℕ × ℕ)). AreNumbers N (f k)) (sym e) (h.holders k); asks = subst (λ l. AllByRecursion (λ (x : OpenAsk). IsNumber N x.peer) l) (sym a) h.asks }

  nw_holders : (v : WorkerFacts) (p : ℕ × List (ℕ × ℕ)) → AreNumbers N p.1 → IsNamedWorker v → IsNamedWorker (set_holders v p)
  nw_holders v p n h = put_named v (set_holders v p) p.0 (others v.id p.1) (all_of_filter (λ (x : ℕ × ℕ). IsNumber N x.0) (λ x. not (eqb x.0 v.id)) p.1 n) refl refl h

  nw_set : (who : List (ℕ × List (ℕ × ℕ))) (v : WorkerFacts) → AreHolders N who → IsNamedWorker v → IsNamedWorker (fold set_holders v who)
  nw_set [] v n h = h
  nw_set (x ∷ xs) v n h = nw_set xs (set_holders v x) n.1 (nw_holders v x n.0 h)

  nw_acquire : (who : List (ℕ × List (ℕ × ℕ))) (v : WorkerFacts) → AreHolders N who → IsNamedWorker v → IsNamedWorker (fold acquire v who)
  nw_acquire [] v n h = h
  nw_acquire (x ∷ xs) v n h = nw_acquire xs (acquire v x) n.1 (one (v.mem x.0))
    where
      one : (b : Bool) → IsNamedWorker (cond b v (set_holders (record v { sought = put v.sought x.0 true }) x))
      one true = h
      one false = nw_holders (record v { sought = put v.sought x.0 true }) x n.0 (record { holders = h.holders; asks = h.asks })

  nw_refresh : (who : List (ℕ × List (ℕ × ℕ))) (v : WorkerFacts) → AreHolders N who → IsNamedWorker v → IsNamedWorker (fold refresh v who)
  nw_refresh [] v n h = h
  nw_refresh (x ∷ xs) v n h = nw_refresh xs (refresh v x) n.1 (nw_holders _ x n.0 (record { holders = h.holders; asks = h.asks }))

  nw_each : {A : Type 0} (row : WorkerFacts → A → WorkerStep) (xs : List A) (s : WorkerStep) → ((v : WorkerFacts) (x : A) → IsNamedWorker v → IsNamedWorker (row v x).facts) → IsNamedWorker s.facts → IsNamedWorker (each_key row s xs).facts
  nw_each row [] s f h = h
  nw_each row (x ∷ xs) s f h = nw_each row xs (after_out s.out (row s.facts x)) f (f s.facts x h)

  nw_free : (v : WorkerFacts) (x : ℕ) → IsNamedWorker v → IsNamedWorker (free_key v x).facts
  nw_free v x h = put_named v (free_key v x).facts x [] tt refl refl h

  nw_remove : (v : WorkerFacts) (x : ℕ) → IsNamedWorker v → IsNamedWorker (remove_replica v x).facts
  nw_remove v x h = pick (v.mem x && not (awaited v x))
    where
      pick : (b : Bool) → IsNamedWorker (cond b (record { facts = record v { mem = put v.mem x false }; out = Drop x ∷ [] }) (quiet v)).facts
      pick true = record { holders = h.holders; asks = h.asks }
      pick false = h

  nw_given : (v : WorkerFacts) (q a : ℕ) (who : List (ℕ × List (ℕ × ℕ))) → AreHolders N who → IsNamedWorker v → IsNamedWorker (given v q a who).facts
  unfolding given
  nw_given v q a who n h = pick (v.mem q)
    where
      pick : (b : Bool) → IsNamedWorker (cond {A = WorkerStep} b (record { facts = record v { failed = put v.failed q false }; out = Send (TaskFinished v.seen q a) ∷ [] }) (quiet (fold set_holders (record v { failed = put v.failed q false; mine = put v.mine q (Some a) }) who))).facts
      pick true = record { holders = h.holders; asks = h.asks }
      pick false = nw_set who (record v { failed = put v.failed q false; mine = put v.mine q (Some a) }) n (record { holders = h.holders; asks = h.asks })

  nw_back : (v : WorkerFacts) (q a : ℕ) → IsNamedWorker v → IsNamedWorker (asked_back v q a).facts
  unfolding asked_back
  nw_back v q a h = pick (yields v q a)
    where
      pick : (b : Bool) → IsNamedWorker (cond {A = WorkerStep} b (record { facts = give_up v q; out = Send (StealResponse v.seen q a true) ∷ [] }) (record { facts = v; out = Send (StealResponse v.seen q a false) ∷ [] })).facts
      pick true = record { holders = h.holders; asks = h.asks }
      pick false = h

  nw_told : (v : WorkerFacts) (m : Down) → AreNumbersDown N m → IsNamedWorker v → IsNamedWorker (take_down v m).facts
  unfolding take_down remove_replicas
  nw_told v (ComputeTask q a who) n h = nw_given v q a who n h
  nw_told v (FreeKeys ks) n h = nw_each free_key ks (quiet v) nw_free h
  nw_told v (StealRequest q a) n h = nw_back v q a h
  nw_told v (RemoveReplicas ks) n h = nw_each remove_replica ks (quiet v) nw_remove h
  nw_told v (AcquireReplicas who) n h = nw_acquire who v n h
  nw_told v (RefreshWhoHas who) n h = nw_refresh who v n h

  nw_mem : (v : WorkerFacts) (q : ℕ) → IsNamedWorker v → IsNamedWorker (into_mem v q)
  nw_mem v q h = put_named v (into_mem v q) q [] tt refl refl h

  nw_arrive : (r : Arrivals) (q : ℕ) → IsNamedWorker r.facts → IsNamedWorker (arrive r q).facts
  nw_arrive r q h = pick (r.facts.mine q)
    where
      kept : (b : Bool) → IsNamedWorker (cond b (record { facts = into_mem r.facts q; out = r.out ++ Keep q ∷ []; added = r.added ++ q ∷ [] }) r).facts
      kept true = nw_mem r.facts q h
      kept false = h

      pick : (o : Option ℕ) → IsNamedWorker (arrive_as r q o).facts
      pick None = kept (is_wanted r.facts q)
      pick (Some a) = nw_mem (give_up r.facts q) q (record { holders = h.holders; asks = h.asks })

  nw_arrives : (qs : List ℕ) (r : Arrivals) → IsNamedWorker r.facts → IsNamedWorker (fold arrive r qs).facts
  nw_arrives [] r h = h
  nw_arrives (q ∷ qs) r h = nw_arrives qs (arrive r q) (nw_arrive r q h)

  nw_arrived : (v : WorkerFacts) (qs : List ℕ) → IsNamedWorker v → IsNamedWorker (arrived v qs).facts
  unfolding arrived
  nw_arrived v qs h = nw_arrives qs (record { facts = v; out = []; added = [] }) h

  nw_not_found : (p : ℕ) (v : WorkerFacts) (x : ℕ × ℕ) → IsNamedWorker v → IsNamedWorker (not_found p v x).facts
  nw_not_found p v x h = pick (is_missing_state (wstate (lose_holders v x.0) x.0))
    where
      gone : IsNamedWorker (lose_holders v x.0)
      gone = put_named v (lose_holders v x.0) x.0 [] tt refl refl h

      pick : (b : Bool) → IsNamedWorker (cond {A = WorkerStep} b (record { facts = record (lose_holders v x.0) { asked = put v.asked x.0 true }; out = Send (MissingData v.seen x.0 p x.1) ∷ [] }) (quiet (lose_holders v x.0))).facts
      pick true = record { holders = gone.holders; asks = gone.asks }
      pick false = gone

  nw_gathered : (v : WorkerFacts) (p n : ℕ) (found : List ℕ) → IsNamedWorker v → IsNamedWorker (gathered v p n found).facts
  unfolding gathered
  nw_gathered v p n found h = by_ask (ask_to v.asks p)
    where
      left : IsNamedWorker (record v { asks = without_ask v.asks p })
      left = record { holders = h.holders; asks = all_of_filter (λ (q : OpenAsk). IsNumber N q.peer) (λ q. not (eqb q.peer p)) v.asks h.asks }

      over : (a : OpenAsk) (b : Bool) → IsNamedWorker (cond {A = WorkerStep} b (answered_ask (record v { asks = without_ask v.asks p }) p a.items found) (quiet v)).facts
      over a true = nw_each (not_found p) (filter (λ i. not (is_in i.0 found)) a.items) (arrived (record v { asks = without_ask v.asks p }) (keys_of (filter (λ i. is_in i.0 found) a.items))) (nw_not_found p)
          (nw_arrived (record v { asks = without_ask v.asks p }) (keys_of (filter (λ i. is_in i.0 found) a.items)) left)
      over a false = h

      by_ask : (o : Option OpenAsk) → IsNamedWorker (gathered_by v p n found o).facts
      by_ask None = h
      by_ask (Some a) = over a (eqb a.number n)

  -- who is asked is a holder
  with_named : (a : OpenAsk) (qs : List OpenAsk) → IsNumber N a.peer → AllByRecursion (λ (q : OpenAsk). IsNumber N q.peer) qs → AllByRecursion (λ (q : OpenAsk). IsNumber N q.peer) (with_ask a qs)
  with_named a [] n h = (n, tt)
  with_named a (q ∷ qs) n h = pick (nat_lt a.peer q.peer) (with_named a qs n h.1)
    where
      pick : (b : Bool) → AllByRecursion (λ (x : OpenAsk). IsNumber N x.peer) (with_ask a qs) → AllByRecursion (λ (x : OpenAsk). IsNumber N x.peer) (cond b (a ∷ q ∷ qs) (q ∷ with_ask a qs))
      pick true r = (n, h)
      pick false r = (h.0, r)

  item_named : (p k : ℕ) (hs : List (ℕ × ℕ)) → AreNumbers N hs → is_some (item_at p k hs) ≡ true → IsNumber N p
  item_named p k hs n e = by (find (λ x. eqb x.0 p) hs) refl e
    where
      by : (o : Option (ℕ × ℕ)) → find (λ x. eqb x.0 p) hs ≡ o → is_some {T = ℕ × ℕ} (option_map (λ c. (k, c)) (option_map (λ (x : ℕ × ℕ). x.1) o)) ≡ true → IsNumber N p
      by None q e = absurd (false≢true e)
      by (Some x) q e = subst (IsNumber N) (eqb-true x.0 p (find_passes (λ x. eqb x.0 p) hs x q)) (all_found (λ (x : ℕ × ℕ). IsNumber N x.0) (λ x. eqb x.0 p) hs x q n)

  some_item : (p : ℕ) (hs : ℕ → List (ℕ × ℕ)) → ((k : ℕ) → AreNumbers N (hs k)) → (ks : List ℕ) → has_any (filter_map (λ k. item_at p k (hs k)) ks) ≡ true → IsNumber N p
  some_item p hs n [] e = absurd (false≢true e)
  some_item p hs n (k ∷ ks) e = pick (item_at p k (hs k)) refl e (some_item p hs n ks)
    where
      pick : (o : Option (ℕ × ℕ)) → item_at p k (hs k) ≡ o → has_any (cons_option o (filter_map (λ k. item_at p k (hs k)) ks)) ≡ true → (has_any (filter_map (λ k. item_at p k (hs k)) ks) ≡ true → IsNumber N p) → IsNumber N p
      pick None q e rest = rest e
      pick (Some x) q e rest = item_named p k (hs k) (n k) (ap is_some q)

  nw_ask : (v : WorkerFacts) (p : ℕ) → would_ask v p ≡ true → IsNamedWorker v → IsNamedWorker (ask_peer v p).facts
  unfolding ask_peer would_ask fetchable
  nw_ask v p t h = record { holders = h.holders; asks = with_named _ v.asks (some_item p v.holders h.holders _ (and_parts (is_none (ask_to v.asks p)) (has_any (fetchable v p)) t).1) h.asks }

  nw_start : (v : WorkerFacts) (o : Option ℕ) → IsNamedWorker v → IsNamedWorker (start v o).facts
  nw_start v None h = h
  nw_start v (Some q) h = record { holders = h.holders; asks = h.asks }

  nw_done : (v : WorkerFacts) (q : ℕ) (z : Bool) → IsNamedWorker v → IsNamedWorker (done v q z).facts
  nw_done v q false h = nw_arrived (stopped v q) (q ∷ []) (record { holders = h.holders; asks = h.asks })
  nw_done v q true h = pick (v.mine q)
    where
      pick : (o : Option ℕ) → IsNamedWorker (erred_as (stopped v q) q o).facts
      pick None = record { holders = h.holders; asks = h.asks }
      pick (Some a) = record { holders = h.holders; asks = h.asks }

  abbrev BringsNumbers : WorkerFacts → WorkerEvent → Type 0
  BringsNumbers v (Told m) = AreNumbersDown N m
  BringsNumbers v (AskPeer p) = would_ask v p ≡ true
  BringsNumbers v StartTask = Unit {0}
  BringsNumbers v (Done k z) = Unit {0}
  BringsNumbers v (Gathered p n found) = Unit {0}
  BringsNumbers v (GatherFailed p n) = Unit {0}
  BringsNumbers v (DataLost k) = Unit {0}

  nw_row : (v : WorkerFacts) (e : WorkerEvent) → BringsNumbers v e → IsNamedWorker v → IsNamedWorker (worker_row v e).facts
  unfolding worker_row
  nw_row v (Told m) b h = nw_told (taken v) m b (record { holders = h.holders; asks = h.asks })
  nw_row v StartTask b h = nw_start v (would_start v) h
  nw_row v (Done k z) b h = nw_done v k z h
  nw_row v (AskPeer p) b h = nw_ask v p b h
  nw_row v (Gathered p n found) b h = nw_gathered v p n found h
  nw_row v (GatherFailed p n) b h = nw_gathered v p n [] h
  nw_row v (DataLost k) b h = record { holders = h.holders; asks = h.asks }

  nw_step : (v : WorkerFacts) (e : WorkerEvent) → BringsNumbers v e → IsNamedWorker v → IsNamedWorker (worker_step v e).facts
  unfolding worker_step
  nw_step v e b h = let r = nw_row v e b h in record { holders = r.holders; asks = r.asks }

  -- ## A client

  pub record IsNamedClient (c : ClientFacts) : Type 0 where
    pub located : (k : ℕ) → AreNumbers N (c.located k)
    pub asks : AllByRecursion (λ (q : OpenAsk). IsNumber N q.peer) c.asks

  put_located : (c : ClientFacts) (d : ClientFacts) (q : ℕ) (hs : List (ℕ × ℕ)) → AreNumbers N hs → d.located ≡ put c.located q hs → d.asks ≡ c.asks → IsNamedClient c → IsNamedClient d
  put_located c d q hs n e a h = record {
    located = λ k. subst (λ (f : ℕ → List (ℕ × ℕ)). AreNumbers N (f k)) (sym e) (pick k (eqb k q));
    asks = subst (λ l. AllByRecursion (λ (x : OpenAsk). IsNumber N x.peer) l) (sym a) h.asks;
  }
    where
      pick : (k : ℕ) (b : Bool) → AreNumbers N (cond b hs (c.located k))
      pick k true = n
      pick k false = h.located k

  nc_gets : (ks : List ℕ) (c : ClientFacts) → IsNamedClient c → IsNamedClient (fold client_gets c ks)
  nc_gets [] c h = h
  nc_gets (k ∷ ks) c h = nc_gets ks (client_gets c k) (pick (c.wants k))
    where
      pick : (b : Bool) → IsNamedClient (cond b (record c { got = put c.got k true; located = put c.located k [] }) c)
      pick true = put_located c _ k [] tt refl refl h
      pick false = h

  nc_misses : (is : List (ℕ × ℕ)) (c : ClientFacts) → IsNamedClient c → IsNamedClient (fold client_misses c is)
  nc_misses [] c h = h
  nc_misses (i ∷ is) c h = nc_misses is (client_misses c i) (put_located c (client_misses c i) i.0 [] tt refl refl h)

  nc_hear : (c : ClientFacts) (m : ToClient) → AreNumbersNews N m → IsNamedClient c → IsNamedClient (hear c m)
  unfolding hear
  nc_hear c (KeyInMemory k hs) n h = pick (c.wants k && not (c.got k))
    where
      pick : (b : Bool) → IsNamedClient (cond b (record c { located = put c.located k hs }) c)
      pick true = put_located c _ k hs n refl refl h
      pick false = h
  nc_hear c (LostData k) n h = put_located c _ k [] tt refl refl h
  nc_hear c (ClientTaskErred k x) n h = pick (c.wants k && not (c.got k))
    where
      pick : (b : Bool) → IsNamedClient (cond b (record c { failed = put c.failed k (Some x); located = put c.located k [] }) c)
      pick true = put_located c _ k [] tt refl refl h
      pick false = h

  nc_gathered : (c : ClientFacts) (p n : ℕ) (found : List ℕ) → IsNamedClient c → IsNamedClient (client_gathered c p n found).facts
  unfolding client_gathered
  nc_gathered c p n found h = by_ask (ask_to c.asks p)
    where
      over : (a : OpenAsk) (b : Bool) → IsNamedClient (cond b (client_answered (record c { asks = without_ask c.asks p }) p (keys_of (filter (λ i. is_in i.0 found) a.items)) (filter (λ i. not (is_in i.0 found)) a.items)) (keeps_still c)).facts
      over a true = nc_misses (filter (λ i. not (is_in i.0 found)) a.items) (fold client_gets (record c { asks = without_ask c.asks p }) (keys_of (filter (λ i. is_in i.0 found) a.items))) (nc_gets (keys_of (filter (λ i. is_in i.0 found) a.items)) (record c { asks = without_ask c.asks p })
          (record { located = h.located; asks = all_of_filter (λ (q : OpenAsk). IsNumber N q.peer) (λ q. not (eqb q.peer p)) c.asks h.asks }))
      over a false = h

      by_ask : (o : Option OpenAsk) → IsNamedClient (client_gathered_by c p n found o).facts
      by_ask None = h
      by_ask (Some a) = over a (eqb a.number n)

  nc_ask : (c : ClientFacts) (p : ℕ) → client_would_ask c p ≡ true → IsNamedClient c → IsNamedClient (client_ask c p).facts
  unfolding client_ask client_would_ask client_fetchable
  nc_ask c p t h = record { located = h.located; asks = with_named _ c.asks (some_item p c.located h.located _ (and_parts (is_none (ask_to c.asks p)) (has_any (client_fetchable c p)) t).1) h.asks }

  nc_releases : (c : ClientFacts) (ks : List ℕ) → IsNamedClient c → IsNamedClient (client_releases c ks).facts
  unfolding client_releases
  nc_releases c ks h = record { located = λ k. pick k (is_in k ks); asks = h.asks }
    where
      pick : (k : ℕ) (b : Bool) → AreNumbers N (cond b [] (c.located k))
      pick k true = tt
      pick k false = h.located k

  abbrev NewsNumbers : ClientFacts → ClientEvent → Type 0
  NewsNumbers c (FromScheduler m) = AreNumbersNews N m
  NewsNumbers c (ClientAsk p) = client_would_ask c p ≡ true
  NewsNumbers c (WantKeys ks) = Unit {0}
  NewsNumbers c (ReleaseKeys ks) = Unit {0}
  NewsNumbers c (ClientGathered p n found) = Unit {0}
  NewsNumbers c (ClientGatherFailed p n) = Unit {0}

  nc_step : (c : ClientFacts) (e : ClientEvent) → NewsNumbers c e → IsNamedClient c → IsNamedClient (client_step c e).facts
  unfolding client_step client_wants
  nc_step c (WantKeys ks) n h = record { located = h.located; asks = h.asks }
  nc_step c (ReleaseKeys ks) n h = nc_releases c ks h
  nc_step c (FromScheduler m) n h = nc_hear c m n h
  nc_step c (ClientAsk p) n h = nc_ask c p n h
  nc_step c (ClientGathered p m found) n h = nc_gathered c p m found h
  nc_step c (ClientGatherFailed p m) n h = nc_gathered c p m [] h

  -- ## The world

  pub record AreNamedTo (w : World) : Type 0 where
    pub workers : (i : ℕ) → IsNamedWorker (w.workers i)
    pub clients : (c : ℕ) → IsNamedClient (w.clients c)
    pub down : (i : ℕ) → AllByRecursion (AreNumbersDown N) (w.down i)
    pub news : (c : ℕ) → AllByRecursion (AreNumbersNews N) (w.to_client c)

  nt_scheduler : (w : World) (s : SchedEvent) → (sched_step w.sched s).facts.last_worker ≤ N → AreNamedTo w → AreNamedTo (at_scheduler w s)
  unfolding scheduled
  nt_scheduler w s l h = record {
    workers = h.workers;
    clients = h.clients;
    down = λ i. all_join (AreNumbersDown N) (w.down i) (mail i (sched_step w.sched s).down) (h.down i) (mail_named i (sched_step w.sched s).down (down_named w.sched s l));
    news = λ c. all_join (AreNumbersNews N) (w.to_client c) (letters c (sched_step w.sched s).clients) (h.news c) (letters_named c (sched_step w.sched s).clients (news_named w.sched s l));
  }

  nt_worker : (w : World) (i : ℕ) (e : WorkerEvent) → BringsNumbers (w.workers i) e → AreNamedTo w → AreNamedTo (at_worker w i e)
  unfolding worked
  nt_worker w i e b h = record {
    workers = at_one i (λ d x. IsNamedWorker (cond d (worker_step (w.workers i) e).facts (w.workers x))) (nw_step (w.workers i) e b (h.workers i)) h.workers;
    clients = h.clients;
    down = h.down;
    news = h.news;
  }

  nt_client : (w : World) (c : ℕ) (e : ClientEvent) → NewsNumbers (w.clients c) e → AreNamedTo w → AreNamedTo (at_client w c e)
  unfolding client_worked
  nt_client w c e b h = record {
    workers = h.workers;
    clients = at_one c (λ d x. IsNamedClient (cond d (client_step (w.clients c) e).facts (w.clients x))) (nc_step (w.clients c) e b (h.clients c)) h.clients;
    down = h.down;
    news = h.news;
  }

  nt_gathered : (w : World) (a : Asker) (p n : ℕ) (found : List ℕ) → AreNamedTo w → AreNamedTo (gathered_at w a p n found)
  nt_gathered w (Worker i) p n found h = nt_worker w i (Gathered p n found) tt h
  nt_gathered w (Client c) p n found h = nt_client w c (ClientGathered p n found) tt h

  nt_fails : (w : World) (a : Asker) (p : ℕ) (o : Option OpenAsk) → AreNamedTo w → AreNamedTo (fail_ask w a p o)
  nt_fails w a p None h = h
  nt_fails w (Worker i) p (Some q) h = nt_worker w i (GatherFailed p q.number) tt h
  nt_fails w (Client c) p (Some q) h = nt_client w c (ClientGatherFailed p q.number) tt h

  nt_asks : (w : World) (a : Asker) (p : ℕ) → may_ask w a p ≡ true → AreNamedTo w → AreNamedTo (ask_by w a p)
  nt_asks w (Worker i) p t h = nt_worker w i (AskPeer p) t h
  nt_asks w (Client c) p t h = nt_client w c (ClientAsk p) t h

  nt_serves : (w : World) (p : ℕ) (o : Option Parcel) → AreNamedTo w → AreNamedTo (serve w p o)
  nt_serves w p None h = h
  nt_serves w p (Some q) h = record { workers = h.workers; clients = h.clients; down = h.down; news = h.news }

  nt_answer : (w : World) (o : Option Parcel) → AreNamedTo w → AreNamedTo (take_answer w o)
  nt_answer w None h = h
  nt_answer w (Some q) h = nt_gathered (record w { answers = without_parcel q.asker q.peer q.ask w.answers }) q.asker q.peer q.ask q.keys (record { workers = h.workers; clients = h.clients; down = h.down; news = h.news })

  nt_down : (w : World) (i : ℕ) (ms : List Down) → w.down i ≡ ms → AreNamedTo w → AreNamedTo (take_down_first w i ms)
  nt_down w i [] e h = h
  nt_down w i (m ∷ ms) e h = let d = subst (λ l. AllByRecursion (AreNumbersDown N) l) e (h.down i) in
      nt_worker (record w { down = put w.down i ms }) i (Told m) d.0 (record { workers = h.workers; clients = h.clients; down = at_one i (λ b x. AllByRecursion (AreNumbersDown N) (cond b ms (w.down x))) d.1 h.down; news = h.news })

  nt_news : (w : World) (c : ℕ) (ms : List ToClient) → w.to_client c ≡ ms → AreNamedTo w → AreNamedTo (take_to_client w c ms)
  nt_news w c [] e h = h
  nt_news w c (m ∷ ms) e h = let d = subst (λ l. AllByRecursion (AreNumbersNews N) l) e (h.news c) in
      nt_client (record w { to_client = put w.to_client c ms }) c (FromScheduler m) d.0 (record { workers = h.workers; clients = h.clients; down = h.down; news = at_one c (λ b x. AllByRecursion (AreNumbersNews N) (cond b ms (w.to_client x))) d.1 h.news })

  nt_letter : (w : World) (c : ℕ) (ms : List ClientMessage) → ((m : ClientMessage) → (sched_step w.sched (FromClient c m)).facts.last_worker ≤ N) → AreNamedTo w → AreNamedTo (take_from_client w c ms)
  nt_letter w c [] l h = h
  nt_letter w c (m ∷ ms) l h = nt_scheduler (record w { from_client = put w.from_client c ms }) (FromClient c m) (l m) (record { workers = h.workers; clients = h.clients; down = h.down; news = h.news })

  nt_up : (w : World) (i : ℕ) (ms : List Up) → ((m : Up) → (sched_step w.sched (FromWorker i m)).facts.last_worker ≤ N) → AreNamedTo w → AreNamedTo (take_up_first w i ms)
  nt_up w i [] l h = h
  nt_up w i (m ∷ ms) l h = pick (is_connected w i)
    where
      pick : (b : Bool) → AreNamedTo (take_up (record w { up = put w.up i ms }) i m b)
      pick true = nt_scheduler (record w { up = put w.up i ms }) (FromWorker i m) (l m) (record { workers = h.workers; clients = h.clients; down = h.down; news = h.news })
      pick false = record { workers = h.workers; clients = h.clients; down = h.down; news = h.news }

  nt_new : (w : World) (i threads : ℕ) → AreNamedTo w → AreNamedTo (new_at w i threads)
  nt_new w i threads h = record {
    workers = at_one i (λ b x. IsNamedWorker (cond b (new_worker (shape_of w) i threads) (w.workers x))) (record { holders = λ k. tt; asks = tt }) h.workers;
    clients = h.clients;
    down = h.down;
    news = h.news;
  }

  nt_died : (w : World) (i : ℕ) → AreNamedTo w → AreNamedTo (died w i)
  nt_died w i h = record {
    workers = at_one i (λ b x. IsNamedWorker (cond b (record (w.workers i) { mem = λ k. false }) (w.workers x))) (record { holders = (h.workers i).holders; asks = (h.workers i).asks }) h.workers;
    clients = h.clients;
    down = h.down;
    news = h.news;
  }

  nt_cut : (w : World) (i : ℕ) → AreNamedTo w → AreNamedTo (cut_off w i)
  nt_cut w i h = record { workers = h.workers; clients = h.clients; down = at_one i (λ b x. AllByRecursion (AreNumbersDown N) (cond b [] (w.down x))) tt h.down; news = h.news }

more_numbers : (last more : ℕ) → last ≤ more → (hs : List (ℕ × ℕ)) → AreNumbers last hs → AreNumbers more hs
more_numbers last more l hs h = all_weaker (λ (x : ℕ × ℕ). IsNumber last x.0) (λ (x : ℕ × ℕ). IsNumber more x.0) (λ x n. (n.0, omega (arith, n.1, l))) hs h

more_asks : (last more : ℕ) → last ≤ more → (qs : List OpenAsk) → AllByRecursion (λ (q : OpenAsk). IsNumber last q.peer) qs → AllByRecursion (λ (q : OpenAsk). IsNumber more q.peer) qs
more_asks last more l qs h = all_weaker (λ (q : OpenAsk). IsNumber last q.peer) (λ (q : OpenAsk). IsNumber more q.peer) (λ q n. (n.0, omega (arith, n.1, l))) qs h

more_holders : (last more : ℕ) → last ≤ more → (who : List (ℕ × List (ℕ × ℕ))) → AreHolders last who → AreHolders more who
more_holders last more l who h = all_weaker (λ (p : ℕ × List (ℕ × ℕ)). AreNumbers last p.1) (λ (p : ℕ × List (ℕ × ℕ)). AreNumbers more p.1) (λ p n. more_numbers last more l p.1 n) who h

more_down : (last more : ℕ) → last ≤ more → (m : Down) → AreNumbersDown last m → AreNumbersDown more m
more_down last more l (ComputeTask q a who) h = more_holders last more l who h
more_down last more l (AcquireReplicas who) h = more_holders last more l who h
more_down last more l (RefreshWhoHas who) h = more_holders last more l who h
more_down last more l (FreeKeys ks) h = tt
more_down last more l (StealRequest q a) h = tt
more_down last more l (RemoveReplicas ks) h = tt

more_news : (last more : ℕ) → last ≤ more → (m : ToClient) → AreNumbersNews last m → AreNumbersNews more m
more_news last more l (KeyInMemory k hs) h = more_numbers last more l hs h
more_news last more l (LostData k) h = tt
more_news last more l (ClientTaskErred k b) h = tt

named_to : (w : World) (N : ℕ) → w.sched.last_worker ≤ N → AreNamed w → AreNamedTo N w
named_to w N l h = record {
  workers = λ i. record { holders = λ k. more_numbers w.sched.last_worker N l ((w.workers i).holders k) (h.holders i k); asks = more_asks w.sched.last_worker N l (w.workers i).asks (h.asks i) };
  clients = λ c. record { located = λ k. more_numbers w.sched.last_worker N l ((w.clients c).located k) (h.located c k); asks = more_asks w.sched.last_worker N l (w.clients c).asks (h.client_asks c) };
  down = λ i. all_weaker (AreNumbersDown w.sched.last_worker) (AreNumbersDown N) (more_down w.sched.last_worker N l) (w.down i) (h.down i);
  news = λ c. all_weaker (AreNumbersNews w.sched.last_worker) (AreNumbersNews N) (more_news w.sched.last_worker N l) (w.to_client c) (h.news c);
}

named_at : (w : World) → AreNamedTo w.sched.last_worker w → AreNamed w
named_at w h = record { holders = λ i. (h.workers i).holders; asks = λ i. (h.workers i).asks; located = λ c. (h.clients c).located; client_asks = λ c. (h.clients c).asks; down = h.down; news = h.news }

-- ## Every event

to_self : (w : World) → AreNamed w → AreNamedTo w.sched.last_worker w
to_self w h = named_to w w.sched.last_worker (le_refl w.sched.last_worker) h

by_scheduler : (w : World) (s : SchedEvent) → AreNamed w → AreNamed (at_scheduler w s)
unfolding scheduled
by_scheduler w s h = named_at (at_scheduler w s) (nt_scheduler (sched_step w.sched s).facts.last_worker w s (le_refl (sched_step w.sched s).facts.last_worker) (named_to w (sched_step w.sched s).facts.last_worker (last_more w.sched s) h))

by_worker : (w : World) (i : ℕ) (e : WorkerEvent) → BringsNumbers w.sched.last_worker (w.workers i) e → AreNamed w → AreNamed (at_worker w i e)
unfolding worked
by_worker w i e b h = named_at (at_worker w i e) (nt_worker w.sched.last_worker w i e b (to_self w h))

by_client : (w : World) (c : ℕ) (e : ClientEvent) → NewsNumbers w.sched.last_worker (w.clients c) e → AreNamed w → AreNamed (at_client w c e)
unfolding client_worked
by_client w c e b h = named_at (at_client w c e) (nt_client w.sched.last_worker w c e b (to_self w h))

named_up : (w : World) (i : ℕ) (ms : List Up) → AreNamed w → AreNamed (take_up_first w i ms)
named_up w i [] h = h
named_up w i (m ∷ ms) h = pick (is_connected w i)
  where
    less : AreNamed (record w { up = put w.up i ms })
    less = record { holders = h.holders; asks = h.asks; located = h.located; client_asks = h.client_asks; down = h.down; news = h.news }

    pick : (b : Bool) → AreNamed (take_up (record w { up = put w.up i ms }) i m b)
    pick true = by_scheduler (record w { up = put w.up i ms }) (FromWorker i m) less
    pick false = less

named_letter : (w : World) (c : ℕ) (ms : List ClientMessage) → AreNamed w → AreNamed (take_from_client w c ms)
named_letter w c [] h = h
named_letter w c (m ∷ ms) h = by_scheduler (record w { from_client = put w.from_client c ms }) (FromClient c m) (record { holders = h.holders; asks = h.asks; located = h.located; client_asks = h.client_asks; down = h.down; news = h.news })

named_down : (w : World) (i : ℕ) (ms : List Down) → w.down i ≡ ms → AreNamed w → AreNamed (take_down_first w i ms)
named_down w i [] e h = h
named_down w i (m ∷ ms) e h = let d = subst (λ l. AllByRecursion (AreNumbersDown w.sched.last_worker) l) e (h.down i) in
    by_worker (record w { down = put w.down i ms }) i (Told m) d.0 (record { holders = h.holders; asks = h.asks; located = h.located; client_asks = h.client_asks; down = at_one i (λ b x. AllByRecursion (AreNumbersDown w.sched.last_worker) (cond b ms (w.down x))) d.1 h.down; news = h.news })

named_news : (w : World) (c : ℕ) (ms : List ToClient) → w.to_client c ≡ ms → AreNamed w → AreNamed (take_to_client w c ms)
named_news w c [] e h = h
named_news w c (m ∷ ms) e h = let d = subst (λ l. AllByRecursion (AreNumbersNews w.sched.last_worker) l) e (h.news c) in
    by_client (record w { to_client = put w.to_client c ms }) c (FromScheduler m) d.0 (record { holders = h.holders; asks = h.asks; located = h.located; client_asks = h.client_asks; down = h.down; news = at_one c (λ b x. AllByRecursion (AreNumbersNews w.sched.last_worker) (cond b ms (w.to_client x))) d.1 h.news })

named_gathered : (w : World) (a : Asker) (p n : ℕ) (found : List ℕ) → AreNamed w → AreNamed (gathered_at w a p n found)
named_gathered w (Worker i) p n found h = by_worker w i (Gathered p n found) tt h
named_gathered w (Client c) p n found h = by_client w c (ClientGathered p n found) tt h

named_answer : (w : World) (o : Option Parcel) → AreNamed w → AreNamed (take_answer w o)
named_answer w None h = h
named_answer w (Some q) h = named_gathered (record w { answers = without_parcel q.asker q.peer q.ask w.answers }) q.asker q.peer q.ask q.keys (record { holders = h.holders; asks = h.asks; located = h.located; client_asks = h.client_asks; down = h.down; news = h.news })

named_fails : (w : World) (a : Asker) (p : ℕ) (o : Option OpenAsk) → AreNamed w → AreNamed (fail_ask w a p o)
named_fails w a p None h = h
named_fails w (Worker i) p (Some q) h = by_worker w i (GatherFailed p q.number) tt h
named_fails w (Client c) p (Some q) h = by_client w c (ClientGatherFailed p q.number) tt h

named_asks : (w : World) (a : Asker) (p : ℕ) → may_ask w a p ≡ true → AreNamed w → AreNamed (ask_by w a p)
named_asks w (Worker i) p t h = by_worker w i (AskPeer p) t h
named_asks w (Client c) p t h = by_client w c (ClientAsk p) t h

named_serves : (w : World) (p : ℕ) (o : Option Parcel) → AreNamed w → AreNamed (serve w p o)
named_serves w p None h = h
named_serves w p (Some q) h = record { holders = h.holders; asks = h.asks; located = h.located; client_asks = h.client_asks; down = h.down; news = h.news }

named_new : (w : World) (i threads : ℕ) → AreNamed w → AreNamed (new_at w i threads)
named_new w i threads h = named_at (new_at w i threads) (nt_new w.sched.last_worker w i threads (to_self w h))

named_died : (w : World) (i : ℕ) → AreNamed w → AreNamed (died w i)
named_died w i h = named_at (died w i) (nt_died w.sched.last_worker w i (to_self w h))

named_cut : (w : World) (i : ℕ) → AreNamed w → AreNamed (cut_off w i)
named_cut w i h = named_at (cut_off w i) (nt_cut w.sched.last_worker w i (to_self w h))

pub named_step : (j : Job) (w : World) (e : Event) → enabled w e ≡ true → AreNamed w → AreNamed (world_step j w e)
unfolding world_step enabled
named_step j w (Want c ks) t h = by_client w c (WantKeys ks) tt h
named_step j w (Release c ks) t h = by_client w c (ReleaseKeys ks) tt h
named_step j w (Join threads) t h = by_scheduler (new_at w (w.sched.last_worker + 1) threads) (JoinSched threads) (named_new w (w.sched.last_worker + 1) threads h)
named_step j w (Lose i) t h = named_died w i h
named_step j w (SeeLoss i) t h = named_cut (at_scheduler w (Leave i)) i (by_scheduler w (Leave i) h)
named_step j w (Suspect i) t h = by_scheduler w (Leave i) h
named_step j w (DeliverDown i) t h = named_down w i (w.down i) refl h
named_step j w (DeliverUp i) t h = named_up w i (w.up i) h
named_step j w (DeliverToClient c) t h = named_news w c (w.to_client c) refl h
named_step j w (DeliverFromClient c) t h = named_letter w c (w.from_client c) h
named_step j w (Start i) t h = by_worker w i StartTask tt h
named_step j w (Finish i k) t h = by_worker w i (Done k (j.zero k)) tt h
named_step j w (SendGather a p) t h = named_asks w a p (and_parts (is_asker w a) (may_ask w a p) t).1 h
named_step j w (ServeGather p a n) t h = named_serves w p (parcel_of a p n w.requests) h
named_step j w (ArriveGather a p n) t h = named_answer w (parcel_of a p n w.answers) h
named_step j w (FailGather a p) t h = named_fails w a p (open_ask w a p) h
named_step j w Balance t h = by_scheduler w BalanceSched h
named_step j w Evict t h = by_scheduler w EvictSched h
named_step j w (Replicate k i) t h = by_scheduler w (ReplicateSched k i) h
named_step j w (Spill i k) t h = record { holders = h.holders; asks = h.asks; located = h.located; client_asks = h.client_asks; down = h.down; news = h.news }
named_step j w (LoseSpilled i k) t h = by_worker w i (DataLost k) tt h
