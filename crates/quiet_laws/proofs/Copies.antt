-- Each copy that is named was drawn.
use Rattle.std.proofs.Common.{◌≡◌, ℕ, ◌<◌, Bool, true, false, cond, not, ◌&&◌, List, [], ◌∷◌, ◌++◌, Option, Some, None, refl, sym, subst, find, zero, suc, filter, fold}
use Rattle.std.proofs.Math.Dec.{eqb}
use Rattle.cluster_msgs.specs.declared.messages.Down.{Down}
use Rattle.cluster_msgs.specs.declared.messages.Down.TheVariants.{ComputeTask, FreeKeys, StealRequest, RemoveReplicas, AcquireReplicas, RefreshWhoHas}
use Rattle.cluster_msgs.specs.declared.messages.Up.TheVariants.{TaskFinished, MissingData, StealResponse}
use Rattle.cluster_msgs.specs.declared.cores.Instruction.TheVariants.{Keep, Drop, Send}
use Rattle.cluster_msgs.specs.declared.cores.WorkerEvent.{WorkerEvent}
use Rattle.cluster_msgs.specs.declared.cores.WorkerEvent.TheVariants.{Down as Told, Start as StartTask, Done, Ask as AskPeer, Gathered, GatherFailed, DataLost}
use Rattle.cluster_rules.specs.Functions.{put}
use Rattle.cluster_rules.specs.Derived.{is_in}
use Rattle.cluster_rules.specs.Worker.{Ask as OpenAsk, WorkerFacts, awaited, is_wanted, wstate, is_missing_state, would_start, ask_to, without_ask}
use Rattle.cluster_rules.specs.WorkerStep.{WorkerStep, quiet, after_out, each_key, taken, set_holders, into_mem, give_up, given, free_key, yields, asked_back, remove_replica, remove_replicas, acquire, refresh, take_down, start, Arrivals, arrive_as, arrive, arrived, stopped, erred_as, done, keys_of, ask_peer, lose_holders, not_found, answered_ask, gathered_by, gathered, worker_row, worker_step}
use Rattle.cluster_msgs.specs.declared.messages.ToClient.{ToClient}
use Rattle.cluster_msgs.specs.declared.cores.SchedEvent.{SchedEvent}
use Rattle.cluster_msgs.specs.declared.cores.SchedEvent.TheVariants.{Join as JoinSched, Leave, FromWorker, FromClient, Balance as BalanceSched, Evict as EvictSched, Replicate as ReplicateSched}
use Rattle.cluster_msgs.specs.declared.cores.ClientEvent.{ClientEvent}
use Rattle.cluster_msgs.specs.declared.cores.ClientEvent.TheVariants.{Want as WantKeys, Release as ReleaseKeys, FromScheduler, Ask as ClientAsk, Gathered as ClientGathered, GatherFailed as ClientGatherFailed}
use Rattle.std.specs.Prelude.{nat_le}
use Rattle.std.specs.List.{list_any, filter_map, flat_map, cons_option, AllByRecursion}
use Rattle.std.specs.Option.{option_map}
use Rattle.std.specs.Prelude.{nat_lt}
use Rattle.small_facts.proofs.Every.{all_join, all_of_filter}
use Rattle.cluster_msgs.specs.declared.cores.Steal.{Steal}
use Rattle.cluster_msgs.specs.declared.messages.ToClient.TheVariants.{KeyInMemory, LostData, ClientTaskErred}
use Rattle.cluster_msgs.specs.declared.messages.FromClient.TheVariants.{Want as WantMessage, Release as ReleaseMessage, Missing as MissingMessage}
use Rattle.cluster_msgs.specs.declared.messages.Up.TheVariants.{TaskErred, AddKeys, ReleaseWorkerData, RequestRefreshWhoHas}
use Rattle.cluster_rules.specs.Functions.{from_one, put_pair}
use Rattle.cluster_rules.specs.Derived.{below}
use Rattle.cluster_rules.specs.Sched.{Facts, keys, deps, held, erred, blame, holders, who_has, workers}
use Rattle.cluster_rules.specs.Policies.{next_steal, next_drop}
use Rattle.cluster_rules.specs.SchedTable.{Changed, plain, change, is_copy, lost_copy, ask_message, balanced, evicted}
use Rattle.cluster_rules.specs.SchedStep.{Stages, sched_step, settle, finish_step, posted, mail, to_worker, free_message, lost_keys, task_message, task_messages, down_messages, client_message, was_held, was_erred, to_clients, reply_message, client_messages, tells_held}
use Rattle.cluster_rules.specs.Worker.{with_ask, fetchable, item_at}
use Rattle.cluster_rules.specs.WorkerStep.{others}
use Rattle.cluster_rules.specs.WorldStep.{letters}
use Rattle.cluster_rules.specs.Client.{ClientFacts, hear, client_gets, client_misses, client_answered, client_gathered_by, client_gathered, keeps_still, client_wants, client_releases, client_fetchable, client_ask, client_step}
use Rattle.cluster_rules.proofs.InsideWorker.{all_map_in}
use Rattle.cluster_rules.proofs.InsideSched.{all_flat_map_in, all_always, all_found}
use Rattle.pair_moves.proofs.HoldRows.{left_plain}
use Rattle.std.specs.Prelude.{length, min, take}
use Rattle.cluster_msgs.specs.Shape.{Shape}
use Rattle.cluster_rules.specs.Worker.{first_fit, ask_items}
use Rattle.quiet_laws.specs.Old.{IsOldAsk}
use Rattle.quiet_laws.specs.Copies.{AreOldHolders, AreOldWho, IsOldDown, IsOldNews, HasBelow}

module _ (N : ℕ) where
  -- ## The scheduler

  range_named : (f : Facts) → HasBelow N f → (k : ℕ) (ws : List ℕ) → AreOldHolders N (filter_map (λ w. option_map (λ c. (w, c)) (f.has w k)) ws)
  range_named f l k [] = tt
  range_named f l k (b ∷ ws) = pick (f.has b k) refl (range_named f l k ws)
    where
      pick : (o : Option ℕ) → f.has b k ≡ o → AreOldHolders N (filter_map (λ w. option_map (λ c. (w, c)) (f.has w k)) ws) → AreOldHolders N (cons_option (option_map (λ c. (b, c)) o) (filter_map (λ w. option_map (λ c. (w, c)) (f.has w k)) ws))
      pick None e r = r
      pick (Some c) e r = (l b k c e, r)

  holders_named : (f : Facts) → HasBelow N f → (k : ℕ) → AreOldHolders N (holders f k)
  unfolding holders
  holders_named f l k = range_named f l k (from_one f.last_worker)

  who_named : (f : Facts) → HasBelow N f → (ks : List ℕ) → AreOldWho N (who_has f ks)
  unfolding who_has
  who_named f l [] = tt
  who_named f l (k ∷ ks) = (holders_named f l k, who_named f l ks)

  abbrev pub DownNamed : List (ℕ × Down) → Type 0
  DownNamed ms = AllByRecursion (λ (m : ℕ × Down). IsOldDown N m.1) ms

  free_named : (w : ℕ) (ks : List ℕ) → DownNamed (free_message w ks)
  free_named w [] = tt
  free_named w (k ∷ ks) = (tt, tt)

  tasks_named : (f : Facts) → HasBelow N f → (since w : ℕ) (ks : List ℕ) → DownNamed (filter_map (λ k. task_message f since w k (f.on k)) ks)
  tasks_named f l since w [] = tt
  tasks_named f l since w (k ∷ ks) = one (f.on k) (tasks_named f l since w ks)
    where
      one : (o : Option (ℕ × ℕ)) → DownNamed (filter_map (λ q. task_message f since w q (f.on q)) ks) → DownNamed (cons_option (task_message f since w k o) (filter_map (λ q. task_message f since w q (f.on q)) ks))
      one None r = r
      one (Some p) r = pick (eqb p.0 w && nat_le since p.1)
        where
          pick : (b : Bool) → DownNamed (cons_option (cond b (Some (w, ComputeTask k p.1 (who_has f (deps f k)))) None) (filter_map (λ q. task_message f since w q (f.on q)) ks))
          pick true = (who_named f l (deps f k), r)
          pick false = r

  abbrev AnswersNamed : Changed → Type 0
  AnswersNamed g = (x : Facts) → HasBelow N x → (w : ℕ) → AllByRecursion (IsOldDown N) (g.answer x w)

  refresh_named : (x : Facts) → HasBelow N x → (k : ℕ) (b : Bool) → AllByRecursion (IsOldDown N) (cond b (RefreshWhoHas (who_has x (k ∷ [])) ∷ []) [])
  refresh_named x l k true = (who_named x l (k ∷ []), tt)
  refresh_named x l k false = tt

  acquire_named : (x : Facts) → HasBelow N x → (k : ℕ) (b : Bool) → AllByRecursion (IsOldDown N) (cond b (AcquireReplicas (who_has x (k ∷ [])) ∷ []) [])
  acquire_named x l k true = (who_named x l (k ∷ []), tt)
  acquire_named x l k false = tt

  ask_named : (q : ℕ) (o : Option (ℕ × ℕ)) (w : ℕ) → AllByRecursion (IsOldDown N) (ask_message q o w)
  ask_named q None w = tt
  ask_named q (Some p) w = pick (eqb p.0 w)
    where
      pick : (b : Bool) → AllByRecursion (IsOldDown N) (cond b (StealRequest q p.1 ∷ []) [])
      pick true = (tt, tt)
      pick false = tt

  balanced_named : (f : Facts) (o : Option Steal) → AnswersNamed (balanced f o)
  balanced_named f None x l w = tt
  balanced_named f (Some c) x l w = ask_named c.key (f.on c.key) w

  evicted_named : (f : Facts) (o : Option (ℕ × ℕ)) → AnswersNamed (evicted f o)
  evicted_named f None x l w = tt
  evicted_named f (Some p) x l w = pick (eqb w p.0)
    where
      pick : (b : Bool) → AllByRecursion (IsOldDown N) (cond b (RemoveReplicas (p.1 ∷ []) ∷ []) [])
      pick true = (tt, tt)
      pick false = tt

  lost_named : (f : Facts) (v q c : ℕ) → AnswersNamed (lost_copy f v q c)
  unfolding lost_copy
  lost_named f v q c x l w = pick (is_copy c (f.has v q))
    where
      pick : (b : Bool) → AllByRecursion (IsOldDown N) ((cond b (record (plain (record f { has = put_pair f.has v q None })) { freed = put_pair (λ w j. false) v q true }) (plain f)).answer x w)
      pick true = tt
      pick false = tt

  answers_named : (f : Facts) (s : SchedEvent) → AnswersNamed (change f s)
  answers_named f (JoinSched threads) x l w = tt
  answers_named f (Leave v) x l w = tt
  answers_named f (FromWorker v (TaskFinished seen k a)) x l w = tt
  answers_named f (FromWorker v (TaskErred seen k a)) x l w = tt
  answers_named f (FromWorker v (AddKeys seen ks)) x l w = subst (λ (h : Facts → ℕ → List Down). AllByRecursion (IsOldDown N) (h x w)) (sym (left_plain f v seen ks).answer) tt
  answers_named f (FromWorker v (ReleaseWorkerData seen k)) x l w = tt
  answers_named f (FromWorker v (MissingData seen k y c)) x l w = refresh_named x l k (eqb w v)
  answers_named f (FromWorker v (RequestRefreshWhoHas seen k)) x l w = refresh_named x l k (eqb w v)
  answers_named f (FromWorker v (StealResponse seen k a agreed)) x l w = tt
  answers_named f (FromClient c (WantMessage ks)) x l w = tt
  answers_named f (FromClient c (ReleaseMessage ks)) x l w = tt
  answers_named f (FromClient c (MissingMessage k y n)) x l w = lost_named f y k n x l w
  answers_named f BalanceSched x l w = balanced_named f (next_steal f) x l w
  answers_named f EvictSched x l w = evicted_named f (next_drop f) x l w
  answers_named f (ReplicateSched k v) x l w = acquire_named x l k (eqb w v)

  pub down_named : (f : Facts) (s : SchedEvent) → HasBelow N (sched_step f s).facts → DownNamed (sched_step f s).down
  unfolding sched_step finish_step posted down_messages to_worker task_messages settle
  down_named f s l =
      let t = settle f (change f s) in
      all_flat_map_in (λ (m : ℕ × Down). IsOldDown N m.1) _ (workers t.placed) (all_always _ (λ w. all_join (λ (m : ℕ × Down). IsOldDown N m.1) (free_message w (lost_keys t w)) _ (free_named w (lost_keys t w))
      (all_join (λ (m : ℕ × Down). IsOldDown N m.1) (filter_map (λ k. task_message t.placed t.before.counter w k (t.placed.on k)) (below (keys t.placed))) _ (tasks_named t.placed l t.before.counter w (below (keys t.placed)))
      (all_map_in (λ (m : ℕ × Down). IsOldDown N m.1) (λ m. (w, m)) (t.changed.answer t.placed w) (answers_named f s t.placed l w)))) (workers t.placed))

  pub mail_named : (w : ℕ) (ms : List (ℕ × Down)) → DownNamed ms → AllByRecursion (IsOldDown N) (mail w ms)
  mail_named w [] h = tt
  mail_named w (m ∷ ms) h = pick (eqb m.0 w) (mail_named w ms h.1)
    where
      pick : (b : Bool) → AllByRecursion (IsOldDown N) (mail w ms) → AllByRecursion (IsOldDown N) (cond b (m.1 ∷ mail w ms) (mail w ms))
      pick true r = (h.0, r)
      pick false r = r

  abbrev pub NewsNamed : List (ℕ × ToClient) → Type 0
  NewsNamed ms = AllByRecursion (λ (m : ℕ × ToClient). IsOldNews N m.1) ms

  news_named_one : (t : Stages) → HasBelow N t.placed → (c k : ℕ) (ms : List (ℕ × ToClient)) → NewsNamed ms → NewsNamed (cons_option (client_message t c k) ms)
  news_named_one t l c k ms r = by (t.placed.want c k) (erred t.placed k && not (was_erred t k)) (held t.placed k && not (was_held t k)) (was_held t k && not (held t.placed k)) (blame t.placed k)
    where
      by : (p q u x : Bool) (o : Option ℕ) → NewsNamed (cons_option (cond (not p) None (cond q (option_map (λ b. (c, ClientTaskErred k b)) o) (cond u (Some (c, KeyInMemory k (holders t.placed k))) (cond x (Some (c, LostData k)) None)))) ms)
      by false q u x o = r
      by true true u x None = r
      by true true u x (Some b) = (tt, r)
      by true false true x o = (holders_named t.placed l k, r)
      by true false false true o = (tt, r)
      by true false false false o = r

  news_named_keys : (t : Stages) → HasBelow N t.placed → (c : ℕ) (ks : List ℕ) → NewsNamed (filter_map (client_message t c) ks)
  news_named_keys t l c [] = tt
  news_named_keys t l c (k ∷ ks) = news_named_one t l c k _ (news_named_keys t l c ks)

  reply_named : (t : Stages) → HasBelow N t.placed → (ms : List (ℕ × ToClient)) (o : Option (ℕ × ℕ)) → NewsNamed (reply_message t ms o)
  reply_named t l ms None = tt
  reply_named t l ms (Some p) = pick (held t.placed p.1 && not (list_any (tells_held p.0 p.1) ms))
    where
      pick : (b : Bool) → NewsNamed (cond b ((p.0, KeyInMemory p.1 (holders t.placed p.1)) ∷ []) [])
      pick true = (holders_named t.placed l p.1, tt)
      pick false = tt

  pub news_named : (f : Facts) (s : SchedEvent) → HasBelow N (sched_step f s).facts → NewsNamed (sched_step f s).clients
  unfolding sched_step finish_step posted client_messages to_clients settle
  news_named f s l =
      let t = settle f (change f s) in
      all_join (λ (m : ℕ × ToClient). IsOldNews N m.1) (flat_map (λ c. filter_map (client_message t c) (below (keys t.before))) (from_one t.before.setting.clients)) _
      (all_flat_map_in (λ (m : ℕ × ToClient). IsOldNews N m.1) _ (from_one t.before.setting.clients) (all_always _ (λ c. news_named_keys t l c (below (keys t.before))) (from_one t.before.setting.clients)))
      (reply_named t l (to_clients t) t.changed.reply)

  pub letters_named : (c : ℕ) (ms : List (ℕ × ToClient)) → NewsNamed ms → AllByRecursion (IsOldNews N) (letters c ms)
  letters_named c [] h = tt
  letters_named c (m ∷ ms) h = pick (eqb m.0 c) (letters_named c ms h.1)
    where
      pick : (b : Bool) → AllByRecursion (IsOldNews N) (letters c ms) → AllByRecursion (IsOldNews N) (cond b (m.1 ∷ letters c ms) (letters c ms))
      pick true r = (h.0, r)
      pick false r = r

  -- ## A worker

  pub record IsNamedWorker (v : WorkerFacts) : Type 0 where
    pub holders : (k : ℕ) → AreOldHolders N (v.holders k)
    pub asks : AllByRecursion (IsOldAsk N) v.asks

  -- one key's holders change
  put_named : (v : WorkerFacts) (u : WorkerFacts) (q : ℕ) (hs : List (ℕ × ℕ)) → AreOldHolders N hs → u.holders ≡ put v.holders q hs → u.asks ≡ v.asks → IsNamedWorker v → IsNamedWorker u
  put_named v u q hs n e a h = record {
    holders = λ k. subst (λ (f : ℕ → List (ℕ × ℕ)). AreOldHolders N (f k)) (sym e) (pick k (eqb k q));
    asks = subst (λ l. AllByRecursion (IsOldAsk N) l) (sym a) h.asks;
  }
    where
      pick : (k : ℕ) (b : Bool) → AreOldHolders N (cond b hs (v.holders k))
      pick k true = n
      pick k false = h.holders k

  same_named : (v u : WorkerFacts) → u.holders ≡ v.holders → u.asks ≡ v.asks → IsNamedWorker v → IsNamedWorker u
  same_named v u e a h = record { holders = λ k. subst (λ (f : ℕ → List (ℕ × ℕ)). AreOldHolders N (f k)) (sym e) (h.holders k); asks = subst (λ l. AllByRecursion (IsOldAsk N) l) (sym a) h.asks }

  nw_holders : (v : WorkerFacts) (p : ℕ × List (ℕ × ℕ)) → AreOldHolders N p.1 → IsNamedWorker v → IsNamedWorker (set_holders v p)
  nw_holders v p n h = put_named v (set_holders v p) p.0 (others v.id p.1) (all_of_filter (λ (x : ℕ × ℕ). x.1 < N) (λ x. not (eqb x.0 v.id)) p.1 n) refl refl h

  nw_set : (who : List (ℕ × List (ℕ × ℕ))) (v : WorkerFacts) → AreOldWho N who → IsNamedWorker v → IsNamedWorker (fold set_holders v who)
  nw_set [] v n h = h
  nw_set (x ∷ xs) v n h = nw_set xs (set_holders v x) n.1 (nw_holders v x n.0 h)

  nw_acquire : (who : List (ℕ × List (ℕ × ℕ))) (v : WorkerFacts) → AreOldWho N who → IsNamedWorker v → IsNamedWorker (fold acquire v who)
  nw_acquire [] v n h = h
  nw_acquire (x ∷ xs) v n h = nw_acquire xs (acquire v x) n.1 (one (v.mem x.0))
    where
      one : (b : Bool) → IsNamedWorker (cond b v (set_holders (record v { sought = put v.sought x.0 true }) x))
      one true = h
      one false = nw_holders (record v { sought = put v.sought x.0 true }) x n.0 (record { holders = h.holders; asks = h.asks })

  nw_refresh : (who : List (ℕ × List (ℕ × ℕ))) (v : WorkerFacts) → AreOldWho N who → IsNamedWorker v → IsNamedWorker (fold refresh v who)
  nw_refresh [] v n h = h
  nw_refresh (x ∷ xs) v n h = nw_refresh xs (refresh v x) n.1 (nw_holders _ x n.0 (record { holders = h.holders; asks = h.asks }))

  nw_each : {A : Type 0} (row : WorkerFacts → A → WorkerStep) (xs : List A) (s : WorkerStep) → ((v : WorkerFacts) (x : A) → IsNamedWorker v → IsNamedWorker (row v x).facts) → IsNamedWorker s.facts → IsNamedWorker (each_key row s xs).facts
  nw_each row [] s f h = h
  nw_each row (x ∷ xs) s f h = nw_each row xs (after_out s.out (row s.facts x)) f (f s.facts x h)

  nw_free : (v : WorkerFacts) (x : ℕ) → IsNamedWorker v → IsNamedWorker (free_key v x).facts
  nw_free v x h = put_named v (free_key v x).facts x [] tt refl refl h

  nw_remove : (v : WorkerFacts) (x : ℕ) → IsNamedWorker v → IsNamedWorker (remove_replica v x).facts
  nw_remove v x h = pick (v.mem x && not (awaited v x))
    where
      pick : (b : Bool) → IsNamedWorker (cond b (record { facts = record v { mem = put v.mem x false }; out = Drop x ∷ [] }) (quiet v)).facts
      pick true = record { holders = h.holders; asks = h.asks }
      pick false = h

  nw_given : (v : WorkerFacts) (q a : ℕ) (who : List (ℕ × List (ℕ × ℕ))) → AreOldWho N who → IsNamedWorker v → IsNamedWorker (given v q a who).facts
  unfolding given
  nw_given v q a who n h = pick (v.mem q)
    where
      pick : (b : Bool) → IsNamedWorker (cond {A = WorkerStep} b (record { facts = record v { failed = put v.failed q false }; out = Send (TaskFinished v.seen q a) ∷ [] }) (quiet (fold set_holders (record v { failed = put v.failed q false; mine = put v.mine q (Some a) }) who))).facts
      pick true = record { holders = h.holders; asks = h.asks }
      pick false = nw_set who (record v { failed = put v.failed q false; mine = put v.mine q (Some a) }) n (record { holders = h.holders; asks = h.asks })

  nw_back : (v : WorkerFacts) (q a : ℕ) → IsNamedWorker v → IsNamedWorker (asked_back v q a).facts
  unfolding asked_back
  nw_back v q a h = pick (yields v q a)
    where
      pick : (b : Bool) → IsNamedWorker (cond {A = WorkerStep} b (record { facts = give_up v q; out = Send (StealResponse v.seen q a true) ∷ [] }) (record { facts = v; out = Send (StealResponse v.seen q a false) ∷ [] })).facts
      pick true = record { holders = h.holders; asks = h.asks }
      pick false = h

  nw_told : (v : WorkerFacts) (m : Down) → IsOldDown N m → IsNamedWorker v → IsNamedWorker (take_down v m).facts
  unfolding take_down remove_replicas
  nw_told v (ComputeTask q a who) n h = nw_given v q a who n h
  nw_told v (FreeKeys ks) n h = nw_each free_key ks (quiet v) nw_free h
  nw_told v (StealRequest q a) n h = nw_back v q a h
  nw_told v (RemoveReplicas ks) n h = nw_each remove_replica ks (quiet v) nw_remove h
  nw_told v (AcquireReplicas who) n h = nw_acquire who v n h
  nw_told v (RefreshWhoHas who) n h = nw_refresh who v n h

  nw_mem : (v : WorkerFacts) (q : ℕ) → IsNamedWorker v → IsNamedWorker (into_mem v q)
  nw_mem v q h = put_named v (into_mem v q) q [] tt refl refl h

  nw_arrive : (r : Arrivals) (q : ℕ) → IsNamedWorker r.facts → IsNamedWorker (arrive r q).facts
  nw_arrive r q h = pick (r.facts.mine q)
    where
      kept : (b : Bool) → IsNamedWorker (cond b (record { facts = into_mem r.facts q; out = r.out ++ Keep q ∷ []; added = r.added ++ q ∷ [] }) r).facts
      kept true = nw_mem r.facts q h
      kept false = h

      pick : (o : Option ℕ) → IsNamedWorker (arrive_as r q o).facts
      pick None = kept (is_wanted r.facts q)
      pick (Some a) = nw_mem (give_up r.facts q) q (record { holders = h.holders; asks = h.asks })

  nw_arrives : (qs : List ℕ) (r : Arrivals) → IsNamedWorker r.facts → IsNamedWorker (fold arrive r qs).facts
  nw_arrives [] r h = h
  nw_arrives (q ∷ qs) r h = nw_arrives qs (arrive r q) (nw_arrive r q h)

  nw_arrived : (v : WorkerFacts) (qs : List ℕ) → IsNamedWorker v → IsNamedWorker (arrived v qs).facts
  unfolding arrived
  nw_arrived v qs h = nw_arrives qs (record { facts = v; out = []; added = [] }) h

  nw_not_found : (p : ℕ) (v : WorkerFacts) (x : ℕ × ℕ) → IsNamedWorker v → IsNamedWorker (not_found p v x).facts
  nw_not_found p v x h = pick (is_missing_state (wstate (lose_holders v x.0) x.0))
    where
      gone : IsNamedWorker (lose_holders v x.0)
      gone = put_named v (lose_holders v x.0) x.0 [] tt refl refl h

      pick : (b : Bool) → IsNamedWorker (cond {A = WorkerStep} b (record { facts = record (lose_holders v x.0) { asked = put v.asked x.0 true }; out = Send (MissingData v.seen x.0 p x.1) ∷ [] }) (quiet (lose_holders v x.0))).facts
      pick true = record { holders = gone.holders; asks = gone.asks }
      pick false = gone

  nw_gathered : (v : WorkerFacts) (p n : ℕ) (found : List ℕ) → IsNamedWorker v → IsNamedWorker (gathered v p n found).facts
  unfolding gathered
  nw_gathered v p n found h = by_ask (ask_to v.asks p)
    where
      left : IsNamedWorker (record v { asks = without_ask v.asks p })
      left = record { holders = h.holders; asks = all_of_filter (IsOldAsk N) (λ (q : OpenAsk). not (eqb q.peer p)) v.asks h.asks }

      over : (a : OpenAsk) (b : Bool) → IsNamedWorker (cond {A = WorkerStep} b (answered_ask (record v { asks = without_ask v.asks p }) p a.items found) (quiet v)).facts
      over a true = nw_each (not_found p) (filter (λ i. not (is_in i.0 found)) a.items) (arrived (record v { asks = without_ask v.asks p }) (keys_of (filter (λ i. is_in i.0 found) a.items))) (nw_not_found p)
          (nw_arrived (record v { asks = without_ask v.asks p }) (keys_of (filter (λ i. is_in i.0 found) a.items)) left)
      over a false = h

      by_ask : (o : Option OpenAsk) → IsNamedWorker (gathered_by v p n found o).facts
      by_ask None = h
      by_ask (Some a) = over a (eqb a.number n)

  with_named : (a : OpenAsk) (qs : List OpenAsk) → IsOldAsk N a → AllByRecursion (IsOldAsk N) qs → AllByRecursion (IsOldAsk N) (with_ask a qs)
  with_named a [] n h = (n, tt)
  with_named a (q ∷ qs) n h = pick (nat_lt a.peer q.peer) (with_named a qs n h.1)
    where
      pick : (b : Bool) → AllByRecursion (IsOldAsk N) (with_ask a qs) → AllByRecursion (IsOldAsk N) (cond b (a ∷ q ∷ qs) (q ∷ with_ask a qs))
      pick true r = (n, h)
      pick false r = (h.0, r)

  item_named : (p k : ℕ) (hs : List (ℕ × ℕ)) → AreOldHolders N hs → (is : List (ℕ × ℕ)) → AllByRecursion (λ (x : ℕ × ℕ). x.1 < N) is → AllByRecursion (λ (x : ℕ × ℕ). x.1 < N) (cons_option (item_at p k hs) is)
  item_named p k hs n is r = by (find (λ x. eqb x.0 p) hs) refl
    where
      by : (o : Option (ℕ × ℕ)) → find (λ x. eqb x.0 p) hs ≡ o → AllByRecursion (λ (x : ℕ × ℕ). x.1 < N) (cons_option (option_map (λ c. (k, c)) (option_map (λ (x : ℕ × ℕ). x.1) o)) is)
      by None q = r
      by (Some x) q = (all_found (λ (x : ℕ × ℕ). x.1 < N) (λ x. eqb x.0 p) hs x q n, r)

  all_items : (p : ℕ) (hs : ℕ → List (ℕ × ℕ)) → ((k : ℕ) → AreOldHolders N (hs k)) → (ks : List ℕ) → AllByRecursion (λ (x : ℕ × ℕ). x.1 < N) (filter_map (λ k. item_at p k (hs k)) ks)
  all_items p hs n [] = tt
  all_items p hs n (k ∷ ks) = item_named p k (hs k) (n k) (filter_map (λ k. item_at p k (hs k)) ks) (all_items p hs n ks)

  all_taken : (m : ℕ) (is : List (ℕ × ℕ)) → AllByRecursion (λ (x : ℕ × ℕ). x.1 < N) is → AllByRecursion (λ (x : ℕ × ℕ). x.1 < N) (take m is)
  all_taken zero is h = tt
  all_taken (suc m) [] h = tt
  all_taken (suc m) (i ∷ is) h = (h.0, all_taken m is h.1)

  asks_old : (g : Shape) (is : List (ℕ × ℕ)) → AllByRecursion (λ (x : ℕ × ℕ). x.1 < N) is → AllByRecursion (λ (x : ℕ × ℕ). x.1 < N) (ask_items g is)
  unfolding ask_items
  asks_old g is h = all_taken (length (filter (first_fit g is) (from_one (min 16 (length is))))) is h

  nw_ask : (v : WorkerFacts) (p : ℕ) → IsNamedWorker v → IsNamedWorker (ask_peer v p).facts
  unfolding ask_peer fetchable
  nw_ask v p h = record { holders = h.holders; asks = with_named _ v.asks (asks_old v.shape (fetchable v p) (all_items p v.holders h.holders _)) h.asks }

  nw_start : (v : WorkerFacts) (o : Option ℕ) → IsNamedWorker v → IsNamedWorker (start v o).facts
  nw_start v None h = h
  nw_start v (Some q) h = record { holders = h.holders; asks = h.asks }

  nw_done : (v : WorkerFacts) (q : ℕ) (z : Bool) → IsNamedWorker v → IsNamedWorker (done v q z).facts
  nw_done v q false h = nw_arrived (stopped v q) (q ∷ []) (record { holders = h.holders; asks = h.asks })
  nw_done v q true h = pick (v.mine q)
    where
      pick : (o : Option ℕ) → IsNamedWorker (erred_as (stopped v q) q o).facts
      pick None = record { holders = h.holders; asks = h.asks }
      pick (Some a) = record { holders = h.holders; asks = h.asks }

  abbrev pub BringsNumbers : WorkerFacts → WorkerEvent → Type 0
  BringsNumbers v (Told m) = IsOldDown N m
  BringsNumbers v (AskPeer p) = Unit {0}
  BringsNumbers v StartTask = Unit {0}
  BringsNumbers v (Done k z) = Unit {0}
  BringsNumbers v (Gathered p n found) = Unit {0}
  BringsNumbers v (GatherFailed p n) = Unit {0}
  BringsNumbers v (DataLost k) = Unit {0}

  nw_row : (v : WorkerFacts) (e : WorkerEvent) → BringsNumbers v e → IsNamedWorker v → IsNamedWorker (worker_row v e).facts
  unfolding worker_row
  nw_row v (Told m) b h = nw_told (taken v) m b (record { holders = h.holders; asks = h.asks })
  nw_row v StartTask b h = nw_start v (would_start v) h
  nw_row v (Done k z) b h = nw_done v k z h
  nw_row v (AskPeer p) b h = nw_ask v p h
  nw_row v (Gathered p n found) b h = nw_gathered v p n found h
  nw_row v (GatherFailed p n) b h = nw_gathered v p n [] h
  nw_row v (DataLost k) b h = record { holders = h.holders; asks = h.asks }

  pub nw_step : (v : WorkerFacts) (e : WorkerEvent) → BringsNumbers v e → IsNamedWorker v → IsNamedWorker (worker_step v e).facts
  unfolding worker_step
  nw_step v e b h = let r = nw_row v e b h in record { holders = r.holders; asks = r.asks }

  -- ## A client

  pub record IsNamedClient (c : ClientFacts) : Type 0 where
    pub located : (k : ℕ) → AreOldHolders N (c.located k)
    pub asks : AllByRecursion (IsOldAsk N) c.asks

  put_located : (c : ClientFacts) (d : ClientFacts) (q : ℕ) (hs : List (ℕ × ℕ)) → AreOldHolders N hs → d.located ≡ put c.located q hs → d.asks ≡ c.asks → IsNamedClient c → IsNamedClient d
  put_located c d q hs n e a h = record {
    located = λ k. subst (λ (f : ℕ → List (ℕ × ℕ)). AreOldHolders N (f k)) (sym e) (pick k (eqb k q));
    asks = subst (λ l. AllByRecursion (IsOldAsk N) l) (sym a) h.asks;
  }
    where
      pick : (k : ℕ) (b : Bool) → AreOldHolders N (cond b hs (c.located k))
      pick k true = n
      pick k false = h.located k

  nc_gets : (ks : List ℕ) (c : ClientFacts) → IsNamedClient c → IsNamedClient (fold client_gets c ks)
  nc_gets [] c h = h
  nc_gets (k ∷ ks) c h = nc_gets ks (client_gets c k) (pick (c.wants k))
    where
      pick : (b : Bool) → IsNamedClient (cond b (record c { got = put c.got k true; located = put c.located k [] }) c)
      pick true = put_located c _ k [] tt refl refl h
      pick false = h

  nc_misses : (is : List (ℕ × ℕ)) (c : ClientFacts) → IsNamedClient c → IsNamedClient (fold client_misses c is)
  nc_misses [] c h = h
  nc_misses (i ∷ is) c h = nc_misses is (client_misses c i) (put_located c (client_misses c i) i.0 [] tt refl refl h)

  nc_hear : (c : ClientFacts) (m : ToClient) → IsOldNews N m → IsNamedClient c → IsNamedClient (hear c m)
  unfolding hear
  nc_hear c (KeyInMemory k hs) n h = pick (c.wants k && not (c.got k))
    where
      pick : (b : Bool) → IsNamedClient (cond b (record c { located = put c.located k hs }) c)
      pick true = put_located c _ k hs n refl refl h
      pick false = h
  nc_hear c (LostData k) n h = put_located c _ k [] tt refl refl h
  nc_hear c (ClientTaskErred k x) n h = pick (c.wants k && not (c.got k))
    where
      pick : (b : Bool) → IsNamedClient (cond b (record c { failed = put c.failed k (Some x); located = put c.located k [] }) c)
      pick true = put_located c _ k [] tt refl refl h
      pick false = h

  nc_gathered : (c : ClientFacts) (p n : ℕ) (found : List ℕ) → IsNamedClient c → IsNamedClient (client_gathered c p n found).facts
  unfolding client_gathered
  nc_gathered c p n found h = by_ask (ask_to c.asks p)
    where
      over : (a : OpenAsk) (b : Bool) → IsNamedClient (cond b (client_answered (record c { asks = without_ask c.asks p }) p (keys_of (filter (λ i. is_in i.0 found) a.items)) (filter (λ i. not (is_in i.0 found)) a.items)) (keeps_still c)).facts
      over a true = nc_misses (filter (λ i. not (is_in i.0 found)) a.items) (fold client_gets (record c { asks = without_ask c.asks p }) (keys_of (filter (λ i. is_in i.0 found) a.items))) (nc_gets (keys_of (filter (λ i. is_in i.0 found) a.items)) (record c { asks = without_ask c.asks p })
          (record { located = h.located; asks = all_of_filter (IsOldAsk N) (λ (q : OpenAsk). not (eqb q.peer p)) c.asks h.asks }))
      over a false = h

      by_ask : (o : Option OpenAsk) → IsNamedClient (client_gathered_by c p n found o).facts
      by_ask None = h
      by_ask (Some a) = over a (eqb a.number n)

  nc_ask : (c : ClientFacts) (p : ℕ) → IsNamedClient c → IsNamedClient (client_ask c p).facts
  unfolding client_ask client_fetchable
  nc_ask c p h = record { located = h.located; asks = with_named _ c.asks (asks_old c.shape (client_fetchable c p) (all_items p c.located h.located _)) h.asks }

  nc_releases : (c : ClientFacts) (ks : List ℕ) → IsNamedClient c → IsNamedClient (client_releases c ks).facts
  unfolding client_releases
  nc_releases c ks h = record { located = λ k. pick k (is_in k ks); asks = h.asks }
    where
      pick : (k : ℕ) (b : Bool) → AreOldHolders N (cond b [] (c.located k))
      pick k true = tt
      pick k false = h.located k

  abbrev pub NewsNumbers : ClientFacts → ClientEvent → Type 0
  NewsNumbers c (FromScheduler m) = IsOldNews N m
  NewsNumbers c (ClientAsk p) = Unit {0}
  NewsNumbers c (WantKeys ks) = Unit {0}
  NewsNumbers c (ReleaseKeys ks) = Unit {0}
  NewsNumbers c (ClientGathered p n found) = Unit {0}
  NewsNumbers c (ClientGatherFailed p n) = Unit {0}

  pub nc_step : (c : ClientFacts) (e : ClientEvent) → NewsNumbers c e → IsNamedClient c → IsNamedClient (client_step c e).facts
  unfolding client_step client_wants
  nc_step c (WantKeys ks) n h = record { located = h.located; asks = h.asks }
  nc_step c (ReleaseKeys ks) n h = nc_releases c ks h
  nc_step c (FromScheduler m) n h = nc_hear c m n h
  nc_step c (ClientAsk p) n h = nc_ask c p h
  nc_step c (ClientGathered p m found) n h = nc_gathered c p m found h
  nc_step c (ClientGatherFailed p m) n h = nc_gathered c p m [] h
