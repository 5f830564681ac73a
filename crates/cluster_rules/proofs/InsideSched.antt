-- The scheduler and the clients name no key that isn't there.
use Rattle.std.proofs.Common.{◌≡◌, ℕ, suc, ◌+◌, ◌<◌, Bool, true, false, not, ◌&&◌, List, [], ◌∷◌, Option, Some, None, refl, sym, ap, ◌∙◌, subst, arith, cond, filter, map, find, fold}
use Rattle.std.specs.Prelude.{◌==◌, nat_le, option_map, filter_map, flat_map}
use Rattle.std.specs.List.{list_any, cons_option, AllByRecursion}
use Rattle.std.proofs.lemmas.Bool.{ltb-true, lt-ltb}
use Rattle.std.proofs.lemmas.Option.{same_Some}
use Rattle.small_facts.proofs.Every.{all_join, all_weaker, all_of_filter, all_of_map}
use Rattle.cluster_msgs.specs.Dags.{IsEarlier}
use Rattle.cluster_msgs.proofs.ValueLemmas.{cone-below}
use Rattle.cluster_msgs.specs.Shape.{Shape, IsShape, key_count, deps_of}
use Rattle.cluster_msgs.specs.declared.messages.Down.{Down}
use Rattle.cluster_msgs.specs.declared.messages.Down.TheVariants.{ComputeTask, StealRequest, RemoveReplicas, AcquireReplicas, RefreshWhoHas}
use Rattle.cluster_msgs.specs.declared.messages.Up.TheVariants.{TaskFinished, TaskErred, AddKeys, ReleaseWorkerData, MissingData, RequestRefreshWhoHas, StealResponse}
use Rattle.cluster_msgs.specs.declared.messages.ToClient.{ToClient}
use Rattle.cluster_msgs.specs.declared.messages.ToClient.TheVariants.{KeyInMemory, LostData, ClientTaskErred}
use Rattle.cluster_msgs.specs.declared.messages.FromClient.TheVariants.{Want as WantMessage, Release as ReleaseMessage, Missing as MissingMessage}
use Rattle.cluster_msgs.specs.declared.cores.Steal.{Steal}
use Rattle.cluster_msgs.specs.declared.cores.SchedEvent.{SchedEvent}
use Rattle.cluster_msgs.specs.declared.cores.SchedEvent.TheVariants.{Join, Leave, FromWorker, FromClient, Balance, Evict, Replicate}
use Rattle.cluster_msgs.specs.declared.cores.ClientInstruction.{ClientInstruction}
use Rattle.cluster_msgs.specs.declared.cores.ClientInstruction.TheVariants.{Send, Gather}
use Rattle.cluster_msgs.specs.declared.cores.ClientEvent.{ClientEvent}
use Rattle.cluster_msgs.specs.declared.cores.ClientEvent.TheVariants.{Want, Release, FromScheduler, Ask as ClientAsk, Gathered as ClientGathered, GatherFailed as ClientGatherFailed}
use Rattle.cluster_msgs.specs.declared.events.Asker.{Asker}
use Rattle.cluster_rules.specs.Functions.{put, put_pair, from_one}
use Rattle.cluster_rules.specs.Derived.{below, is_in}
use Rattle.cluster_rules.specs.Sched.{Facts, Setting, keys, deps, holds, held, erred, is_on, workers, holders, who_has, blame}
use Rattle.cluster_rules.specs.Policies.{may_steal, steal_choices, next_steal, may_drop, most_loaded, drop_of, next_drop}
use Rattle.cluster_rules.specs.SchedTable.{Changed, plain, add_key, add_keys, is_copy, lost_copy, nothing_freed, ask_message, balanced, evicted, change, up_keys, client_keys}
use Rattle.cluster_rules.specs.SchedStep.{Stages, settle, lost, lost_keys, free_message, task_message, task_messages, to_worker, down_messages, was_held, was_erred, client_message, to_clients, tells_held, reply_message, client_messages, posted, mail, finish_step, sched_step}
use Rattle.cluster_rules.specs.Worker.{Ask, ask_to, without_ask}
use Rattle.cluster_rules.specs.WorkerStep.{keys_of}
use Rattle.cluster_rules.specs.Client.{ClientFacts, is_open, client_keys as own_keys, client_fetchable, client_wants, client_releases, hears, hear, client_ask, client_gets, client_misses, missing_message, client_answered, client_gathered_by, client_gathered, keeps_still, ClientStep, client_step}
use Rattle.cluster_rules.specs.World.{Job, Parcel}
use Rattle.cluster_rules.specs.WorldStep.{letters, client_sends, client_requested}
use Rattle.cluster_rules.proofs.SchedFrame.{step_settles}
use Rattle.cluster_rules.specs.Inside.{IsKey, AreKeys, named_keys, down_keys, news_keys, item_keys, IsInsideClient}
use Rattle.cluster_rules.proofs.BlameLemmas.{blame_below}
use Rattle.cluster_rules.proofs.InsideWorker.{all_take_in, all_map_in, keys_below, asks_with, items_of, asked_in, parcels_with}
use Rattle.cluster_rules.specs.Worker.{ask_items}

pub all_flat_map_in : {A B : Type 0} (P : B → Type 0) (f : A → List B) (xs : List A) → AllByRecursion (λ x. AllByRecursion P (f x)) xs → AllByRecursion P (flat_map f xs)
all_flat_map_in P f [] h = tt
all_flat_map_in P f (x ∷ xs) h = all_join P (f x) (flat_map f xs) h.0 (all_flat_map_in P f xs h.1)

pub all_always : {A : Type 0} (P : A → Type 0) → ((x : A) → P x) → (xs : List A) → AllByRecursion P xs
all_always P f [] = tt
all_always P f (x ∷ xs) = (f x, all_always P f xs)

pub all_found : {A : Type 0} (P : A → Type 0) (t : A → Bool) (xs : List A) (x : A) → find t xs ≡ Some x → AllByRecursion P xs → P x
all_found {A} P t [] x e h = absurd (none e)
  where
    none : ◌≡◌ {A = Option A} None (Some x) → ⊥
    none e = cc
all_found {A} P t (y ∷ xs) x e h = pick (t y) e (λ i. all_found P t xs x i h.1)
  where
    pick : (b : Bool) → cond b (Some y) (find t xs) ≡ Some x → (find t xs ≡ Some x → P x) → P x
    pick true e r = subst P (same_Some y x e) h.0
    pick false e r = r e

module _ (g : Shape) (low : IsShape g) where
  abbrev AllDown : List Down → Type 0
  AllDown ms = AllByRecursion (λ m. AreKeys g (down_keys m)) ms

  -- what an event of the scheduler has to bring with it
  abbrev pub IsInsideSched : SchedEvent → Type 0
  IsInsideSched (FromWorker w up) = AreKeys g (up_keys up)
  IsInsideSched (FromClient c msg) = AreKeys g (client_keys msg)
  IsInsideSched (Join threads) = Unit {0}
  IsInsideSched (Leave w) = Unit {0}
  IsInsideSched Balance = Unit {0}
  IsInsideSched Evict = Unit {0}
  IsInsideSched (Replicate k w) = IsKey g k

  all_keys : (f : Facts) → f.setting.shape ≡ g → AreKeys g (below (keys f))
  all_keys f s = subst (λ (x : Shape). AreKeys g (below (key_count x))) (sym s) (keys_below g)

  -- answers
  refresh_in : (h : Facts) (k : ℕ) → IsKey g k → (b : Bool) → AllDown (cond b (RefreshWhoHas (who_has h (k ∷ [])) ∷ []) [])
  unfolding who_has
  refresh_in h k v true = ((v, tt), tt)
  refresh_in h k v false = tt

  acquire_in : (h : Facts) (k : ℕ) → IsKey g k → (b : Bool) → AllDown (cond b (AcquireReplicas (who_has h (k ∷ [])) ∷ []) [])
  unfolding who_has
  acquire_in h k v true = ((v, tt), tt)
  acquire_in h k v false = tt

  add_key_quiet : (h : Facts) (u w seen : ℕ) (c : Changed) (k : ℕ) → AllDown (c.answer h u) → AllDown ((add_key w seen c k).answer h u)
  add_key_quiet h u w seen c k r = by (nat_le (c.facts.fence w k) seen) (holds c.facts w k) (held c.facts k) (is_on c.facts w k)
    where
      by : (a b d e : Bool) → AllDown ((cond a (cond b c (cond d (record c { facts = record c.facts { has = put_pair c.facts.has w k (Some c.facts.counter); counter = c.facts.counter + 1 } }) (cond e c (record c { freed = put_pair c.freed w k true })))) c).answer h u)
      by false b d e = r
      by true true d e = r
      by true false true e = r
      by true false false true = r
      by true false false false = r

  add_keys_quiet : (h : Facts) (u w seen : ℕ) (c : Changed) (ks : List ℕ) → AllDown (c.answer h u) → AllDown ((add_keys w seen c ks).answer h u)
  add_keys_quiet h u w seen c [] r = r
  add_keys_quiet h u w seen c (k ∷ ks) r = add_keys_quiet h u w seen (add_key w seen c k) ks (add_key_quiet h u w seen c k r)

  lost_copy_quiet : (h : Facts) (u : ℕ) (f : Facts) (x k c : ℕ) → AllDown ((lost_copy f x k c).answer h u)
  unfolding lost_copy
  lost_copy_quiet h u f x k c = pick (is_copy c (f.has x k))
    where
      pick : (b : Bool) → AllDown ((cond b (record (plain (record f { has = put_pair f.has x k None })) { freed = put_pair nothing_freed x k true }) (plain f)).answer h u)
      pick true = tt
      pick false = tt

  steal_in : (f : Facts) → f.setting.shape ≡ g → AllByRecursion (λ (c : Steal). IsKey g c.key) (steal_choices f)
  unfolding steal_choices
  steal_in f s = all_of_filter (λ (c : Steal). IsKey g c.key) (may_steal f) _ (all_flat_map_in (λ (c : Steal). IsKey g c.key) (λ k. flat_map (λ v. map (λ t. record { key = k; victim = v; thief = t }) (workers f)) (workers f)) (below (keys f))
      (all_weaker (IsKey g) (λ k. AllByRecursion (λ (c : Steal). IsKey g c.key) (flat_map (λ v. map (λ t. record { key = k; victim = v; thief = t }) (workers f)) (workers f)))
      (λ k i. all_flat_map_in (λ (c : Steal). IsKey g c.key) (λ v. map (λ t. record { key = k; victim = v; thief = t }) (workers f)) (workers f)
      (all_always (λ v. AllByRecursion (λ (c : Steal). IsKey g c.key) (map (λ t. record { key = k; victim = v; thief = t }) (workers f))) (λ v. all_map_in (λ (c : Steal). IsKey g c.key) (λ t. record { key = k; victim = v; thief = t }) (workers f) (all_always (λ t. IsKey g k) (λ t. i) (workers f))) (workers f)))
      (below (keys f)) (all_keys f s)))

  asked_message : (k : ℕ) (o : Option (ℕ × ℕ)) (w : ℕ) → IsKey g k → AllDown (ask_message k o w)
  asked_message k None w v = tt
  asked_message k (Some p) w v = pick (p.0 == w)
    where
      pick : (b : Bool) → AllDown (cond b (StealRequest k p.1 ∷ []) [])
      pick true = ((v, tt), tt)
      pick false = tt

  balance_in : (h : Facts) (u : ℕ) (f : Facts) (o : Option Steal) → ((c : Steal) → o ≡ Some c → IsKey g c.key) → AllDown ((balanced f o).answer h u)
  balance_in h u f None v = tt
  balance_in h u f (Some c) v = asked_message c.key (f.on c.key) u (v c refl)

  steal_key : (f : Facts) → f.setting.shape ≡ g → (c : Steal) → next_steal f ≡ Some c → IsKey g c.key
  unfolding next_steal
  steal_key f s c e = all_found (λ (c : Steal). IsKey g c.key) _ (steal_choices f) c e (steal_in f s)

  evict_in : (h : Facts) (u : ℕ) (f : Facts) (o : Option (ℕ × ℕ)) → ((p : ℕ × ℕ) → o ≡ Some p → IsKey g p.1) → AllDown ((evicted f o).answer h u)
  evict_in h u f None v = tt
  evict_in h u f (Some p) v = pick (u == p.0)
    where
      pick : (b : Bool) → AllDown (cond b (RemoveReplicas (p.1 ∷ []) ∷ []) [])
      pick true = ((v p refl, tt), tt)
      pick false = tt

  drop_key : (f : Facts) → f.setting.shape ≡ g → (p : ℕ × ℕ) → next_drop f ≡ Some p → IsKey g p.1
  unfolding next_drop
  drop_key f s p e = at (find (may_drop f) (below (keys f))) refl e
    where
      none : ◌≡◌ {A = Option (ℕ × ℕ)} None (Some p) → ⊥
      none e = cc

      second : (w k : ℕ) → Some (w, k) ≡ Some p → k ≡ p.1
      second w k e = ap (λ (q : ℕ × ℕ). q.1) (same_Some (w, k) p e)

      held_by : (k : ℕ) → IsKey g k → (m : Option ℕ) → option_map (λ w. (w, k)) m ≡ Some p → IsKey g p.1
      held_by k v None e = absurd (none e)
      held_by k v (Some w) e = subst (IsKey g) (second w k e) v

      at : (o : Option ℕ) → find (may_drop f) (below (keys f)) ≡ o → drop_of f o ≡ Some p → IsKey g p.1
      at None z e = absurd (none e)
      at (Some k) z e = held_by k (all_found (IsKey g) (may_drop f) (below (keys f)) k z (all_keys f s)) (most_loaded f k) e

  answer_in : (f : Facts) (e : SchedEvent) → f.setting.shape ≡ g → IsInsideSched e → (h : Facts) (u : ℕ) → AllDown ((change f e).answer h u)
  answer_in f (Join threads) s v h u = tt
  answer_in f (Leave w) s v h u = tt
  answer_in f (FromWorker w (TaskFinished seen k a)) s v h u = tt
  answer_in f (FromWorker w (TaskErred seen k a)) s v h u = tt
  answer_in f (FromWorker w (AddKeys seen ks)) s v h u = add_keys_quiet h u w seen (plain f) ks tt
  answer_in f (FromWorker w (ReleaseWorkerData seen k)) s v h u = tt
  answer_in f (FromWorker w (MissingData seen k x c)) s v h u = refresh_in h k v.0 (u == w)
  answer_in f (FromWorker w (RequestRefreshWhoHas seen k)) s v h u = refresh_in h k v.0 (u == w)
  answer_in f (FromWorker w (StealResponse seen k a agreed)) s v h u = tt
  answer_in f (FromClient c (WantMessage ks)) s v h u = tt
  answer_in f (FromClient c (ReleaseMessage ks)) s v h u = tt
  answer_in f (FromClient c (MissingMessage k x copy)) s v h u = lost_copy_quiet h u f x k copy
  answer_in f Balance s v h u = balance_in h u f (next_steal f) (steal_key f s)
  answer_in f Evict s v h u = evict_in h u f (next_drop f) (drop_key f s)
  answer_in f (Replicate k w) s v h u = acquire_in h k v (u == w)

  -- the messages to workers
  deps_in : (k : ℕ) → IsKey g k → AreKeys g (deps_of g k)
  deps_in k v = all_weaker (λ d. d < k) (IsKey g) (λ d l. lt-ltb d (key_count g) (omega (arith, ltb-true k (key_count g) v))) (deps_of g k) (low.below k)

  free_in : (w : ℕ) (ks : List ℕ) → AreKeys g ks → AllByRecursion (λ (m : ℕ × Down). AreKeys g (down_keys m.1)) (free_message w ks)
  free_in w [] v = tt
  free_in w (k ∷ ks) v = (v, tt)

  names_back : (f : Facts) (ks : List ℕ) → AreKeys g ks → AreKeys g (named_keys (who_has f ks))
  unfolding who_has
  names_back f [] v = tt
  names_back f (k ∷ ks) v = (v.0, names_back f ks v.1)

  task_in : (f : Facts) → f.setting.shape ≡ g → (since w k : ℕ) → IsKey g k → (o : Option (ℕ × ℕ)) (ms : List (ℕ × Down)) → AllByRecursion (λ (m : ℕ × Down). AreKeys g (down_keys m.1)) ms
      → AllByRecursion (λ (m : ℕ × Down). AreKeys g (down_keys m.1)) (cons_option (task_message f since w k o) ms)
  task_in f s since w k v None ms r = r
  task_in f s since w k v (Some p) ms r = pick (p.0 == w && nat_le since p.1)
    where
      pick : (b : Bool) → AllByRecursion (λ (m : ℕ × Down). AreKeys g (down_keys m.1)) (cons_option (cond b (Some (w, ComputeTask k p.1 (who_has f (deps f k)))) None) ms)
      pick true = ((v, names_back f (deps f k) (subst (λ (x : Shape). AreKeys g (deps_of x k)) (sym s) (deps_in k v))), r)
      pick false = r

  tasks_in : (f : Facts) → f.setting.shape ≡ g → (since w : ℕ) (ks : List ℕ) → AreKeys g ks → AllByRecursion (λ (m : ℕ × Down). AreKeys g (down_keys m.1)) (filter_map (λ k. task_message f since w k (f.on k)) ks)
  tasks_in f s since w [] v = tt
  tasks_in f s since w (k ∷ ks) v = task_in f s since w k v.0 (f.on k) _ (tasks_in f s since w ks v.1)

  pub down_in : (f : Facts) (e : SchedEvent) → f.setting.shape ≡ g → (change f e).facts.setting ≡ f.setting → IsInsideSched e → AllByRecursion (λ (m : ℕ × Down). AreKeys g (down_keys m.1)) (sched_step f e).down
  unfolding sched_step finish_step posted down_messages to_worker task_messages settle
  down_in f e s c v =
      let t = settle f (change f e) in
      let placed : t.placed.setting.shape ≡ g = ap (λ (x : Setting). x.shape) ((step_settles f e).setting ∙ c) ∙ s in
      all_flat_map_in (λ (m : ℕ × Down). AreKeys g (down_keys m.1)) _ (workers t.placed) (all_always _ (λ w. all_join (λ (m : ℕ × Down). AreKeys g (down_keys m.1)) (free_message w (lost_keys t w)) _ (free_in w (lost_keys t w) (all_of_filter (IsKey g) (lost t w) (below (keys t.before)) (all_keys f s)))
      (all_join (λ (m : ℕ × Down). AreKeys g (down_keys m.1)) (filter_map (λ k. task_message t.placed t.before.counter w k (t.placed.on k)) (below (keys t.placed))) _ (tasks_in t.placed placed t.before.counter w (below (keys t.placed)) (all_keys t.placed placed))
      (all_map_in (λ (m : ℕ × Down). AreKeys g (down_keys m.1)) (λ m. (w, m)) (t.changed.answer t.placed w) (answer_in f e s v t.placed w)))) (workers t.placed))

  pub mail_in : (w : ℕ) (ms : List (ℕ × Down)) → AllByRecursion (λ (m : ℕ × Down). AreKeys g (down_keys m.1)) ms → AllByRecursion (λ m. AreKeys g (down_keys m)) (mail w ms)
  mail_in w [] h = tt
  mail_in w (m ∷ ms) h = pick (m.0 == w) (mail_in w ms h.1)
    where
      pick : (b : Bool) → AllByRecursion (λ m. AreKeys g (down_keys m)) (mail w ms) → AllByRecursion (λ m. AreKeys g (down_keys m)) (cond b (m.1 ∷ mail w ms) (mail w ms))
      pick true r = (h.0, r)
      pick false r = r

  -- the messages to clients
  blame_in_range : (j : Job) (f : Facts) → f.setting.shape ≡ g → (k b : ℕ) → IsKey g k → blame f k ≡ Some b → IsKey g b
  unfolding blame
  blame_in_range j f s k b v e =
      let below : IsEarlier (deps f) = subst (λ (x : Shape). IsEarlier (deps_of x)) (sym s) (record { below = low.below }) in
      let r = blame_below f below (suc k) k b e in
      lt-ltb b (key_count g) (omega (arith, cone-below (deps f) below k b r.1, ltb-true k (key_count g) v))

  news_of : (j : Job) (t : Stages) → t.placed.setting.shape ≡ g → (c k : ℕ) → IsKey g k → (ms : List (ℕ × ToClient)) → AllByRecursion (λ (m : ℕ × ToClient). AreKeys g (news_keys m.1)) ms
      → AllByRecursion (λ (m : ℕ × ToClient). AreKeys g (news_keys m.1)) (cons_option (client_message t c k) ms)
  news_of j t s c k v ms r = by (t.placed.want c k) (erred t.placed k && not (was_erred t k)) (held t.placed k && not (was_held t k)) (was_held t k && not (held t.placed k)) (blame t.placed k) refl
    where
      by : (p q u x : Bool) (o : Option ℕ) → blame t.placed k ≡ o → AllByRecursion (λ (m : ℕ × ToClient). AreKeys g (news_keys m.1)) (cons_option (cond (not p) None (cond q (option_map (λ b. (c, ClientTaskErred k b)) o) (cond u (Some (c, KeyInMemory k (holders t.placed k))) (cond x (Some (c, LostData k)) None)))) ms)
      by false q u x o e = r
      by true true u x None e = r
      by true true u x (Some b) e = ((v, (blame_in_range j t.placed s k b v e, tt)), r)
      by true false true x o e = ((v, tt), r)
      by true false false true o e = ((v, tt), r)
      by true false false false o e = r

  news_keys_of : (j : Job) (t : Stages) → t.placed.setting.shape ≡ g → (c : ℕ) (ks : List ℕ) → AreKeys g ks → AllByRecursion (λ (m : ℕ × ToClient). AreKeys g (news_keys m.1)) (filter_map (client_message t c) ks)
  news_keys_of j t s c [] v = tt
  news_keys_of j t s c (k ∷ ks) v = news_of j t s c k v.0 _ (news_keys_of j t s c ks v.1)

  reply_in : (t : Stages) (ms : List (ℕ × ToClient)) (o : Option (ℕ × ℕ)) → ((p : ℕ × ℕ) → o ≡ Some p → IsKey g p.1) → AllByRecursion (λ (m : ℕ × ToClient). AreKeys g (news_keys m.1)) (reply_message t ms o)
  reply_in t ms None v = tt
  reply_in t ms (Some p) v = pick (held t.placed p.1 && not (list_any (tells_held p.0 p.1) ms))
    where
      pick : (b : Bool) → AllByRecursion (λ (m : ℕ × ToClient). AreKeys g (news_keys m.1)) (cond b ((p.0, KeyInMemory p.1 (holders t.placed p.1)) ∷ []) [])
      pick true = ((v p refl, tt), tt)
      pick false = tt

  abbrev NoReply : Changed → Type 0
  NoReply c = c.reply ≡ None

  add_keys_silent : (w seen : ℕ) (c : Changed) (ks : List ℕ) → NoReply c → NoReply (add_keys w seen c ks)
  add_keys_silent w seen c [] r = r
  add_keys_silent w seen c (k ∷ ks) r = add_keys_silent w seen (add_key w seen c k) ks (by (nat_le (c.facts.fence w k) seen) (holds c.facts w k) (held c.facts k) (is_on c.facts w k))
    where
      by : (a b d e : Bool) → NoReply (cond a (cond b c (cond d (record c { facts = record c.facts { has = put_pair c.facts.has w k (Some c.facts.counter); counter = c.facts.counter + 1 } }) (cond e c (record c { freed = put_pair c.freed w k true })))) c)
      by false b d e = r
      by true true d e = r
      by true false true e = r
      by true false false true = r
      by true false false false = r

  lost_copy_silent : (f : Facts) (x k c : ℕ) → NoReply (lost_copy f x k c)
  unfolding lost_copy
  lost_copy_silent f x k c = pick (is_copy c (f.has x k))
    where
      pick : (b : Bool) → NoReply (cond b (record (plain (record f { has = put_pair f.has x k None })) { freed = put_pair nothing_freed x k true }) (plain f))
      pick true = refl
      pick false = refl

  balanced_silent : (f : Facts) (o : Option Steal) → NoReply (balanced f o)
  balanced_silent f None = refl
  balanced_silent f (Some c) = refl

  evicted_silent : (f : Facts) (o : Option (ℕ × ℕ)) → NoReply (evicted f o)
  evicted_silent f None = refl
  evicted_silent f (Some p) = refl

  reply_key : (f : Facts) (e : SchedEvent) → IsInsideSched e → (p : ℕ × ℕ) → (change f e).reply ≡ Some p → IsKey g p.1
  reply_key f e v p r = by e v r
    where
      none : (o : Option (ℕ × ℕ)) → o ≡ None → o ≡ Some p → ⊥
      none o n r = cc

      named : (c k : ℕ) → IsKey g k → Some (c, k) ≡ Some p → IsKey g p.1
      named c k v e = subst (IsKey g) (ap (λ (q : ℕ × ℕ). q.1) (same_Some (c, k) p e)) v

      by : (e : SchedEvent) → IsInsideSched e → (change f e).reply ≡ Some p → IsKey g p.1
      by (Join threads) v r = absurd (none _ refl r)
      by (Leave w) v r = absurd (none _ refl r)
      by (FromWorker w (TaskFinished seen k a)) v r = absurd (none _ refl r)
      by (FromWorker w (TaskErred seen k a)) v r = absurd (none _ refl r)
      by (FromWorker w (AddKeys seen ks)) v r = absurd (none _ (add_keys_silent w seen (plain f) ks refl) r)
      by (FromWorker w (ReleaseWorkerData seen k)) v r = absurd (none _ refl r)
      by (FromWorker w (MissingData seen k x c)) v r = absurd (none _ (lost_copy_silent f x k c) r)
      by (FromWorker w (RequestRefreshWhoHas seen k)) v r = absurd (none _ refl r)
      by (FromWorker w (StealResponse seen k a agreed)) v r = absurd (none _ refl r)
      by (FromClient c (WantMessage ks)) v r = absurd (none _ refl r)
      by (FromClient c (ReleaseMessage ks)) v r = absurd (none _ refl r)
      by (FromClient c (MissingMessage k x copy)) v r = named c k v.0 r
      by Balance v r = absurd (none _ (balanced_silent f (next_steal f)) r)
      by Evict v r = absurd (none _ (evicted_silent f (next_drop f)) r)
      by (Replicate k w) v r = absurd (none _ refl r)

  pub news_in : (j : Job) (f : Facts) (e : SchedEvent) → f.setting.shape ≡ g → (change f e).facts.setting ≡ f.setting → IsInsideSched e → AllByRecursion (λ (m : ℕ × ToClient). AreKeys g (news_keys m.1)) (sched_step f e).clients
  unfolding sched_step finish_step posted client_messages to_clients settle
  news_in j f e s c v =
      let t = settle f (change f e) in
      let placed : t.placed.setting.shape ≡ g = ap (λ (x : Setting). x.shape) ((step_settles f e).setting ∙ c) ∙ s in
      all_join (λ (m : ℕ × ToClient). AreKeys g (news_keys m.1)) (flat_map (λ c. filter_map (client_message t c) (below (keys t.before))) (from_one t.before.setting.clients)) _
      (all_flat_map_in (λ (m : ℕ × ToClient). AreKeys g (news_keys m.1)) _ (from_one t.before.setting.clients) (all_always _ (λ c. news_keys_of j t placed c (below (keys t.before)) (all_keys f s)) (from_one t.before.setting.clients)))
      (reply_in t (to_clients t) t.changed.reply (reply_key f e v))

  pub letters_in : (c : ℕ) (ms : List (ℕ × ToClient)) → AllByRecursion (λ (m : ℕ × ToClient). AreKeys g (news_keys m.1)) ms → AllByRecursion (λ m. AreKeys g (news_keys m)) (letters c ms)
  letters_in c [] h = tt
  letters_in c (m ∷ ms) h = pick (m.0 == c) (letters_in c ms h.1)
    where
      pick : (b : Bool) → AllByRecursion (λ m. AreKeys g (news_keys m)) (letters c ms) → AllByRecursion (λ m. AreKeys g (news_keys m)) (cond b (m.1 ∷ letters c ms) (letters c ms))
      pick true r = (h.0, r)
      pick false r = r

  -- a client
  abbrev pub IsClientOut : ClientInstruction → Type 0
  IsClientOut (Send m) = AreKeys g (client_keys m)
  IsClientOut (Gather p n ks) = AreKeys g ks

  pub record IsClientStep (s : ClientStep) : Type 0 where
    pub facts : IsInsideClient g s.facts
    pub out : AllByRecursion IsClientOut s.out

  abbrev pub IsInsideClientEvent : ClientEvent → Type 0
  IsInsideClientEvent (Want ks) = AreKeys g ks
  IsInsideClientEvent (Release ks) = AreKeys g ks
  IsInsideClientEvent (FromScheduler m) = Unit {0}
  IsInsideClientEvent (ClientAsk p) = Unit {0}
  IsInsideClientEvent (ClientGathered p n found) = Unit {0}
  IsInsideClientEvent (ClientGatherFailed p n) = Unit {0}

  hears_in : (c : ClientFacts) (k : ℕ) (d : ClientFacts) → IsInsideClient g d → IsInsideClient g c → IsInsideClient g (hears c k d)
  hears_in c k d r h = pick (c.wants k && not (c.got k))
    where
      pick : (b : Bool) → IsInsideClient g (cond b d c)
      pick true = r
      pick false = h

  hear_in : (c : ClientFacts) (m : ToClient) → IsInsideClient g c → IsInsideClient g (hear c m)
  unfolding hear
  hear_in c (KeyInMemory k hs) h = hears_in c k _ (record { shape = h.shape; asks = h.asks }) h
  hear_in c (LostData k) h = record { shape = h.shape; asks = h.asks }
  hear_in c (ClientTaskErred k b) h = hears_in c k _ (record { shape = h.shape; asks = h.asks }) h

  client_keys_in : (c : ClientFacts) → IsInsideClient g c → AreKeys g (own_keys c)
  client_keys_in c h = subst (λ (s : Shape). AreKeys g (below (key_count s))) (sym h.shape) (keys_below g)

  client_ask_in : (c : ClientFacts) (p : ℕ) → IsInsideClient g c → IsClientStep (client_ask c p)
  unfolding client_ask client_fetchable ask_items
  client_ask_in c p h =
      let items = all_take_in (λ (i : ℕ × ℕ). IsKey g i.0) _ _ (items_of g p c.located (filter (is_open c) (own_keys c)) (all_of_filter (IsKey g) _ (own_keys c) (client_keys_in c h))) in
      let keys = all_map_in (IsKey g) (λ (i : ℕ × ℕ). i.0) _ items in
      record { facts = record { shape = h.shape; asks = asks_with g (record { peer = p; number = c.next_ask; items = _ }) c.asks keys h.asks }; out = (keys, tt) }

  gets_in : (ks : List ℕ) (c : ClientFacts) → IsInsideClient g c → IsInsideClient g (fold client_gets c ks)
  gets_in [] c h = h
  gets_in (k ∷ ks) c h = gets_in ks (client_gets c k) (pick (c.wants k))
    where
      pick : (b : Bool) → IsInsideClient g (cond b (record c { got = put c.got k true; located = put c.located k [] }) c)
      pick true = record { shape = h.shape; asks = h.asks }
      pick false = h

  misses_in : (is : List (ℕ × ℕ)) (c : ClientFacts) → IsInsideClient g c → IsInsideClient g (fold client_misses c is)
  misses_in [] c h = h
  misses_in (i ∷ is) c h = misses_in is (client_misses c i) (record { shape = h.shape; asks = h.asks })

  missing_in : (c : ClientFacts) (p : ℕ) (is : List (ℕ × ℕ)) → AllByRecursion (λ (i : ℕ × ℕ). IsKey g i.0) is → AllByRecursion IsClientOut (filter_map (missing_message c p) is)
  missing_in c p [] v = tt
  missing_in c p (i ∷ is) v = pick (c.wants i.0) (missing_in c p is v.1)
    where
      pick : (b : Bool) → AllByRecursion IsClientOut (filter_map (missing_message c p) is) → AllByRecursion IsClientOut (cons_option (cond b (Some (Send (MissingMessage i.0 p i.1))) None) (filter_map (missing_message c p) is))
      pick true r = ((v.0, tt), r)
      pick false r = r

  client_gathered_in : (c : ClientFacts) (p n : ℕ) (found : List ℕ) → IsInsideClient g c → IsClientStep (client_gathered c p n found)
  unfolding client_gathered
  client_gathered_in c p n found h = pick (ask_to c.asks p) refl
    where
      over : (a : Ask) → AllByRecursion (λ (i : ℕ × ℕ). IsKey g i.0) a.items → (b : Bool) → IsClientStep (cond b (client_answered (record c { asks = without_ask c.asks p }) p (keys_of (filter (λ i. is_in i.0 found) a.items)) (filter (λ i. not (is_in i.0 found)) a.items)) (keeps_still c))
      over a v true = record {
        facts = misses_in (filter (λ i. not (is_in i.0 found)) a.items) _ (gets_in (keys_of (filter (λ i. is_in i.0 found) a.items)) (record c { asks = without_ask c.asks p }) (record { shape = h.shape; asks = all_of_filter (λ (a : Ask). AreKeys g (item_keys a)) _ c.asks h.asks }));
        out = missing_in (record c { asks = without_ask c.asks p }) p (filter (λ i. not (is_in i.0 found)) a.items) (all_of_filter (λ (i : ℕ × ℕ). IsKey g i.0) _ a.items v);
      }
      over a v false = record { facts = h; out = tt }

      pick : (o : Option Ask) → ask_to c.asks p ≡ o → IsClientStep (client_gathered_by c p n found o)
      pick None e = record { facts = h; out = tt }
      pick (Some a) e = over a (all_of_map (IsKey g) (λ (i : ℕ × ℕ). i.0) a.items (asked_in g c.asks p a e h.asks)) (a.number == n)

  pub client_in : (c : ClientFacts) (e : ClientEvent) → IsInsideClientEvent e → IsInsideClient g c → IsClientStep (client_step c e)
  unfolding client_step client_wants client_releases
  client_in c (Want ks) v h = record { facts = record { shape = h.shape; asks = h.asks }; out = (v, tt) }
  client_in c (Release ks) v h = record { facts = record { shape = h.shape; asks = h.asks }; out = (v, tt) }
  client_in c (FromScheduler m) v h = record { facts = hear_in c m h; out = tt }
  client_in c (ClientAsk p) v h = client_ask_in c p h
  client_in c (ClientGathered p n found) v h = client_gathered_in c p n found h
  client_in c (ClientGatherFailed p n) v h = client_gathered_in c p n [] h

  pub client_sends_in : (out : List ClientInstruction) → AllByRecursion IsClientOut out → AllByRecursion (λ m. AreKeys g (client_keys m)) (client_sends out)
  client_sends_in [] h = tt
  client_sends_in (Send m ∷ is) h = (h.0, client_sends_in is h.1)
  client_sends_in (Gather p n ks ∷ is) h = client_sends_in is h.1

  pub client_requested_in : (a : Asker) (out : List ClientInstruction) (qs : List Parcel) → AllByRecursion IsClientOut out → AllByRecursion (λ (q : Parcel). AreKeys g q.keys) qs → AllByRecursion (λ (q : Parcel). AreKeys g q.keys) (client_requested a qs out)
  client_requested_in a [] qs v h = h
  client_requested_in a (Send m ∷ is) qs v h = client_requested_in a is qs v.1 h
  client_requested_in a (Gather p n ks ∷ is) qs v h = client_requested_in a is _ v.1 (parcels_with g (record { asker = a; peer = p; ask = n; keys = ks }) qs v.0 h)
