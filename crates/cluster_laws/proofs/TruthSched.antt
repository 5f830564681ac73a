-- The scheduler's errors are of faulty keys, and so is each failure that it tells a client. A client's steps keep what is true of it.
use Rattle.std.proofs.Common.{◌≡◌, inl, inr, ◌⊎◌, ◌||◌, ℕ, zero, suc, ◌+◌, Bool, true, false, not, ◌&&◌, List, [], ◌∷◌, Option, Some, None, refl, sym, ◌∙◌, subst, cond, filter, fold}
use Rattle.std.specs.Prelude.{◌==◌, nat_le, option_map, filter_map, flat_map}
use Rattle.std.specs.List.{list_any, cons_option, AllByRecursion}
use Rattle.std.proofs.lemmas.Bool.{and_parts, or_cases}
use Rattle.std.proofs.lemmas.Option.{none-some, same_Some}
use Rattle.small_facts.proofs.Every.{all_join}
use Rattle.cluster_msgs.specs.Dags.{IsEarlier}
use Rattle.cluster_msgs.specs.Values.{cone}
use Rattle.cluster_msgs.specs.Shape.{IsShape, deps_of}
use Rattle.cluster_msgs.specs.declared.messages.Up.TheVariants.{TaskFinished, TaskErred, AddKeys, ReleaseWorkerData, MissingData, RequestRefreshWhoHas, StealResponse}
use Rattle.cluster_msgs.specs.declared.messages.ToClient.{ToClient}
use Rattle.cluster_msgs.specs.declared.messages.ToClient.TheVariants.{KeyInMemory, LostData, ClientTaskErred}
use Rattle.cluster_msgs.specs.declared.messages.FromClient.TheVariants.{Want as WantMessage, Release as ReleaseMessage, Missing as MissingMessage}
use Rattle.cluster_msgs.specs.declared.cores.Steal.{Steal}
use Rattle.cluster_msgs.specs.declared.cores.SchedEvent.{SchedEvent}
use Rattle.cluster_msgs.specs.declared.cores.SchedEvent.TheVariants.{Join, Leave, FromWorker, FromClient, Balance, Evict, Replicate}
use Rattle.cluster_msgs.specs.declared.cores.ClientEvent.{ClientEvent}
use Rattle.cluster_msgs.specs.declared.cores.ClientEvent.TheVariants.{Want, Release, FromScheduler, Ask as ClientAsk, Gathered as ClientGathered, GatherFailed as ClientGatherFailed}
use Rattle.cluster_rules.proofs.BlameLemmas.{blame_below}
use Rattle.cluster_rules.specs.Functions.{put, put_pair, from_one}
use Rattle.cluster_rules.specs.Derived.{below, is_in}
use Rattle.cluster_rules.specs.Sched.{Setting, Facts, keys, deps, connected, holds, held, erred, is_on, is_above, known, holders, blame}
use Rattle.cluster_rules.specs.Policies.{next_steal, next_drop}
use Rattle.cluster_rules.specs.SchedTable.{Changed, plain, joined, left, is_this, finished, failed, add_key, add_keys, released, is_copy, lost_copy, is_asked_back, stolen_to, refused, answered, wants_more, wants_less, balanced, evicted, nothing_freed, change}
use Rattle.cluster_rules.specs.SchedStep.{Stages, settle, was_held, was_erred, client_message, to_clients, tells_held, reply_message, client_messages, posted, finish_step, sched_step}
use Rattle.cluster_rules.specs.Worker.{Ask, ask_to, without_ask}
use Rattle.cluster_rules.specs.WorkerStep.{keys_of}
use Rattle.cluster_rules.specs.Client.{ClientFacts, client_wants, client_releases, hears, hear, client_ask, client_gets, client_misses, client_answered, client_gathered_by, client_gathered, keeps_still, client_step}
use Rattle.cluster_rules.specs.World.{Job}
use Rattle.cluster_rules.specs.WorldStep.{letters}
use Rattle.cluster_rules.proofs.SchedFrame.{step_settles}
use Rattle.cluster_laws.specs.Truth.{faulty_key, IsKilledBy, MayErr, IsBlame, AreValued, IsTrueNews, IsTrueSched, IsTrueClient, IsTrueClientEvent, IsTrueSchedEvent}
use Rattle.cluster_rules.proofs.WorkerLemmas.{at_one}
use Rattle.cluster_laws.proofs.TruthWorker.{kept_valued}

module _ (excused : ℕ → Type 0) (j : Job) where
  -- rows that leave the errors alone
  same : (f : Facts) → IsTrueSched excused j f → (b : Bool) (g : Facts) → IsTrueSched excused j g → IsTrueSched excused j (cond b g f)
  same f h true g r = r
  same f h false g r = h

  true_failed : (f : Facts) (w k a : ℕ) → faulty_key j k ≡ true → IsTrueSched excused j f → IsTrueSched excused j (failed f w k a)
  unfolding failed
  true_failed f w k a z h = same f h (is_this w a (f.on k)) _ (record { setting = h.setting; bad = at_one k (λ b x. cond b true (f.bad x) ≡ true → MayErr excused j x) (λ e. inl z) h.bad })

  true_finished : (f : Facts) (w k a : ℕ) → IsTrueSched excused j f → IsTrueSched excused j (finished f w k a)
  unfolding finished
  true_finished f w k a h = same f h (is_this w a (f.on k)) _ (record { setting = h.setting; bad = h.bad })

  true_add_key : (w seen : ℕ) (g : Changed) (k : ℕ) → IsTrueSched excused j g.facts → IsTrueSched excused j (add_key w seen g k).facts
  true_add_key w seen g k h = by (nat_le (g.facts.fence w k) seen) (holds g.facts w k) (held g.facts k) (is_on g.facts w k)
    where
      by : (a b c d : Bool) → IsTrueSched excused j (cond a (cond b g (cond c (record g { facts = record g.facts { has = put_pair g.facts.has w k (Some g.facts.counter); counter = g.facts.counter + 1 } }) (cond d g (record g { freed = put_pair g.freed w k true })))) g).facts
      by false b c d = h
      by true true c d = h
      by true false true d = record { setting = h.setting; bad = h.bad }
      by true false false true = h
      by true false false false = h

  true_add_keys : (w seen : ℕ) (g : Changed) (ks : List ℕ) → IsTrueSched excused j g.facts → IsTrueSched excused j (add_keys w seen g ks).facts
  true_add_keys w seen g [] h = h
  true_add_keys w seen g (k ∷ ks) h = true_add_keys w seen (add_key w seen g k) ks (true_add_key w seen g k h)

  true_released : (f : Facts) (w seen k : ℕ) → IsTrueSched excused j f → IsTrueSched excused j (released f w seen k)
  unfolding released
  true_released f w seen k h = same f h (nat_le (f.fence w k) seen) _ (record { setting = h.setting; bad = h.bad })

  true_lost_copy : (f : Facts) (x k c : ℕ) → IsTrueSched excused j f → IsTrueSched excused j (lost_copy f x k c).facts
  unfolding lost_copy
  true_lost_copy f x k c h = pick (is_copy c (f.has x k))
    where
      pick : (b : Bool) → IsTrueSched excused j (cond b (record (plain (record f { has = put_pair f.has x k None })) { freed = put_pair nothing_freed x k true }) (plain f)).facts
      pick true = record { setting = h.setting; bad = h.bad }
      pick false = h

  true_stolen : (f : Facts) (k : ℕ) (o : Option (ℕ × Bool)) → IsTrueSched excused j f → IsTrueSched excused j (stolen_to f k o)
  true_stolen f k None h = h
  true_stolen f k (Some p) h = pick (connected f p.0)
    where
      pick : (b : Bool) → IsTrueSched excused j (cond b (record f { on = put f.on k (Some (p.0, f.counter)); steal = put f.steal k None; counter = f.counter + 1 }) (record f { on = put f.on k None; steal = put f.steal k None }))
      pick true = record { setting = h.setting; bad = h.bad }
      pick false = record { setting = h.setting; bad = h.bad }

  true_answered : (f : Facts) (w k a : ℕ) (agreed : Bool) → IsTrueSched excused j f → IsTrueSched excused j (answered f w k a agreed)
  unfolding answered
  true_answered f w k a agreed h = same f h (is_this w a (f.on k) && is_asked_back (f.steal k)) _ (pick agreed)
    where
      pick : (b : Bool) → IsTrueSched excused j (cond b (stolen_to f k (f.steal k)) (record f { steal = put f.steal k (refused (f.steal k)) }))
      pick true = true_stolen f k (f.steal k) h
      pick false = record { setting = h.setting; bad = h.bad }

  true_balanced : (f : Facts) (o : Option Steal) → IsTrueSched excused j f → IsTrueSched excused j (balanced f o).facts
  true_balanced f None h = h
  true_balanced f (Some c) h = record { setting = h.setting; bad = h.bad }

  true_evicted : (f : Facts) (o : Option (ℕ × ℕ)) → IsTrueSched excused j f → IsTrueSched excused j (evicted f o).facts
  true_evicted f None h = h
  true_evicted f (Some p) h = record { setting = h.setting; bad = h.bad }

  -- what an event's own change has to keep: a key that is not known loses its error in settling
  record Changes (g : Facts) : Type 0 where
    setting : g.setting ≡ j.setting
    bad : (k : ℕ) → known g k ≡ true → g.bad k ≡ true → MayErr excused j k

  from_true : (g : Facts) → IsTrueSched excused j g → Changes g
  from_true g h = record { setting = h.setting; bad = λ k n b. h.bad k b }

  -- whoever leaves, each key that is killed by it is excused
  abbrev pub IsExcusing : Facts → SchedEvent → Type 0
  IsExcusing f e = (i k : ℕ) → e ≡ Leave i → IsKilledBy f i k → excused k

  bad_left : (f : Facts) (w k : ℕ) → (left f w).bad k ≡ true → (f.bad k || (is_on f w k && is_above f.setting.allowed (f.losses k + 1))) ≡ true
  unfolding left
  bad_left f w k b = b

  setting_left : (f : Facts) (w : ℕ) → (left f w).setting ≡ f.setting
  unfolding left
  setting_left f w = refl

  true_left : (f : Facts) (w : ℕ) → IsExcusing f (Leave w) → IsTrueSched excused j f → Changes (left f w)
  true_left f w x h = record { setting = setting_left f w ∙ h.setting; bad = λ k n b. by k n (or_cases (f.bad k) (is_on f w k && is_above f.setting.allowed (f.losses k + 1)) (bad_left f w k b)) }
    where
      by : (k : ℕ) → known (left f w) k ≡ true → (f.bad k ≡ true) ⊎ ((is_on f w k && is_above f.setting.allowed (f.losses k + 1)) ≡ true) → MayErr excused j k
      by k n (inl b) = h.bad k b
      by k n (inr b) = let q = and_parts (is_on f w k) (is_above f.setting.allowed (f.losses k + 1)) b in inr (x w k refl (record { on = q.0; above = q.1; known = n }))

  true_joined : (f : Facts) (threads : ℕ) → IsTrueSched excused j f → IsTrueSched excused j (joined f threads)
  unfolding joined
  true_joined f threads h = record { setting = h.setting; bad = h.bad }

  true_wants : (f : Facts) (c : ℕ) (ks : List ℕ) → IsTrueSched excused j f → IsTrueSched excused j (wants_more f c ks)
  unfolding wants_more
  true_wants f c ks h = record { setting = h.setting; bad = h.bad }

  true_releases : (f : Facts) (c : ℕ) (ks : List ℕ) → IsTrueSched excused j f → IsTrueSched excused j (wants_less f c ks)
  unfolding wants_less
  true_releases f c ks h = record { setting = h.setting; bad = h.bad }

  true_change : (f : Facts) (e : SchedEvent) → IsExcusing f e → IsTrueSchedEvent j e → IsTrueSched excused j f → Changes (change f e).facts
  true_change f (Join threads) x t h = from_true _ (true_joined f threads h)
  true_change f (Leave w) x t h = true_left f w x h
  true_change f (FromWorker w (TaskFinished seen k a)) x t h = from_true _ (true_finished f w k a h)
  true_change f (FromWorker w (TaskErred seen k a)) x t h = from_true _ (true_failed f w k a t h)
  true_change f (FromWorker w (AddKeys seen ks)) x t h = from_true _ (true_add_keys w seen (plain f) ks h)
  true_change f (FromWorker w (ReleaseWorkerData seen k)) x t h = from_true _ (true_released f w seen k h)
  true_change f (FromWorker w (MissingData seen k y c)) x t h = from_true _ (true_lost_copy f y k c h)
  true_change f (FromWorker w (RequestRefreshWhoHas seen k)) x t h = from_true _ h
  true_change f (FromWorker w (StealResponse seen k a agreed)) x t h = from_true _ (true_answered f w k a agreed h)
  true_change f (FromClient c (WantMessage ks)) x t h = from_true _ (true_wants f c ks h)
  true_change f (FromClient c (ReleaseMessage ks)) x t h = from_true _ (true_releases f c ks h)
  true_change f (FromClient c (MissingMessage k y copy)) x t h = from_true _ (true_lost_copy f y k copy h)
  true_change f Balance x t h = from_true _ (true_balanced f (next_steal f) h)
  true_change f Evict x t h = from_true _ (true_evicted f (next_drop f) h)
  true_change f (Replicate k w) x t h = from_true _ h

  pub true_sched_step : (f : Facts) (e : SchedEvent) → IsExcusing f e → IsTrueSchedEvent j e → IsTrueSched excused j f → IsTrueSched excused j (sched_step f e).facts
  true_sched_step f e x t h =
      let c = true_change f e x t h in
      let s = step_settles f e in
      record { setting = s.setting ∙ c.setting; bad = λ k b. let q = s.bad k b in c.bad k q.0 q.1 }

  -- what a failure is blamed on
  blame_true : (f : Facts) → IsShape j.setting.shape → IsTrueSched excused j f → (k b : ℕ) → blame f k ≡ Some b → IsBlame excused j k b
  unfolding blame
  blame_true f g h k b e =
      let low : IsEarlier (deps f) = subst (λ (s : Setting). IsEarlier (deps_of s.shape)) (sym h.setting) (record { below = g.below }) in
      let r = blame_below f low (suc k) k b e in
      record { fault = h.bad b r.0; within = subst (λ (s : Setting). cone (deps_of s.shape) k b ≡ true) h.setting r.1 }

  -- what the clients are told
  abbrev AllTrue : List (ℕ × ToClient) → Type 0
  AllTrue ms = AllByRecursion (λ m. IsTrueNews excused j m.1) ms

  true_message : (t : Stages) → IsShape j.setting.shape → IsTrueSched excused j t.placed → (c k : ℕ) (ms : List (ℕ × ToClient)) → AllTrue ms → AllTrue (cons_option (client_message t c k) ms)
  true_message t g h c k ms r = by (t.placed.want c k) (erred t.placed k && not (was_erred t k)) (held t.placed k && not (was_held t k)) (was_held t k && not (held t.placed k)) (blame t.placed k) refl
    where
      by : (p q u v : Bool) (o : Option ℕ) → blame t.placed k ≡ o → AllTrue (cons_option (cond (not p) None (cond q (option_map (λ b. (c, ClientTaskErred k b)) o) (cond u (Some (c, KeyInMemory k (holders t.placed k))) (cond v (Some (c, LostData k)) None)))) ms)
      by false q u v o e = r
      by true true u v None e = r
      by true true u v (Some b) e = (blame_true t.placed g h k b e, r)
      by true false true v o e = (tt, r)
      by true false false true o e = (tt, r)
      by true false false false o e = r

  true_messages : (t : Stages) → IsShape j.setting.shape → IsTrueSched excused j t.placed → (c : ℕ) (ks : List ℕ) → AllTrue (filter_map (client_message t c) ks)
  true_messages t g h c [] = tt
  true_messages t g h c (k ∷ ks) = true_message t g h c k _ (true_messages t g h c ks)

  true_to_clients : (t : Stages) → IsShape j.setting.shape → IsTrueSched excused j t.placed → (ks cs : List ℕ) → AllTrue (flat_map (λ c. filter_map (client_message t c) ks) cs)
  true_to_clients t g h ks [] = tt
  true_to_clients t g h ks (c ∷ cs) = all_join (λ m. IsTrueNews excused j m.1) (filter_map (client_message t c) ks) _ (true_messages t g h c ks) (true_to_clients t g h ks cs)

  true_reply : (t : Stages) (ms : List (ℕ × ToClient)) (o : Option (ℕ × ℕ)) → AllTrue (reply_message t ms o)
  true_reply t ms None = tt
  true_reply t ms (Some p) = pick (held t.placed p.1 && not (list_any (tells_held p.0 p.1) ms))
    where
      pick : (b : Bool) → AllTrue (cond b ((p.0, KeyInMemory p.1 (holders t.placed p.1)) ∷ []) [])
      pick true = (tt, tt)
      pick false = tt

  pub true_news : (f : Facts) (e : SchedEvent) → IsShape j.setting.shape → IsExcusing f e → IsTrueSchedEvent j e → IsTrueSched excused j f → AllByRecursion (λ m. IsTrueNews excused j m.1) (sched_step f e).clients
  unfolding sched_step finish_step posted client_messages to_clients
  true_news f e g x t h =
      let s = true_sched_step f e x t h in
      let p : IsTrueSched excused j (settle f (change f e)).placed = record { setting = s.setting; bad = s.bad } in
      all_join (λ m. IsTrueNews excused j m.1) _ (reply_message (settle f (change f e)) (to_clients (settle f (change f e))) (settle f (change f e)).changed.reply) (true_to_clients (settle f (change f e)) g p (below (keys (settle f (change f e)).before)) (from_one (settle f (change f e)).before.setting.clients)) (true_reply (settle f (change f e)) (to_clients (settle f (change f e))) (settle f (change f e)).changed.reply)

  pub letters_true : (c : ℕ) (ms : List (ℕ × ToClient)) → AllByRecursion (λ m. IsTrueNews excused j m.1) ms → AllByRecursion (IsTrueNews excused j) (letters c ms)
  letters_true c [] h = tt
  letters_true c (m ∷ ms) h = pick (m.0 == c) (letters_true c ms h.1)
    where
      pick : (b : Bool) → AllByRecursion (IsTrueNews excused j) (letters c ms) → AllByRecursion (IsTrueNews excused j) (cond b (m.1 ∷ letters c ms) (letters c ms))
      pick true r = (h.0, r)
      pick false r = r

  -- a client
  true_hears : (c : ClientFacts) (k : ℕ) (d : ClientFacts) → IsTrueClient excused j d → IsTrueClient excused j c → IsTrueClient excused j (hears c k d)
  true_hears c k d r h = pick (c.wants k && not (c.got k))
    where
      pick : (b : Bool) → IsTrueClient excused j (cond b d c)
      pick true = r
      pick false = h

  true_hear : (c : ClientFacts) (m : ToClient) → IsTrueNews excused j m → IsTrueClient excused j c → IsTrueClient excused j (hear c m)
  unfolding hear
  true_hear c (KeyInMemory k hs) t h = true_hears c k _ (record { got = h.got; failed = h.failed }) h
  true_hear c (LostData k) t h = record { got = h.got; failed = h.failed }
  true_hear c (ClientTaskErred k b) t h = true_hears c k _ (record { got = h.got; failed = at_one k (λ x y. (d : ℕ) → cond x (Some b) (c.failed y) ≡ Some d → IsBlame excused j y d) (λ d e. subst (λ z. IsBlame excused j k z) (same_Some b d e) t) h.failed }) h

  true_gets : (ks : List ℕ) (c : ClientFacts) → AreValued j ks → IsTrueClient excused j c → IsTrueClient excused j (fold client_gets c ks)
  true_gets [] c v h = h
  true_gets (k ∷ ks) c v h = true_gets ks (client_gets c k) v.1 (pick (c.wants k))
    where
      pick : (b : Bool) → IsTrueClient excused j (cond b (record c { got = put c.got k true; located = put c.located k [] }) c)
      pick true = record { got = at_one k (λ x y. cond x true (c.got y) ≡ true → j.zero y ≡ false) (λ e. v.0) h.got; failed = h.failed }
      pick false = h

  true_misses : (is : List (ℕ × ℕ)) (c : ClientFacts) → IsTrueClient excused j c → IsTrueClient excused j (fold client_misses c is)
  true_misses [] c h = h
  true_misses (i ∷ is) c h = true_misses is (client_misses c i) (record { got = h.got; failed = h.failed })

  true_client_gathered : (c : ClientFacts) (p n : ℕ) (found : List ℕ) → AreValued j found → IsTrueClient excused j c → IsTrueClient excused j (client_gathered c p n found).facts
  unfolding client_gathered
  true_client_gathered c p n found v h = pick (ask_to c.asks p)
    where
      over : (a : Ask) (b : Bool) → IsTrueClient excused j (cond b (client_answered (record c { asks = without_ask c.asks p }) p (keys_of (filter (λ i. is_in i.0 found) a.items)) (filter (λ i. not (is_in i.0 found)) a.items)) (keeps_still c)).facts
      over a true = true_misses (filter (λ i. not (is_in i.0 found)) a.items) _ (true_gets _ (record c { asks = without_ask c.asks p }) (kept_valued j found v a.items) (record { got = h.got; failed = h.failed }))
      over a false = h

      pick : (o : Option Ask) → IsTrueClient excused j (client_gathered_by c p n found o).facts
      pick None = h
      pick (Some a) = over a (a.number == n)

  true_release : (c : ClientFacts) (ks : List ℕ) → IsTrueClient excused j c → IsTrueClient excused j (client_releases c ks).facts
  unfolding client_releases
  true_release c ks h = record { got = λ k e. h.got k (and_parts (c.got k) (not (is_in k ks)) e).0; failed = λ k b e. kept k b (is_in k ks) e }
    where
      kept : (k b : ℕ) (x : Bool) → cond x None (c.failed k) ≡ Some b → IsBlame excused j k b
      kept k b true e = absurd (none-some b e)
      kept k b false e = h.failed k b e

  pub true_client_step : (c : ClientFacts) (e : ClientEvent) → IsTrueClientEvent excused j e → IsTrueClient excused j c → IsTrueClient excused j (client_step c e).facts
  unfolding client_step client_wants client_ask
  true_client_step c (Want ks) t h = record { got = h.got; failed = h.failed }
  true_client_step c (Release ks) t h = true_release c ks h
  true_client_step c (FromScheduler m) t h = true_hear c m t h
  true_client_step c (ClientAsk p) t h = record { got = h.got; failed = h.failed }
  true_client_step c (ClientGathered p n found) t h = true_client_gathered c p n found t h
  true_client_step c (ClientGatherFailed p n) t h = true_client_gathered c p n [] tt h
