-- The scheduler's messages list no more keys than there are.
use Rattle.std.proofs.Common.{◌≡◌, ℕ, zero, suc, ◌+◌, ◌<◌, ◌≤◌, Bool, true, false, ◌&&◌, List, [], ◌∷◌, length, Option, Some, None, refl, sym, ap, ◌∙◌, subst, arith, cond, filter, get_or}
use Rattle.std.specs.Prelude.{◌==◌, nat_le, filter_map}
use Rattle.std.specs.List.{cons_option, AllByRecursion}
use Rattle.std.specs.List.Sorted.{IsStrictlyIncreasing}
use Rattle.std.proofs.lemmas.Bool.{ltb-true}
use Rattle.small_facts.proofs.Every.{all_join, all_below_at}
use Rattle.small_facts.proofs.Lists.{filter_fewer}
use Rattle.cluster_msgs.specs.Shape.{Shape, IsShape, key_count, deps_of}
use Rattle.cluster_msgs.specs.declared.messages.Down.{Down}
use Rattle.cluster_msgs.specs.declared.messages.Down.TheVariants.{ComputeTask, StealRequest, RemoveReplicas, AcquireReplicas, RefreshWhoHas}
use Rattle.cluster_msgs.specs.declared.messages.Up.TheVariants.{TaskFinished, TaskErred, AddKeys, ReleaseWorkerData, MissingData, RequestRefreshWhoHas, StealResponse}
use Rattle.cluster_msgs.specs.declared.messages.FromClient.TheVariants.{Want as WantMessage, Release as ReleaseMessage, Missing as MissingMessage}
use Rattle.cluster_msgs.specs.declared.cores.Steal.{Steal}
use Rattle.cluster_msgs.specs.declared.cores.SchedEvent.{SchedEvent}
use Rattle.cluster_msgs.specs.declared.cores.SchedEvent.TheVariants.{Join, Leave, FromWorker, FromClient, Balance, Evict, Replicate}
use Rattle.cluster_rules.specs.Functions.{put_pair}
use Rattle.cluster_rules.specs.Derived.{below}
use Rattle.cluster_rules.specs.Sched.{Facts, Setting, keys, deps, holds, held, is_on, workers, who_has}
use Rattle.cluster_rules.specs.Policies.{next_steal, next_drop}
use Rattle.cluster_rules.specs.SchedTable.{Changed, plain, add_key, add_keys, is_copy, lost_copy, nothing_freed, ask_message, balanced, evicted, change}
use Rattle.cluster_rules.specs.SchedStep.{settle, lost, lost_keys, free_message, task_message, task_messages, to_worker, down_messages, posted, mail, finish_step, sched_step}
use Rattle.cluster_rules.specs.Inside.{IsKey, AreKeys}
use Rattle.cluster_rules.proofs.SchedFrame.{step_settles}
use Rattle.cluster_rules.proofs.InsideSched.{all_flat_map_in, all_always}
use Rattle.cluster_rules.proofs.InsideWorker.{all_map_in, keys_below}
use Rattle.quiet_measure.specs.Bounded.{down_length}
use Rattle.quiet_measure.proofs.Weighed.{length_keys}

-- a list that rises, of numbers below n, is no longer than n
at_least : (xs : List ℕ) → IsStrictlyIncreasing xs → (k : ℕ) → k < length xs → k ≤ get_or xs k 0
at_least xs h zero l = omega arith
at_least xs h (suc k) l =
    let a : k ≤ get_or xs k 0 = at_least xs h k (omega (arith, l)) in
    let b : get_or xs k 0 < get_or xs (k + 1) 0 = h k (omega (arith, l)) in
    let e : get_or xs (k + 1) 0 ≡ get_or xs (suc k) 0 = ap (λ i. get_or xs i 0) (omega arith) in
    omega arith

rising_short : (xs : List ℕ) (n : ℕ) → IsStrictlyIncreasing xs → AllByRecursion (λ d. d < n) xs → length xs ≤ n
rising_short xs n h a = by (length xs) refl
  where
    by : (m : ℕ) → length xs ≡ m → length xs ≤ n
    by zero e = omega (arith, e)
    by (suc m) e =
        let x : m ≤ get_or xs m 0 = at_least xs h m (omega (arith, e)) in
        let y : get_or xs m 0 < n = all_below_at xs n m a (omega (arith, e)) in
        omega (arith, e)

module _ (g : Shape) (low : IsShape g) (n : ℕ) (one : 1 ≤ n) (few : key_count g ≤ n) where
  abbrev pub IsShort : Down → Type 0
  IsShort m = down_length m ≤ n

  abbrev AllShort : List Down → Type 0
  AllShort ms = AllByRecursion IsShort ms

  refresh_short : (h : Facts) (k : ℕ) (b : Bool) → AllShort (cond b (RefreshWhoHas (who_has h (k ∷ [])) ∷ []) [])
  unfolding who_has
  refresh_short h k true = (one, tt)
  refresh_short h k false = tt

  acquire_short : (h : Facts) (k : ℕ) (b : Bool) → AllShort (cond b (AcquireReplicas (who_has h (k ∷ [])) ∷ []) [])
  unfolding who_has
  acquire_short h k true = (one, tt)
  acquire_short h k false = tt

  add_key_short : (h : Facts) (u w seen : ℕ) (c : Changed) (k : ℕ) → AllShort (c.answer h u) → AllShort ((add_key w seen c k).answer h u)
  add_key_short h u w seen c k r = by (nat_le (c.facts.fence w k) seen) (holds c.facts w k) (held c.facts k) (is_on c.facts w k)
    where
      by : (a b d e : Bool) → AllShort ((cond a (cond b c (cond d (record c { facts = record c.facts { has = put_pair c.facts.has w k (Some c.facts.counter); counter = c.facts.counter + 1 } }) (cond e c (record c { freed = put_pair c.freed w k true })))) c).answer h u)
      by false b d e = r
      by true true d e = r
      by true false true e = r
      by true false false true = r
      by true false false false = r

  add_keys_short : (h : Facts) (u w seen : ℕ) (c : Changed) (ks : List ℕ) → AllShort (c.answer h u) → AllShort ((add_keys w seen c ks).answer h u)
  add_keys_short h u w seen c [] r = r
  add_keys_short h u w seen c (k ∷ ks) r = add_keys_short h u w seen (add_key w seen c k) ks (add_key_short h u w seen c k r)

  lost_copy_short : (h : Facts) (u : ℕ) (f : Facts) (x k c : ℕ) → AllShort ((lost_copy f x k c).answer h u)
  unfolding lost_copy
  lost_copy_short h u f x k c = pick (is_copy c (f.has x k))
    where
      pick : (b : Bool) → AllShort ((cond b (record (plain (record f { has = put_pair f.has x k None })) { freed = put_pair nothing_freed x k true }) (plain f)).answer h u)
      pick true = tt
      pick false = tt

  asked_short : (k : ℕ) (o : Option (ℕ × ℕ)) (w : ℕ) → AllShort (ask_message k o w)
  asked_short k None w = tt
  asked_short k (Some p) w = pick (p.0 == w)
    where
      pick : (b : Bool) → AllShort (cond b (StealRequest k p.1 ∷ []) [])
      pick true = (omega arith, tt)
      pick false = tt

  balance_short : (h : Facts) (u : ℕ) (f : Facts) (o : Option Steal) → AllShort ((balanced f o).answer h u)
  balance_short h u f None = tt
  balance_short h u f (Some c) = asked_short c.key (f.on c.key) u

  evict_short : (h : Facts) (u : ℕ) (f : Facts) (o : Option (ℕ × ℕ)) → AllShort ((evicted f o).answer h u)
  evict_short h u f None = tt
  evict_short h u f (Some p) = pick (u == p.0)
    where
      pick : (b : Bool) → AllShort (cond b (RemoveReplicas (p.1 ∷ []) ∷ []) [])
      pick true = (one, tt)
      pick false = tt

  answer_short : (f : Facts) (e : SchedEvent) (h : Facts) (u : ℕ) → AllShort ((change f e).answer h u)
  answer_short f (Join threads) h u = tt
  answer_short f (Leave w) h u = tt
  answer_short f (FromWorker w (TaskFinished seen k a)) h u = tt
  answer_short f (FromWorker w (TaskErred seen k a)) h u = tt
  answer_short f (FromWorker w (AddKeys seen ks)) h u = add_keys_short h u w seen (plain f) ks tt
  answer_short f (FromWorker w (ReleaseWorkerData seen k)) h u = tt
  answer_short f (FromWorker w (MissingData seen k x c)) h u = refresh_short h k (u == w)
  answer_short f (FromWorker w (RequestRefreshWhoHas seen k)) h u = refresh_short h k (u == w)
  answer_short f (FromWorker w (StealResponse seen k a agreed)) h u = tt
  answer_short f (FromClient c (WantMessage ks)) h u = tt
  answer_short f (FromClient c (ReleaseMessage ks)) h u = tt
  answer_short f (FromClient c (MissingMessage k x copy)) h u = lost_copy_short h u f x k copy
  answer_short f Balance h u = balance_short h u f (next_steal f)
  answer_short f Evict h u = evict_short h u f (next_drop f)
  answer_short f (Replicate k w) h u = acquire_short h k (u == w)

  abbrev AllMailShort : List (ℕ × Down) → Type 0
  AllMailShort ms = AllByRecursion (λ (m : ℕ × Down). IsShort m.1) ms

  free_short : (w : ℕ) (ks : List ℕ) → length ks ≤ n → AllMailShort (free_message w ks)
  free_short w [] l = tt
  free_short w (k ∷ ks) l = (l, tt)

  who_length : (f : Facts) (ks : List ℕ) → length (who_has f ks) ≡ length ks
  unfolding who_has
  who_length f [] = refl
  who_length f (k ∷ ks) = ap (λ m. suc m) (who_length f ks)

  task_short : (f : Facts) → f.setting.shape ≡ g → (since w k : ℕ) → IsKey g k → (o : Option (ℕ × ℕ)) (ms : List (ℕ × Down)) → AllMailShort ms → AllMailShort (cons_option (task_message f since w k o) ms)
  task_short f s since w k v None ms r = r
  task_short f s since w k v (Some p) ms r = pick (p.0 == w && nat_le since p.1)
    where
      short : length (who_has f (deps f k)) ≤ n
      short =
          let a : length (who_has f (deps f k)) ≡ length (deps f k) = who_length f (deps f k) in
          let b : length (deps f k) ≡ length (deps_of g k) = ap (λ (x : Shape). length (deps_of x k)) s in
          let c : length (deps_of g k) ≤ k = rising_short (deps_of g k) k (low.rising k) (low.below k) in
          let d : k < key_count g = ltb-true k (key_count g) v in
          omega (arith, a, b, c, d, few)

      pick : (b : Bool) → AllMailShort (cons_option (cond b (Some (w, ComputeTask k p.1 (who_has f (deps f k)))) None) ms)
      pick true = (short, r)
      pick false = r

  tasks_short : (f : Facts) → f.setting.shape ≡ g → (since w : ℕ) (ks : List ℕ) → AreKeys g ks → AllMailShort (filter_map (λ k. task_message f since w k (f.on k)) ks)
  tasks_short f s since w [] v = tt
  tasks_short f s since w (k ∷ ks) v = task_short f s since w k v.0 (f.on k) _ (tasks_short f s since w ks v.1)

  all_keys : (f : Facts) → f.setting.shape ≡ g → AreKeys g (below (keys f))
  all_keys f s = subst (λ (x : Shape). AreKeys g (below (key_count x))) (sym s) (keys_below g)

  lost_short : (f : Facts) → f.setting.shape ≡ g → (t : ℕ → Bool) → length (filter t (below (keys f))) ≤ n
  lost_short f s t =
      let a : length (filter t (below (keys f))) ≤ length (below (keys f)) = filter_fewer t (below (keys f)) in
      let b : keys f ≡ key_count g = ap key_count s in
      omega (arith, a, b, length_keys (keys f), few)

  pub down_short : (f : Facts) (e : SchedEvent) → f.setting.shape ≡ g → (change f e).facts.setting ≡ f.setting → AllMailShort (sched_step f e).down
  unfolding sched_step finish_step posted down_messages to_worker task_messages settle
  down_short f e s c =
      let t = settle f (change f e) in
      let placed : t.placed.setting.shape ≡ g = ap (λ (x : Setting). x.shape) ((step_settles f e).setting ∙ c) ∙ s in
      all_flat_map_in (λ (m : ℕ × Down). IsShort m.1) _ (workers t.placed) (all_always _ (λ w. all_join (λ (m : ℕ × Down). IsShort m.1) (free_message w (lost_keys t w)) _ (free_short w (lost_keys t w) (lost_short f s (lost t w)))
      (all_join (λ (m : ℕ × Down). IsShort m.1) (filter_map (λ k. task_message t.placed t.before.counter w k (t.placed.on k)) (below (keys t.placed))) _ (tasks_short t.placed placed t.before.counter w (below (keys t.placed)) (all_keys t.placed placed))
      (all_map_in (λ (m : ℕ × Down). IsShort m.1) (λ m. (w, m)) (t.changed.answer t.placed w) (answer_short f e t.placed w)))) (workers t.placed))

  pub mail_short : (w : ℕ) (ms : List (ℕ × Down)) → AllMailShort ms → AllShort (mail w ms)
  mail_short w [] h = tt
  mail_short w (m ∷ ms) h = pick (m.0 == w) (mail_short w ms h.1)
    where
      pick : (b : Bool) → AllShort (mail w ms) → AllShort (cond b (m.1 ∷ mail w ms) (mail w ms))
      pick true r = (h.0, r)
      pick false r = r
