-- The scheduler's answers name others, where the worker asked truly.
use Rattle.std.proofs.Common.{◌≡◌, ℕ, ◌+◌, Bool, true, false, ◌&&◌, ◌||◌, List, [], ◌∷◌, Option, Some, None, refl, sym, ap, ◌∙◌, cond, map, is_some}
use Rattle.std.specs.Prelude.{◌==◌, nat_le, filter_map, option_map}
use Rattle.std.specs.List.{cons_option, AllByRecursion, list_any}
use Rattle.std.proofs.lemmas.Bool.{false≢true, eqb-true, false_from_ne_true, eq-eqb}
use Rattle.std.proofs.lemmas.Option.{none-some}
use Rattle.std.proofs.Math.Dec.{eqb}
use Rattle.small_facts.proofs.Every.{all_join}
use Rattle.cluster_msgs.specs.declared.messages.Down.{Down}
use Rattle.cluster_msgs.specs.declared.messages.Down.TheVariants.{ComputeTask, StealRequest, RemoveReplicas, AcquireReplicas, RefreshWhoHas}
use Rattle.cluster_msgs.specs.declared.messages.Up.TheVariants.{TaskFinished, TaskErred, AddKeys, ReleaseWorkerData, MissingData, RequestRefreshWhoHas, StealResponse}
use Rattle.cluster_msgs.specs.declared.messages.FromClient.TheVariants.{Want as WantMessage, Release as ReleaseMessage, Missing as MissingMessage}
use Rattle.cluster_msgs.specs.declared.cores.Steal.{Steal}
use Rattle.cluster_msgs.specs.declared.cores.SchedEvent.{SchedEvent}
use Rattle.cluster_msgs.specs.declared.cores.SchedEvent.TheVariants.{Join, Leave, FromWorker, FromClient, Balance, Evict, Replicate}
use Rattle.cluster_rules.specs.Functions.{put_pair, from_one}
use Rattle.cluster_rules.specs.Derived.{below}
use Rattle.cluster_rules.specs.Sched.{Facts, keys, deps, holds, held, is_on, workers, holders, who_has}
use Rattle.cluster_rules.specs.Policies.{next_steal, next_drop}
use Rattle.cluster_rules.specs.SchedTable.{Changed, plain, add_key, add_keys, is_copy, lost_copy, nothing_freed, ask_message, balanced, evicted, change}
use Rattle.cluster_rules.specs.SchedStep.{settle, lost_keys, free_message, task_message, task_messages, to_worker, down_messages, posted, mail, finish_step, sched_step}
use Rattle.cluster_rules.proofs.SchedFrame.{settling}
use Rattle.cluster_rules.proofs.InsideSched.{all_flat_map_in, all_always}
use Rattle.safety_laws.specs.Lively.{questions}
use Rattle.quiet_measure.specs.Turns.{NamesOthers}

-- no holder is this worker
not_listed : (h : Facts) (i k : ℕ) → h.has i k ≡ None → (ws : List ℕ) → list_any (λ (x : ℕ × ℕ). eqb x.0 i) (filter_map (λ w. option_map (λ c. (w, c)) (h.has w k)) ws) ≡ false
not_listed h i k n [] = refl
not_listed h i k n (w ∷ ws) = by (h.has w k) refl (not_listed h i k n ws)
  where
    apart : (c : ℕ) → h.has w k ≡ Some c → eqb w i ≡ false
    apart c e = false_from_ne_true (eqb w i) (λ s. none-some c (sym n ∙ ap (λ x. h.has x k) (sym (eqb-true w i s)) ∙ e))

    by : (o : Option ℕ) → h.has w k ≡ o → list_any (λ (x : ℕ × ℕ). eqb x.0 i) (filter_map (λ w. option_map (λ c. (w, c)) (h.has w k)) ws) ≡ false
        → list_any (λ (x : ℕ × ℕ). eqb x.0 i) (cons_option (option_map (λ c. (w, c)) o) (filter_map (λ w. option_map (λ c. (w, c)) (h.has w k)) ws)) ≡ false
    by None e r = r
    by (Some c) e r = ap (λ b. b || list_any (λ (x : ℕ × ℕ). eqb x.0 i) (filter_map (λ w. option_map (λ c. (w, c)) (h.has w k)) ws)) (apart c e) ∙ r

module _ (f : Facts) (i : ℕ) where
  -- where the event is a question of this worker, it hasn't got the block
  abbrev pub AskedTruly : SchedEvent → Type 0
  AskedTruly (FromWorker v m) = v ≡ i → (q : ℕ) → questions q m ≡ true → holds f i q ≡ false
  AskedTruly (Join threads) = Unit {0}
  AskedTruly (Leave w) = Unit {0}
  AskedTruly (FromClient c m) = Unit {0}
  AskedTruly Balance = Unit {0}
  AskedTruly Evict = Unit {0}
  AskedTruly (Replicate k w) = Unit {0}

  abbrev AllOthers : List Down → Type 0
  AllOthers ms = AllByRecursion (NamesOthers i) ms

  -- what settles has no more copies
  abbrev NoMore : Changed → Facts → Type 0
  NoMore g h = (w k c : ℕ) → h.has w k ≡ Some c → g.facts.has w k ≡ Some c

  none_has : (h : Facts) (q : ℕ) → ((c : ℕ) → h.has i q ≡ Some c → f.has i q ≡ Some c) → holds f i q ≡ false → h.has i q ≡ None
  none_has h q m e = by (h.has i q) refl
    where
      by : (o : Option ℕ) → h.has i q ≡ o → o ≡ None
      by None z = refl
      by (Some c) z = absurd (false≢true (sym e ∙ ap is_some (m c z)))

  refreshed_others : (h : Facts) (u v q : ℕ) → u ≡ i → (v ≡ i → h.has i q ≡ None) → AllOthers (cond (u == v) (RefreshWhoHas (who_has h (q ∷ [])) ∷ []) [])
  unfolding who_has holders
  refreshed_others h u v q e n = by (eqb u v) refl
    where
      by : (b : Bool) → eqb u v ≡ b → AllOthers (cond b (RefreshWhoHas ((q, filter_map (λ w. option_map (λ c. (w, c)) (h.has w q)) (from_one h.last_worker)) ∷ []) ∷ []) [])
      by true s = ((not_listed h i q (n (sym (eqb-true u v s) ∙ e)) (from_one h.last_worker), tt), tt)
      by false s = tt

  acquired_others : (h : Facts) (k : ℕ) (b : Bool) → AllOthers (cond b (AcquireReplicas (who_has h (k ∷ [])) ∷ []) [])
  acquired_others h k true = (tt, tt)
  acquired_others h k false = tt

  add_key_others : (h : Facts) (u w seen : ℕ) (c : Changed) (k : ℕ) → AllOthers (c.answer h u) → AllOthers ((add_key w seen c k).answer h u)
  add_key_others h u w seen c k r = by (nat_le (c.facts.fence w k) seen) (holds c.facts w k) (held c.facts k) (is_on c.facts w k)
    where
      by : (a b d e : Bool) → AllOthers ((cond a (cond b c (cond d (record c { facts = record c.facts { has = put_pair c.facts.has w k (Some c.facts.counter); counter = c.facts.counter + 1 } }) (cond e c (record c { freed = put_pair c.freed w k true })))) c).answer h u)
      by false b d e = r
      by true true d e = r
      by true false true e = r
      by true false false true = r
      by true false false false = r

  add_keys_others : (h : Facts) (u w seen : ℕ) (c : Changed) (ks : List ℕ) → AllOthers (c.answer h u) → AllOthers ((add_keys w seen c ks).answer h u)
  add_keys_others h u w seen c [] r = r
  add_keys_others h u w seen c (k ∷ ks) r = add_keys_others h u w seen (add_key w seen c k) ks (add_key_others h u w seen c k r)

  lost_others : (h : Facts) (u x k c : ℕ) → AllOthers ((lost_copy f x k c).answer h u)
  unfolding lost_copy
  lost_others h u x k c = pick (is_copy c (f.has x k))
    where
      pick : (b : Bool) → AllOthers ((cond b (record (plain (record f { has = put_pair f.has x k None })) { freed = put_pair nothing_freed x k true }) (plain f)).answer h u)
      pick true = tt
      pick false = tt

  lost_has : (x k c w q d : ℕ) → (lost_copy f x k c).facts.has w q ≡ Some d → f.has w q ≡ Some d
  unfolding lost_copy
  lost_has x k c w q d = pick (is_copy c (f.has x k))
    where
      gone : (b : Bool) → cond b None (f.has w q) ≡ Some d → f.has w q ≡ Some d
      gone true e = absurd (none-some d e)
      gone false e = e

      pick : (b : Bool) → (cond b (record (plain (record f { has = put_pair f.has x k None })) { freed = put_pair nothing_freed x k true }) (plain f)).facts.has w q ≡ Some d → f.has w q ≡ Some d
      pick true e = gone (eqb w x && eqb q k) e
      pick false e = e

  asked_others : (k : ℕ) (o : Option (ℕ × ℕ)) (w : ℕ) → AllOthers (ask_message k o w)
  asked_others k None w = tt
  asked_others k (Some p) w = pick (p.0 == w)
    where
      pick : (b : Bool) → AllOthers (cond b (StealRequest k p.1 ∷ []) [])
      pick true = (tt, tt)
      pick false = tt

  balance_others : (h : Facts) (u : ℕ) (o : Option Steal) → AllOthers ((balanced f o).answer h u)
  balance_others h u None = tt
  balance_others h u (Some c) = asked_others c.key (f.on c.key) u

  evict_others : (h : Facts) (u : ℕ) (o : Option (ℕ × ℕ)) → AllOthers ((evicted f o).answer h u)
  evict_others h u None = tt
  evict_others h u (Some p) = pick (u == p.0)
    where
      pick : (b : Bool) → AllOthers (cond b (RemoveReplicas (p.1 ∷ []) ∷ []) [])
      pick true = (tt, tt)
      pick false = tt

  answer_others : (e : SchedEvent) (h : Facts) → NoMore (change f e) h → AskedTruly e → (u : ℕ) → u ≡ i → AllOthers ((change f e).answer h u)
  answer_others (Join threads) h m a u s = tt
  answer_others (Leave w) h m a u s = tt
  answer_others (FromWorker w (TaskFinished seen k x)) h m a u s = tt
  answer_others (FromWorker w (TaskErred seen k x)) h m a u s = tt
  answer_others (FromWorker w (AddKeys seen ks)) h m a u s = add_keys_others h u w seen (plain f) ks tt
  answer_others (FromWorker w (ReleaseWorkerData seen k)) h m a u s = tt
  answer_others (FromWorker w (MissingData seen k x c)) h m a u s = refreshed_others h u w k s (λ v. none_has h k (λ d e. lost_has x k c i k d (m i k d e)) (a v k (eq-eqb k k refl)))
  answer_others (FromWorker w (RequestRefreshWhoHas seen k)) h m a u s = refreshed_others h u w k s (λ v. none_has h k (λ d e. m i k d e) (a v k (eq-eqb k k refl)))
  answer_others (FromWorker w (StealResponse seen k x agreed)) h m a u s = tt
  answer_others (FromClient c (WantMessage ks)) h m a u s = tt
  answer_others (FromClient c (ReleaseMessage ks)) h m a u s = tt
  answer_others (FromClient c (MissingMessage k x copy)) h m a u s = lost_others h u x k copy
  answer_others Balance h m a u s = balance_others h u (next_steal f)
  answer_others Evict h m a u s = evict_others h u (next_drop f)
  answer_others (Replicate k w) h m a u s = acquired_others h k (u == w)

  abbrev MailOthers : ℕ × Down → Type 0
  MailOthers m = m.0 ≡ i → NamesOthers i m.1

  free_others : (w : ℕ) (ks : List ℕ) → AllByRecursion MailOthers (free_message w ks)
  free_others w [] = tt
  free_others w (k ∷ ks) = (λ e. tt, tt)

  task_others : (h : Facts) (since w k : ℕ) (o : Option (ℕ × ℕ)) (ms : List (ℕ × Down)) → AllByRecursion MailOthers ms → AllByRecursion MailOthers (cons_option (task_message h since w k o) ms)
  task_others h since w k None ms r = r
  task_others h since w k (Some p) ms r = pick (p.0 == w && nat_le since p.1)
    where
      pick : (b : Bool) → AllByRecursion MailOthers (cons_option (cond b (Some (w, ComputeTask k p.1 (who_has h (deps h k)))) None) ms)
      pick true = (λ e. tt, r)
      pick false = r

  tasks_others : (h : Facts) (since w : ℕ) (ks : List ℕ) → AllByRecursion MailOthers (filter_map (λ k. task_message h since w k (h.on k)) ks)
  tasks_others h since w [] = tt
  tasks_others h since w (k ∷ ks) = task_others h since w k (h.on k) _ (tasks_others h since w ks)

  all_to_others : (w : ℕ) (ms : List Down) → (w ≡ i → AllOthers ms) → AllByRecursion MailOthers (map (λ m. (w, m)) ms)
  all_to_others w [] h = tt
  all_to_others w (m ∷ ms) h = (λ e. (h e).0, all_to_others w ms (λ e. (h e).1))

  down_others : (e : SchedEvent) → AskedTruly e → AllByRecursion MailOthers (sched_step f e).down
  unfolding sched_step finish_step posted down_messages to_worker task_messages settle
  down_others e a =
      let t = settle f (change f e) in
      all_flat_map_in MailOthers _ (workers t.placed) (all_always _ (λ w. all_join MailOthers (free_message w (lost_keys t w)) _ (free_others w (lost_keys t w))
      (all_join MailOthers (filter_map (λ k. task_message t.placed t.before.counter w k (t.placed.on k)) (below (keys t.placed))) _ (tasks_others t.placed t.before.counter w (below (keys t.placed)))
      (all_to_others w (t.changed.answer t.placed w) (λ s. answer_others e t.placed (λ x k c z. (settling f (change f e)).has x k c z) a w s)))) (workers t.placed))

  mail_others : (ms : List (ℕ × Down)) → AllByRecursion MailOthers ms → AllOthers (mail i ms)
  mail_others [] h = tt
  mail_others (m ∷ ms) h = pick (eqb m.0 i) refl (mail_others ms h.1)
    where
      pick : (b : Bool) → eqb m.0 i ≡ b → AllOthers (mail i ms) → AllOthers (cond b (m.1 ∷ mail i ms) (mail i ms))
      pick true e r = (h.0 (eqb-true m.0 i e), r)
      pick false e r = r

  pub step_others : (e : SchedEvent) → AskedTruly e → AllOthers (mail i (sched_step f e).down)
  step_others e a = mail_others (sched_step f e).down (down_others e a)
