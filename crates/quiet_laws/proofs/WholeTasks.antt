-- A task that is sent comes with a list for each of its dependencies.
use Rattle.std.proofs.Common.{◌≡◌, ℕ, Bool, true, false, cond, ◌&&◌, List, [], ◌∷◌, ◌++◌, Option, Some, None, refl, sym, ap, subst, arith}
use Rattle.std.proofs.Math.Dec.{eqb}
use Rattle.cluster_msgs.specs.declared.messages.Down.{Down}
use Rattle.cluster_msgs.specs.declared.messages.Down.TheVariants.{ComputeTask, StealRequest, RemoveReplicas, AcquireReplicas, RefreshWhoHas}
use Rattle.cluster_msgs.specs.declared.messages.Up.TheVariants.{TaskFinished, MissingData, StealResponse}
use Rattle.cluster_msgs.specs.declared.cores.SchedEvent.{SchedEvent}
use Rattle.cluster_msgs.specs.declared.cores.SchedEvent.TheVariants.{Join as JoinSched, Leave, FromWorker, FromClient, Balance as BalanceSched, Evict as EvictSched, Replicate as ReplicateSched}
use Rattle.cluster_msgs.specs.declared.events.Event.{Event}
use Rattle.cluster_rules.specs.World.{Job, World}
use Rattle.cluster_rules.specs.WorldStep.{world_step}
use Rattle.cluster_rules.specs.Enabled.{enabled}
use Rattle.std.specs.Prelude.{nat_le}
use Rattle.std.specs.List.{filter_map, cons_option, AllByRecursion}
use Rattle.small_facts.proofs.Every.{all_join}
use Rattle.cluster_msgs.specs.declared.cores.Steal.{Steal}
use Rattle.cluster_msgs.specs.declared.messages.FromClient.TheVariants.{Want as WantMessage, Release as ReleaseMessage, Missing as MissingMessage}
use Rattle.cluster_msgs.specs.declared.messages.Up.TheVariants.{TaskErred, AddKeys, ReleaseWorkerData, RequestRefreshWhoHas}
use Rattle.cluster_rules.specs.Functions.{put_pair}
use Rattle.cluster_rules.specs.Derived.{below}
use Rattle.cluster_rules.specs.Sched.{Facts, keys, deps, who_has, workers}
use Rattle.cluster_rules.specs.Policies.{next_steal, next_drop}
use Rattle.cluster_rules.specs.SchedTable.{Changed, plain, change, is_copy, lost_copy, ask_message, balanced, evicted}
use Rattle.cluster_rules.specs.SchedStep.{sched_step, settle, finish_step, posted, mail, to_worker, free_message, lost_keys, task_message, task_messages, down_messages}
use Rattle.cluster_rules.proofs.InsideWorker.{all_map_in}
use Rattle.cluster_rules.proofs.InsideSched.{all_flat_map_in, all_always}
use Rattle.pair_moves.proofs.HoldRows.{left_plain}
use Rattle.std.proofs.Common.{◌∙◌}
use Rattle.cluster_rules.specs.Inside.{named_keys}
use Rattle.cluster_laws.proofs.Framed.{step_setting}
use Rattle.cluster_rules.specs.Sched.{Setting}
use Rattle.cluster_msgs.specs.Shape.{deps_of}
use Rattle.safety_laws.proofs.Joint.{IsJoint}
use Rattle.quiet_measure.specs.Turns.{NamesDeps}
use Rattle.quiet_laws.specs.Calm.{AreWhole}
use Rattle.quiet_laws.proofs.Lifted.{Fact, IsKeptAt, kept_step}

names_back : (f : Facts) (ks : List ℕ) → named_keys (who_has f ks) ≡ ks
unfolding who_has
names_back f [] = refl
names_back f (k ∷ ks) = ap (λ l. k ∷ l) (names_back f ks)

module _ (ds : ℕ → List ℕ) where
  abbrev DownWhole : List (ℕ × Down) → Type 0
  DownWhole ms = AllByRecursion (λ (m : ℕ × Down). NamesDeps ds m.1) ms

  free_whole : (w : ℕ) (ks : List ℕ) → DownWhole (free_message w ks)
  free_whole w [] = tt
  free_whole w (k ∷ ks) = (tt, tt)

  tasks_whole : (f : Facts) → deps f ≡ ds → (since w : ℕ) (ks : List ℕ) → DownWhole (filter_map (λ k. task_message f since w k (f.on k)) ks)
  tasks_whole f l since w [] = tt
  tasks_whole f l since w (k ∷ ks) = one (f.on k) (tasks_whole f l since w ks)
    where
      one : (o : Option (ℕ × ℕ)) → DownWhole (filter_map (λ q. task_message f since w q (f.on q)) ks) → DownWhole (cons_option (task_message f since w k o) (filter_map (λ q. task_message f since w q (f.on q)) ks))
      one None r = r
      one (Some p) r = pick (eqb p.0 w && nat_le since p.1)
        where
          pick : (b : Bool) → DownWhole (cons_option (cond b (Some (w, ComputeTask k p.1 (who_has f (deps f k)))) None) (filter_map (λ q. task_message f since w q (f.on q)) ks))
          pick true = (names_back f (deps f k) ∙ ap (λ (g : ℕ → List ℕ). g k) l, r)
          pick false = r

  abbrev AnswersWhole : Changed → Type 0
  AnswersWhole g = (x : Facts) (w : ℕ) → AllByRecursion (NamesDeps ds) (g.answer x w)

  refresh_whole : (x : Facts) (k : ℕ) (b : Bool) → AllByRecursion (NamesDeps ds) (cond b (RefreshWhoHas (who_has x (k ∷ [])) ∷ []) [])
  refresh_whole x k true = (tt, tt)
  refresh_whole x k false = tt

  acquire_whole : (x : Facts) (k : ℕ) (b : Bool) → AllByRecursion (NamesDeps ds) (cond b (AcquireReplicas (who_has x (k ∷ [])) ∷ []) [])
  acquire_whole x k true = (tt, tt)
  acquire_whole x k false = tt

  ask_whole : (q : ℕ) (o : Option (ℕ × ℕ)) (w : ℕ) → AllByRecursion (NamesDeps ds) (ask_message q o w)
  ask_whole q None w = tt
  ask_whole q (Some p) w = pick (eqb p.0 w)
    where
      pick : (b : Bool) → AllByRecursion (NamesDeps ds) (cond b (StealRequest q p.1 ∷ []) [])
      pick true = (tt, tt)
      pick false = tt

  balanced_whole : (f : Facts) (o : Option Steal) → AnswersWhole (balanced f o)
  balanced_whole f None x w = tt
  balanced_whole f (Some c) x w = ask_whole c.key (f.on c.key) w

  evicted_whole : (f : Facts) (o : Option (ℕ × ℕ)) → AnswersWhole (evicted f o)
  evicted_whole f None x w = tt
  evicted_whole f (Some p) x w = pick (eqb w p.0)
    where
      pick : (b : Bool) → AllByRecursion (NamesDeps ds) (cond b (RemoveReplicas (p.1 ∷ []) ∷ []) [])
      pick true = (tt, tt)
      pick false = tt

  lost_whole : (f : Facts) (v q c : ℕ) → AnswersWhole (lost_copy f v q c)
  unfolding lost_copy
  lost_whole f v q c x w = pick (is_copy c (f.has v q))
    where
      pick : (b : Bool) → AllByRecursion (NamesDeps ds) ((cond b (record (plain (record f { has = put_pair f.has v q None })) { freed = put_pair (λ w j. false) v q true }) (plain f)).answer x w)
      pick true = tt
      pick false = tt

  answers_whole : (f : Facts) (s : SchedEvent) → AnswersWhole (change f s)
  answers_whole f (JoinSched threads) x w = tt
  answers_whole f (Leave v) x w = tt
  answers_whole f (FromWorker v (TaskFinished seen k a)) x w = tt
  answers_whole f (FromWorker v (TaskErred seen k a)) x w = tt
  answers_whole f (FromWorker v (AddKeys seen ks)) x w = subst (λ (h : Facts → ℕ → List Down). AllByRecursion (NamesDeps ds) (h x w)) (sym (left_plain f v seen ks).answer) tt
  answers_whole f (FromWorker v (ReleaseWorkerData seen k)) x w = tt
  answers_whole f (FromWorker v (MissingData seen k y c)) x w = refresh_whole x k (eqb w v)
  answers_whole f (FromWorker v (RequestRefreshWhoHas seen k)) x w = refresh_whole x k (eqb w v)
  answers_whole f (FromWorker v (StealResponse seen k a agreed)) x w = tt
  answers_whole f (FromClient c (WantMessage ks)) x w = tt
  answers_whole f (FromClient c (ReleaseMessage ks)) x w = tt
  answers_whole f (FromClient c (MissingMessage k y n)) x w = lost_whole f y k n x w
  answers_whole f BalanceSched x w = balanced_whole f (next_steal f) x w
  answers_whole f EvictSched x w = evicted_whole f (next_drop f) x w
  answers_whole f (ReplicateSched k v) x w = acquire_whole x k (eqb w v)

  down_whole : (f : Facts) (s : SchedEvent) → deps (sched_step f s).facts ≡ ds → DownWhole (sched_step f s).down
  unfolding sched_step finish_step posted down_messages to_worker task_messages settle
  down_whole f s l =
      let t = settle f (change f s) in
      all_flat_map_in (λ (m : ℕ × Down). NamesDeps ds m.1) _ (workers t.placed) (all_always _ (λ w. all_join (λ (m : ℕ × Down). NamesDeps ds m.1) (free_message w (lost_keys t w)) _ (free_whole w (lost_keys t w))
      (all_join (λ (m : ℕ × Down). NamesDeps ds m.1) (filter_map (λ k. task_message t.placed t.before.counter w k (t.placed.on k)) (below (keys t.placed))) _ (tasks_whole t.placed l t.before.counter w (below (keys t.placed)))
      (all_map_in (λ (m : ℕ × Down). NamesDeps ds m.1) (λ m. (w, m)) (t.changed.answer t.placed w) (answers_whole f s t.placed w)))) (workers t.placed))

  mail_whole : (w : ℕ) (ms : List (ℕ × Down)) → DownWhole ms → AllByRecursion (NamesDeps ds) (mail w ms)
  mail_whole w [] h = tt
  mail_whole w (m ∷ ms) h = pick (eqb m.0 w) (mail_whole w ms h.1)
    where
      pick : (b : Bool) → AllByRecursion (NamesDeps ds) (mail w ms) → AllByRecursion (NamesDeps ds) (cond b (m.1 ∷ mail w ms) (mail w ms))
      pick true r = (h.0, r)
      pick false r = r

abbrev IsWholeFact : Fact
IsWholeFact f x d u = AllByRecursion (NamesDeps (deps f)) d

pub same_deps : (f : Facts) (s : SchedEvent) → deps (sched_step f s).facts ≡ deps f
same_deps f s = ap (λ (g : Setting). deps_of g.shape) (step_setting f s)

sent_whole : (f : Facts) (s : SchedEvent) (i : ℕ) (d : List Down) → AllByRecursion (NamesDeps (deps f)) d → AllByRecursion (NamesDeps (deps (sched_step f s).facts)) (d ++ mail i (sched_step f s).down)
sent_whole f s i d h = all_join (NamesDeps (deps (sched_step f s).facts)) d (mail i (sched_step f s).down)
    (subst (λ (g : ℕ → List ℕ). AllByRecursion (NamesDeps g) d) (sym (same_deps f s)) h) (mail_whole (deps (sched_step f s).facts) i (sched_step f s).down (down_whole (deps (sched_step f s).facts) f s refl))

whole_kept : (j : Job) (w : World) → IsJoint j w → (i : ℕ) → IsKeptAt w i IsWholeFact
whole_kept j w joint i = record {
  quiet = λ s t q b a c p. sent_whole w.sched s i (w.down i) p;
  heard = λ m ms e t b a c p. sent_whole w.sched (FromWorker i m) i (w.down i) p;
  own = λ e o t c a p. p;
  told = λ m ms e t c a p. (subst (λ l. AllByRecursion (NamesDeps (deps w.sched)) l) e p).1;
  born = λ threads t e. sent_whole w.sched (JoinSched threads) i (w.down i) (subst (λ l. AllByRecursion (NamesDeps (deps w.sched)) l) (sym (joint.home.bare i (omega (arith, e))).down) tt);
}

pub whole_step : (j : Job) (w : World) → IsJoint j w → (e : Event) → enabled w e ≡ true → AreWhole w → AreWhole (world_step j w e)
whole_step j w joint e t h i = kept_step j w joint i IsWholeFact (whole_kept j w joint i) (h i) e t
