-- An answer that nobody holds a key reaches only workers that will have no task with that dependency.
use Rattle.std.proofs.Common.{◌≡◌, ℕ, ◌+◌, ◌<◌, ◌≤◌, Bool, true, false, cond, not, ◌&&◌, List, [], ◌∷◌, ◌++◌, Option, Some, None, refl, sym, ap, subst, arith, is_some, zero, suc}
use Rattle.std.proofs.lemmas.Bool.{false≢true, eqb-true}
use Rattle.std.proofs.Math.Dec.{eqb}
use Rattle.cluster_msgs.specs.declared.messages.Down.{Down}
use Rattle.cluster_msgs.specs.declared.messages.Down.TheVariants.{ComputeTask, FreeKeys, StealRequest, RemoveReplicas, AcquireReplicas, RefreshWhoHas}
use Rattle.cluster_msgs.specs.declared.messages.Up.TheVariants.{TaskFinished, MissingData, StealResponse}
use Rattle.cluster_rules.specs.Derived.{is_in}
use Rattle.cluster_msgs.specs.declared.messages.Up.{Up}
use Rattle.cluster_msgs.specs.declared.cores.SchedEvent.{SchedEvent}
use Rattle.cluster_msgs.specs.declared.cores.SchedEvent.TheVariants.{Join as JoinSched, Leave, FromWorker, FromClient, Balance as BalanceSched, Evict as EvictSched, Replicate as ReplicateSched}
use Rattle.cluster_msgs.specs.declared.events.Event.{Event}
use Rattle.cluster_rules.specs.World.{Job, World, is_connected}
use Rattle.cluster_rules.specs.WorldStep.{world_step}
use Rattle.cluster_rules.specs.Enabled.{enabled}
use Rattle.std.specs.Prelude.{nat_le}
use Rattle.std.specs.List.{list_any, filter_map, cons_option, AllByRecursion}
use Rattle.std.specs.Option.{option_map}
use Rattle.small_facts.proofs.Every.{all_join}
use Rattle.cluster_msgs.specs.declared.cores.Steal.{Steal}
use Rattle.cluster_msgs.specs.declared.messages.FromClient.TheVariants.{Want as WantMessage, Release as ReleaseMessage, Missing as MissingMessage}
use Rattle.cluster_msgs.specs.declared.messages.Up.TheVariants.{TaskErred, AddKeys, ReleaseWorkerData, RequestRefreshWhoHas}
use Rattle.cluster_rules.specs.Functions.{from_one, put_pair}
use Rattle.cluster_rules.specs.Derived.{below}
use Rattle.cluster_rules.specs.Sched.{Facts, keys, deps, held, holders, who_has, workers}
use Rattle.cluster_rules.specs.Policies.{next_steal, next_drop}
use Rattle.cluster_rules.specs.SchedTable.{plain, change, is_copy, lost_copy, ask_message, balanced, evicted}
use Rattle.cluster_rules.specs.SchedStep.{Stages, sched_step, settle, finish_step, posted, mail, to_worker, free_message, lost_keys, task_message, task_messages, down_messages}
use Rattle.cluster_rules.specs.Worker.{has_any}
use Rattle.pair_moves.proofs.HoldRows.{left_plain}
use Rattle.std.specs.Prelude.{length}
use Rattle.std.proofs.Common.{◌∙◌}
use Rattle.safety_laws.proofs.Joint.{IsJoint}
use Rattle.quiet_laws.proofs.Lifted.{Fact, IsKeptAt, kept_step}
use Rattle.std.proofs.Common.{◌⊎◌, inl, inr, ⊎_elim, ◌||◌}
use Rattle.std.specs.Prelude.{slice_index_or}
use Rattle.std.proofs.lemmas.Bool.{cases_lt, or_cases, eq-eqb}
use Rattle.cluster_rules.specs.Sched.{holds, connected, ready, need, open_key, fed}
use Rattle.cluster_rules.specs.SchedTable.{sched_takes}
use Rattle.cluster_laws.specs.Settled.{IsSettled}
use Rattle.cluster_laws.proofs.SettledLemmas.{settled_step}
use Rattle.cluster_laws.proofs.OrderLemmas.{mail-down, mail-own_part}
use Rattle.small_facts.proofs.Truth.{and_first, and_second}
use Rattle.pair_machine.specs.Pair.{Quiet, told, expect, Clean, IsPair}
use Rattle.pair_moves.specs.Projection.{note_of, notes, report_of, report_in, reports, at_worker as place_at, Side, pair_of}
use Rattle.pair_moves.proofs.Events.{event_keeps}
use Rattle.pair_moves.proofs.WorkerMoves.{all_in}
use Rattle.safety_laws.specs.Joint.{side_of, pair_at}
use Rattle.safety_laws.proofs.Paired.{quiet_front}
use Rattle.quiet_measure.specs.Turns.{is_vain}
use Rattle.quiet_laws.specs.Calm.{GivesUpBefore, AreVainInTime}
use Rattle.quiet_laws.proofs.Lifted.{Fact, IsKeptAt, kept_step, speaks}
use Rattle.quiet_laws.proofs.WholeTasks.{same_deps}
use Rattle.quiet_laws.proofs.Gives.{gives_less, gives_join, gives_never, expect_join, view_none, own_less, told_off, clean_of}

-- ## What a message of the scheduler may say

abbrev AllSound : ℕ → List Down → Type 0
AllSound k ms = AllByRecursion (λ m. is_vain k m ≡ false) ms

free_sound : (k i w : ℕ) (ks : List ℕ) → AllSound k (mail i (free_message w ks))
free_sound k i w [] = tt
free_sound k i w (q ∷ qs) = pick (eqb w i)
  where
    pick : (b : Bool) → AllSound k (cond b (FreeKeys (q ∷ qs) ∷ []) [])
    pick true = (refl, tt)
    pick false = tt

tasks_sound : (k i : ℕ) (f : Facts) (since w : ℕ) (ks : List ℕ) → AllSound k (mail i (filter_map (λ q. task_message f since w q (f.on q)) ks))
tasks_sound k i f since w [] = tt
tasks_sound k i f since w (q ∷ qs) = one (f.on q) (tasks_sound k i f since w qs)
  where
    rest : List (ℕ × Down)
    rest = filter_map (λ q. task_message f since w q (f.on q)) qs

    one : (o : Option (ℕ × ℕ)) → AllSound k (mail i (filter_map (λ q. task_message f since w q (f.on q)) qs)) → AllSound k (mail i (cons_option (task_message f since w q o) (filter_map (λ q. task_message f since w q (f.on q)) qs)))
    one None r = r
    one (Some p) r = pick (eqb p.0 w && nat_le since p.1)
      where
        go : (b : Bool) → AllSound k (cond b (ComputeTask q p.1 (who_has f (deps f q)) ∷ mail i (filter_map (λ q. task_message f since w q (f.on q)) qs)) (mail i (filter_map (λ q. task_message f since w q (f.on q)) qs)))
        go true = (refl, r)
        go false = r

        pick : (b : Bool) → AllSound k (mail i (cons_option (cond b (Some (w, ComputeTask q p.1 (who_has f (deps f q)))) None) (filter_map (λ q. task_message f since w q (f.on q)) qs)))
        pick true = go (eqb w i)
        pick false = r

-- an answer says nothing in vain, or is one refresh
abbrev Says : ℕ → Facts → List Down → Type 0
Says k x ms = AllSound k ms ⊎ ((r : ℕ) × (ms ≡ RefreshWhoHas (who_has x (r ∷ [])) ∷ []))

refresh_says : (k : ℕ) (x : Facts) (q : ℕ) (b : Bool) → Says k x (cond b (RefreshWhoHas (who_has x (q ∷ [])) ∷ []) [])
refresh_says k x q true = inr (q, refl)
refresh_says k x q false = inl tt

acquire_says : (k : ℕ) (x : Facts) (q : ℕ) (b : Bool) → Says k x (cond b (AcquireReplicas (who_has x (q ∷ [])) ∷ []) [])
acquire_says k x q true = inl (refl, tt)
acquire_says k x q false = inl tt

ask_says : (k q : ℕ) (o : Option (ℕ × ℕ)) (w : ℕ) → AllSound k (ask_message q o w)
ask_says k q None w = tt
ask_says k q (Some p) w = pick (eqb p.0 w)
  where
    pick : (b : Bool) → AllSound k (cond b (StealRequest q p.1 ∷ []) [])
    pick true = (refl, tt)
    pick false = tt

balanced_says : (k : ℕ) (f : Facts) (o : Option Steal) (x : Facts) (w : ℕ) → Says k x ((balanced f o).answer x w)
balanced_says k f None x w = inl tt
balanced_says k f (Some c) x w = inl (ask_says k c.key (f.on c.key) w)

evicted_says : (k : ℕ) (f : Facts) (o : Option (ℕ × ℕ)) (x : Facts) (w : ℕ) → Says k x ((evicted f o).answer x w)
evicted_says k f None x w = inl tt
evicted_says k f (Some p) x w = pick (eqb w p.0)
  where
    pick : (b : Bool) → Says k x (cond b (RemoveReplicas (p.1 ∷ []) ∷ []) [])
    pick true = inl (refl, tt)
    pick false = inl tt

lost_says : (k : ℕ) (f : Facts) (v q c : ℕ) (x : Facts) (w : ℕ) → Says k x ((lost_copy f v q c).answer x w)
unfolding lost_copy
lost_says k f v q c x w = pick (is_copy c (f.has v q))
  where
    pick : (b : Bool) → Says k x ((cond b (record (plain (record f { has = put_pair f.has v q None })) { freed = put_pair (λ w j. false) v q true }) (plain f)).answer x w)
    pick true = inl tt
    pick false = inl tt

answers_say : (k : ℕ) (f : Facts) (s : SchedEvent) (x : Facts) (w : ℕ) → Says k x ((change f s).answer x w)
answers_say k f (JoinSched threads) x w = inl tt
answers_say k f (Leave v) x w = inl tt
answers_say k f (FromWorker v (TaskFinished seen q a)) x w = inl tt
answers_say k f (FromWorker v (TaskErred seen q a)) x w = inl tt
answers_say k f (FromWorker v (AddKeys seen ks)) x w = subst (λ (h : Facts → ℕ → List Down). Says k x (h x w)) (sym (left_plain f v seen ks).answer) (inl tt)
answers_say k f (FromWorker v (ReleaseWorkerData seen q)) x w = inl tt
answers_say k f (FromWorker v (MissingData seen q y c)) x w = refresh_says k x q (eqb w v)
answers_say k f (FromWorker v (RequestRefreshWhoHas seen q)) x w = refresh_says k x q (eqb w v)
answers_say k f (FromWorker v (StealResponse seen q a agreed)) x w = inl tt
answers_say k f (FromClient c (WantMessage ks)) x w = inl tt
answers_say k f (FromClient c (ReleaseMessage ks)) x w = inl tt
answers_say k f (FromClient c (MissingMessage q y n)) x w = lost_says k f y q n x w
answers_say k f BalanceSched x w = balanced_says k f (next_steal f) x w
answers_say k f EvictSched x w = evicted_says k f (next_drop f) x w
answers_say k f (ReplicateSched q v) x w = acquire_says k x q (eqb w v)

-- ## A key that isn't held

some_holder : (f : Facts) (k : ℕ) (ws : List ℕ) → list_any (λ w. holds f w k) ws ≡ true → has_any {A = ℕ × ℕ} (filter_map (λ w. option_map (λ c. (w, c)) (f.has w k)) ws) ≡ true
some_holder f k [] e = absurd (false≢true e)
some_holder f k (x ∷ xs) e = pick (f.has x k) e (some_holder f k xs)
  where
    pick : (o : Option ℕ) → (is_some o || list_any (λ w. holds f w k) xs) ≡ true → (list_any (λ w. holds f w k) xs ≡ true → has_any {A = ℕ × ℕ} (filter_map (λ w. option_map (λ c. (w, c)) (f.has w k)) xs) ≡ true) → has_any {A = ℕ × ℕ} (cons_option (option_map (λ c. (x, c)) o) (filter_map (λ w. option_map (λ c. (w, c)) (f.has w k)) xs)) ≡ true
    pick None h rest = rest h
    pick (Some y) h rest = refl

has_holders : (f : Facts) (k : ℕ) → held f k ≡ true → has_any (holders f k) ≡ true
unfolding held holders
has_holders f k h = some_holder f k (from_one f.last_worker) h

vain_unheld : (f : Facts) (k r : ℕ) → is_vain k (RefreshWhoHas (who_has f (r ∷ []))) ≡ true → held f k ≡ true → ⊥
unfolding who_has
vain_unheld f k r e h = ⊎_elim (λ a. bad (eqb r k) refl (and_first (eqb r k) (not (has_any (holders f r))) a) (and_second (eqb r k) (not (has_any (holders f r))) a)) (λ a. false≢true a) (or_cases (eqb r k && not (has_any (holders f r))) false e)
  where
    flip : (b : Bool) → not b ≡ true → b ≡ true → ⊥
    flip true n t = false≢true n
    flip false n t = false≢true t

    bad : (b : Bool) → eqb r k ≡ b → b ≡ true → not (has_any (holders f r)) ≡ true → ⊥
    bad b s t n = flip (has_any (holders f r)) n (ap (λ q. has_any (holders f q)) (eqb-true r k (s ∙ t)) ∙ has_holders f k h)

held_posted : (t : Stages) (k : ℕ) → held (finish_step t).facts k ≡ held t.placed k
unfolding finish_step posted held
held_posted t k = refl

-- beyond the graph there are no dependencies
past : (xs : List (List ℕ)) (k : ℕ) → length xs ≤ k → slice_index_or xs k [] ≡ []
past [] k l = refl
past (x ∷ xs) zero l = absurd (omega (arith, l))
past (x ∷ xs) (suc k) l = past xs k (omega (arith, l))

pub has_deps : (f : Facts) (k q : ℕ) → is_in k (deps f q) ≡ true → q < keys f
has_deps f k q e = ⊎_elim (λ l. l) (λ l. absurd (false≢true (sym (ap (is_in k) (past f.setting.shape.deps q l)) ∙ e))) (cases_lt q (keys f))

-- where a key was given, its dependencies are held
fed_of : (f : Facts) → IsSettled f → (k q : ℕ) → is_in k (deps f q) ≡ true → is_some (f.on q) ≡ true → held f k ≡ true
unfolding ready
fed_of f s k q d e = all_in (held f) k (deps f q) (and_second (need f q && open_key f q) (fed f q) (s.placed_are_ready q e)) d

-- ## An event of the scheduler

module _ (f : Facts) (s : SchedEvent) (i k q : ℕ) (side : Side) (after : IsSettled (sched_step f s).facts) (d : is_in k (deps (sched_step f s).facts q) ≡ true)
    (pair : IsPair (pair_of (sched_step f s).facts i q (record side { down = side.down ++ mail i (sched_step f s).down }))) where
  abbrev t : Stages
  t = settle f (change f s)

  abbrev v0 : Bool × Option ℕ
  v0 = (side.mem, side.mine)

  -- an answer that nobody holds the key goes to a worker without an attempt
  none_counted : (r : ℕ) → is_vain k (RefreshWhoHas (who_has t.placed (r ∷ []))) ≡ true → (expect (notes q (side.down ++ mail i (sched_step f s).down)) v0).1 ≡ None
  unfolding sched_step
  none_counted r e = sym (ap (λ (v : Bool × Option ℕ). v.1) pair.agree) ∙ view_none ((sched_step f s).facts.fence i q) (reports q side.up) (holds (sched_step f s).facts i q, place_at i ((sched_step f s).facts.on q)) (by ((sched_step f s).facts.on q) refl)
    where
      by : (o : Option (ℕ × ℕ)) → (sched_step f s).facts.on q ≡ o → place_at i o ≡ None
      by None n = refl
      by (Some p) n = absurd (vain_unheld t.placed k r e (sym (held_posted t k) ∙ fed_of (sched_step f s).facts after k q d (ap is_some n)))

  parts : (F T A : List Down) → AllSound k F → AllSound k T → Says k t.placed A
      → ((r : ℕ) → is_vain k (RefreshWhoHas (who_has t.placed (r ∷ []))) ≡ true → (expect (notes q (side.down ++ (F ++ (T ++ A)))) v0).1 ≡ None)
      → GivesUpBefore k q v0 side.down → GivesUpBefore k q v0 (side.down ++ (F ++ (T ++ A)))
  parts F T A a b c none h =
      let v1 = expect (notes q side.down) v0 in
      let v2 = expect (notes q F) v1 in
      gives_join k q v0 side.down (F ++ (T ++ A)) h (gives_join k q v1 F (T ++ A) (gives_never k q v1 F a) (gives_join k q v2 T A (gives_never k q v2 T b) (by c)))
    where
      last : Bool × Option ℕ
      last = expect (notes q T) (expect (notes q F) (expect (notes q side.down) v0))

      over : expect (notes q (side.down ++ (F ++ (T ++ A)))) v0 ≡ expect (notes q A) (expect (notes q T) (expect (notes q F) (expect (notes q side.down) v0)))
      over = expect_join q v0 side.down (F ++ (T ++ A)) ∙ expect_join q (expect (notes q side.down) v0) F (T ++ A) ∙ expect_join q (expect (notes q F) (expect (notes q side.down) v0)) T A

      by : Says k t.placed A → GivesUpBefore k q (expect (notes q T) (expect (notes q F) (expect (notes q side.down) v0))) A
      by (inl n) = gives_never k q (expect (notes q T) (expect (notes q F) (expect (notes q side.down) v0))) A n
      by (inr (r, e)) = subst (λ l. GivesUpBefore k q (expect (notes q T) (expect (notes q F) (expect (notes q side.down) v0))) l) (sym e)
          (λ vain. sym (ap (λ (v : Bool × Option ℕ). v.1) (over ∙ ap (λ l. expect (notes q l) (expect (notes q T) (expect (notes q F) (expect (notes q side.down) v0)))) e)) ∙ none r vain, tt)

  pub sent_vain : GivesUpBefore k q v0 side.down → GivesUpBefore k q v0 (side.down ++ mail i (sched_step f s).down)
  unfolding sched_step finish_step task_messages settle
  sent_vain h = by (is_in i (workers t.placed)) refl
    where
      none_is : (l : List Down) → mail i (down_messages t) ≡ l → ((r : ℕ) → is_vain k (RefreshWhoHas (who_has t.placed (r ∷ []))) ≡ true → (expect (notes q (side.down ++ l)) v0).1 ≡ None)
      none_is l e r x = subst (λ m. (expect (notes q (side.down ++ m)) v0).1 ≡ None) e (none_counted r x)

      by : (b : Bool) → is_in i (workers t.placed) ≡ b → GivesUpBefore k q v0 (side.down ++ mail i (down_messages t))
      by true e = let m = mail-down t i ∙ ap (λ b. cond b (mail i (to_worker t i)) []) e ∙ mail-own_part t i in
          subst (λ l. GivesUpBefore k q v0 (side.down ++ l)) (sym m)
          (parts (mail i (free_message i (lost_keys t i))) (mail i (task_messages t.placed t.before.counter i)) (t.changed.answer t.placed i) (free_sound k i i (lost_keys t i)) (tasks_sound k i t.placed t.before.counter i (below (keys t.placed))) (answers_say k f s t.placed i)
          (none_is (mail i (free_message i (lost_keys t i)) ++ (mail i (task_messages t.placed t.before.counter i) ++ t.changed.answer t.placed i)) m) h)
      by false e = subst (λ l. GivesUpBefore k q v0 (side.down ++ l)) (sym (mail-down t i ∙ ap (λ b. cond b (mail i (to_worker t i)) []) e)) (gives_join k q v0 side.down [] h tt)

-- ## Every event

abbrev IsVainFact : Fact
IsVainFact f x d u = (k q : ℕ) → is_in k (deps f q) ≡ true → GivesUpBefore k q (x.mem q, x.mine q) d

module _ (j : Job) (w : World) (joint : IsJoint j w) (i : ℕ) where
  pair : (q : ℕ) → q < keys w.sched → w.alive i ≡ true → is_connected w i ≡ true → IsPair (pair_at w i q)
  pair q l a c = joint.paired i q l a c

  -- the pair after an event of the scheduler, with what is left of the worker's messages
  after_event : (s : SchedEvent) → sched_takes w.sched s ≡ true → connected (sched_step w.sched s).facts i ≡ true → (k q : ℕ) → is_in k (deps (sched_step w.sched s).facts q) ≡ true → (us : List Up)
      → IsPair (record (pair_of w.sched i q (record (side_of w i q) { up = us })) { up = report_in s i q ∷ reports q us })
      → GivesUpBefore k q ((w.workers i).mem q, (w.workers i).mine q) (w.down i) → GivesUpBefore k q ((w.workers i).mem q, (w.workers i).mine q) (w.down i ++ mail i (sched_step w.sched s).down)
  after_event s t b k q d us p h = sent_vain w.sched s i k q (record (side_of w i q) { up = us }) (settled_step w.sched joint.sound joint.settled s t) d
      (event_keeps w.sched s joint.sound joint.settled joint.numbered t i q (record (side_of w i q) { up = us }) (has_deps w.sched k q (subst (λ (g : ℕ → List ℕ). is_in k (g q) ≡ true) (same_deps w.sched s) d)) b p) h

  quiet_report : (s : SchedEvent) → speaks i s ≡ false → (q : ℕ) → report_in s i q ≡ Quiet
  quiet_report (FromWorker x m) e q = ap (λ b. cond b (report_of q m) Quiet) e
  quiet_report (JoinSched threads) e q = refl
  quiet_report (Leave v) e q = refl
  quiet_report (FromClient c m) e q = refl
  quiet_report BalanceSched e q = refl
  quiet_report EvictSched e q = refl
  quiet_report (ReplicateSched r v) e q = refl

  sound_kept : (threads k q : ℕ) (v : Bool × Option ℕ) → i ≡ w.sched.last_worker + 1 → GivesUpBefore k q v (w.down i ++ mail i (sched_step w.sched (JoinSched threads)).down)
  unfolding sched_step finish_step task_messages settle
  sound_kept threads k q v e = subst (λ l. GivesUpBefore k q v (l ++ mail i (sched_step w.sched (JoinSched threads)).down)) (sym (joint.home.bare i (omega (arith, e))).down) (by (is_in i (workers t.placed)) refl)
    where
      t : Stages
      t = settle w.sched (change w.sched (JoinSched threads))

      by : (b : Bool) → is_in i (workers (settle w.sched (change w.sched (JoinSched threads))).placed) ≡ b → GivesUpBefore k q v (mail i (down_messages (settle w.sched (change w.sched (JoinSched threads)))))
      by true e = let y = settle w.sched (change w.sched (JoinSched threads)) in let m = mail-down y i ∙ ap (λ b. cond b (mail i (to_worker y i)) []) e ∙ mail-own_part y i in
          subst (λ l. GivesUpBefore k q v l) (sym m) (gives_never k q v _ (all_join (λ m. is_vain k m ≡ false) (mail i (free_message i (lost_keys y i))) _ (free_sound k i i (lost_keys y i))
          (all_join (λ m. is_vain k m ≡ false) (mail i (task_messages y.placed y.before.counter i)) _ (tasks_sound k i y.placed y.before.counter i (below (keys y.placed))) tt)))
      by false e = let y = settle w.sched (change w.sched (JoinSched threads)) in subst (λ l. GivesUpBefore k q v l) (sym (mail-down y i ∙ ap (λ b. cond b (mail i (to_worker y i)) []) e)) tt

  pub vain_kept : IsKeptAt w i IsVainFact
  vain_kept = record {
    quiet = λ s t r b a c p k q d. after_event s t c k q d (w.up i)
        (subst (λ x. IsPair (record (pair_at w i q) { up = x ∷ reports q (w.up i) })) (sym (quiet_report s r q)) (quiet_front (pair_at w i q) (pair q (has_deps w.sched k q (back s k q d)) a b))) (p k q (back s k q d));
    heard = λ m ms e t b a c p k q d. after_event (FromWorker i m) t c k q d ms
        (subst (λ x. IsPair (record (pair_at w i q) { up = cond x (report_of q m) Quiet ∷ reports q ms })) (sym (eq-eqb i i refl))
        (subst (λ l. IsPair (record (pair_at w i q) { up = reports q l })) e (pair q (has_deps w.sched k q (back (FromWorker i m) k q d)) a b))) (p k q (back (FromWorker i m) k q d));
    own = λ e o t c a p k q d. gives_less k q ((w.workers i).mem q, (w.workers i).mine q) _ (w.down i) (own_less (w.workers i) e q (pair_at w i q) o t (pair q (has_deps w.sched k q d) a c).apart) (p k q d);
    told = λ m ms e t c a p k q d. gives_less k q (told (note_of q m) ((w.workers i).mem q, (w.workers i).mine q)) _ ms
        (told_off (w.workers i) m q (pair_at w i q) t (pair q (has_deps w.sched k q d) a c).apart (clean_of (note_of q m) (notes q ms) ((w.workers i).mine q) (subst (λ l. Clean (notes q l) ((w.workers i).mine q)) e (pair q (has_deps w.sched k q d) a c).clean)))
        (subst (λ l. GivesUpBefore k q ((w.workers i).mem q, (w.workers i).mine q) l) e (p k q d)).1;
    born = λ threads t e k q d. sound_kept threads k q (false, None) e;
  }
    where
      back : (s : SchedEvent) (k q : ℕ) → is_in k (deps (sched_step w.sched s).facts q) ≡ true → is_in k (deps w.sched q) ≡ true
      back s k q d = subst (λ (g : ℕ → List ℕ). is_in k (g q) ≡ true) (same_deps w.sched s) d

pub vain_step : (j : Job) (w : World) → IsJoint j w → (e : Event) → enabled w e ≡ true → AreVainInTime w → AreVainInTime (world_step j w e)
vain_step j w joint e t h i k q a c d = kept_step j w joint i IsVainFact (vain_kept j w joint i) (λ a c k q d. h i k q a c d) e t a c k q d
