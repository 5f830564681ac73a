-- The scheduler takes a worker's message: what every such event has in common.
use Rattle.std.proofs.Common.{◌≡◌, ℕ, ◌+◌, ◌<◌, ◌≤◌, Bool, true, false, cond, List, [], ◌∷◌, Some, None, refl, sym, ap, ◌∙◌, subst, arith, is_some, inl, inr, ◌⊎◌, ⊎_elim}
use Rattle.std.specs.List.{list_any, AllByRecursion}
use Rattle.std.proofs.lemmas.Bool.{eqb-true, eq-eqb, or_cases}
use Rattle.std.proofs.Math.Dec.{eqb}
use Rattle.small_facts.proofs.Ranges.{range_has}
use Rattle.cluster_msgs.specs.declared.messages.Down.{Down}
use Rattle.cluster_msgs.specs.declared.messages.Down.TheVariants.{RefreshWhoHas}
use Rattle.cluster_msgs.specs.declared.messages.Up.{Up}
use Rattle.cluster_msgs.specs.declared.messages.Up.TheVariants.{TaskFinished, TaskErred, AddKeys, ReleaseWorkerData, MissingData, RequestRefreshWhoHas, StealResponse}
use Rattle.cluster_msgs.specs.declared.cores.SchedEvent.TheVariants.{FromWorker}
use Rattle.cluster_msgs.specs.declared.events.Event.TheVariants.{DeliverUp}
use Rattle.cluster_rules.specs.Functions.{put, put_pair}
use Rattle.cluster_rules.specs.Sched.{Facts, IsSound, holds, connected, who_has}
use Rattle.cluster_rules.specs.SchedTable.{Changed, change_up, sched_takes, is_copy, lost_copy, plain, nothing_freed}
use Rattle.cluster_rules.specs.SchedStep.{Stages, settle, finish_step, sched_step, takes_away}
use Rattle.cluster_rules.specs.World.{Job, World, is_connected}
use Rattle.cluster_rules.specs.WorldStep.{scheduled, take_up, take_up_first, world_step}
use Rattle.cluster_rules.proofs.SoundStep.{sound_changed}
use Rattle.cluster_laws.specs.Settled.{IsSettled}
use Rattle.cluster_laws.proofs.Framed.{change_framed}
use Rattle.pair_machine.specs.Pair.{Quiet}
use Rattle.pair_moves.specs.Projection.{report_of, Side, IsNumbered}
use Rattle.pair_moves.proofs.Rows.{IsPlain, calm_row, quiet_calm, same_moved, refreshed_plain}
use Rattle.pair_moves.proofs.TaskRows.{finished_row, failed_row, answered_row}
use Rattle.pair_moves.proofs.HoldRows.{left_plain, released_row, lost_row, add_row}
use Rattle.safety_laws.proofs.Turns.{up_taken as taken_up}
use Rattle.safety_laws.proofs.Joint.{IsJoint}
use Rattle.quiet_measure.specs.Weights.{sum_of}
use Rattle.quiet_measure.specs.Measure.{counts_loss, up_disturbs, death_disturbs, worker_disturbs, client_disturbs, disturbances}
use Rattle.quiet_measure.specs.Lighter.{under}
use Rattle.quiet_measure.specs.Settles.{SettlesAt}
use Rattle.quiet_measure.specs.Changes.{AreDrawn}
use Rattle.quiet_measure.proofs.Settle.{settles_at}
use Rattle.quiet_measure.proofs.CalmChanges.{sound_drop_bad}
use Rattle.quiet_measure.proofs.Combine.{last_posted, setting_posted, threads_posted}
use Rattle.quiet_laws.specs.Old.{IsOldUp, AreOld, AreFenced}
use Rattle.quiet_laws.proofs.Wrongful.{IsHonest, ups_less, letters_less}
use Rattle.quiet_laws.proofs.Disturbed.{IsTaken, Site, worker_less, worker_at, turn_at_worker, death_less}

abbrev pub no_side : Side
no_side = record { down = []; seen = 0; mine = None; mem = false; up = [] }

up_row : (f : Facts) (v : ℕ) (m : Up) (w k : ℕ) → connected f v ≡ true → IsSound f → IsSettled f → IsNumbered f → IsPlain f (change_up f v m) w k (cond (eqb v w) (report_of k m) Quiet) no_side
up_row f v (TaskFinished seen q a) w k c sound t n = finished_row f v q a w k no_side sound t n
up_row f v (TaskErred seen q a) w k c sound t n = failed_row f v q a w k no_side sound t n
up_row f v (AddKeys seen ks) w k c sound t n = add_row f v seen ks w k no_side c sound t n
up_row f v (ReleaseWorkerData seen q) w k c sound t n = released_row f v seen q w k no_side sound t n
up_row f v (MissingData seen q x n) w k c sound t h = refreshed_plain f (lost_copy f x q n) w k v q _ no_side (quiet (eqb v w))
  where
    quiet : (b : Bool) → IsPlain f (lost_copy f x q n) w k (cond b Quiet Quiet) no_side
    quiet true = lost_row f x q n w k no_side sound t h
    quiet false = lost_row f x q n w k no_side sound t h
up_row f v (RequestRefreshWhoHas seen q) w k c sound t n = refreshed_plain f (plain f) w k v q _ no_side (quiet (eqb v w))
  where
    quiet : (b : Bool) → IsPlain f (plain f) w k (cond b Quiet Quiet) no_side
    quiet true = calm_row f (plain f) w k Quiet no_side sound t n (quiet_calm f (plain f) w k no_side (same_moved f f t k refl refl) (inl (refl, refl)) refl refl (λ x. tt))
    quiet false = calm_row f (plain f) w k Quiet no_side sound t n (quiet_calm f (plain f) w k no_side (same_moved f f t k refl refl) (inl (refl, refl)) refl refl (λ x. tt))
up_row f v (StealResponse seen q a agreed) w k c sound t n = answered_row f v q a w k agreed no_side sound t n

-- nothing that is answered takes a key away
up_silent : (f : Facts) (i : ℕ) (m : Up) (h : Facts) (x k : ℕ) → list_any (takes_away k) ((change_up f i m).answer h x) ≡ false
up_silent f i (TaskFinished seen q a) h x k = refl
up_silent f i (TaskErred seen q a) h x k = refl
up_silent f i (AddKeys seen ks) h x k = ap (λ (a : Facts → ℕ → List Down). list_any (takes_away k) (a h x)) (left_plain f i seen ks).answer
up_silent f i (ReleaseWorkerData seen q) h x k = refl
up_silent f i (MissingData seen q p c) h x k = by (eqb x i)
  where
    by : (b : Bool) → list_any (takes_away k) (cond b (RefreshWhoHas (who_has h (q ∷ [])) ∷ []) []) ≡ false
    by true = refl
    by false = refl
up_silent f i (RequestRefreshWhoHas seen q) h x k = by (eqb x i)
  where
    by : (b : Bool) → list_any (takes_away k) (cond b (RefreshWhoHas (who_has h (q ∷ [])) ∷ []) []) ≡ false
    by true = refl
    by false = refl
up_silent f i (StealResponse seen q a agreed) h x k = refl

silent_lost : (f : Facts) (x k c : ℕ) → (lost_copy f x k c).answer ≡ (plain f).answer
unfolding lost_copy
silent_lost f x k c = by (is_copy c (f.has x k))
  where
    by : (b : Bool) → (cond b (record (plain (record f { has = put_pair f.has x k None })) { freed = put_pair nothing_freed x k true }) (plain f)).answer ≡ (plain f).answer
    by true = refl
    by false = refl

module _ (j : Job) (w : World) (joint : IsJoint j w) (old : AreOld w) (fenced : AreFenced w.sched) (i : ℕ) (m : Up) (ms : List Up) (e : w.up i ≡ m ∷ ms) (there : is_connected w i ≡ true) where
  abbrev pub f : Facts
  f = w.sched

  abbrev pub v : World
  v = record w { up = put w.up i ms }

  abbrev pub g : Changed
  g = change_up w.sched i m

  abbrev pub t : Stages
  t = settle w.sched (change_up w.sched i m)

  pub drawn : AreDrawn w.sched
  drawn k q o = joint.numbered.below k q.0 q.1 o

  takes : sched_takes w.sched (FromWorker i m) ≡ true
  takes = taken_up j.setting.shape w joint.inside i m ms e there

  pub sh : IsSound (change_up w.sched i m).facts
  sh = sound_changed w.sched joint.sound (FromWorker i m) takes

  pub at : (k : ℕ) → SettlesAt (settle w.sched (change_up w.sched i m)) k
  at k = settles_at w.sched (change_up w.sched i m) (sound_drop_bad (change_up w.sched i m).facts sh) k

  pub row : (x k : ℕ) → IsPlain w.sched (change_up w.sched i m) x k (cond (eqb i x) (report_of k m) Quiet) no_side
  row x k = up_row w.sched i m x k there joint.sound joint.settled joint.numbered

  numbers : (1 ≤ i) × (i ≤ w.sched.last_worker)
  numbers = joint.sound.numbers i there

  pub last : (change_up w.sched i m).facts.last_worker ≡ w.sched.last_worker
  last = let l = (change_framed w.sched (FromWorker i m)).last_worker in omega (arith, l)

  pub setting : (change_up w.sched i m).facts.setting ≡ w.sched.setting
  setting = (change_framed w.sched (FromWorker i m)).setting

  pub turn_is : world_step j w (DeliverUp i) ≡ scheduled v (finish_step (settle w.sched (change_up w.sched i m)))
  unfolding world_step sched_step
  turn_is = ap (take_up_first w i) e ∙ ap (take_up v i m) there

  pub honest : ((x k c : ℕ) → (change_up w.sched i m).facts.has x k ≡ Some c → c < w.sched.counter → w.sched.has x k ≡ Some c) → IsHonest w.sched (settle w.sched (change_up w.sched i m))
  unfolding settle
  honest copies = record {
    at = at;
    alone = λ x k o. (row x k).alone o;
    freed = λ x k o. (row x k).gone o;
    silent = λ x k. up_silent w.sched i m _ x k;
    copies = copies;
    sent = (at 0).sent_is ∙ (change_framed w.sched (FromWorker i m)).sent;
    fences = (at 0).fence_is ∙ (change_framed w.sched (FromWorker i m)).fence;
    fenced = fenced;
  }

  -- the message is no loss that counts, or its key's copy is gone
  abbrev pub IsLossy : Type 0
  IsLossy = (k : ℕ) → counts_loss w.sched i k m ≡ true → holds (finish_step (settle w.sched (change_up w.sched i m))).facts i k ≡ false

  pub is_taken : ((x k c : ℕ) → (change_up w.sched i m).facts.has x k ≡ Some c → c < w.sched.counter → w.sched.has x k ≡ Some c) → IsLossy → IsTaken w v (settle w.sched (change_up w.sched i m))
  unfolding settle
  is_taken copies lossy = record {
    alive = refl;
    workers = refl;
    clients = refl;
    answers = refl;
    last = last_posted t ∙ (at 0).last_is ∙ last;
    setting = setting_posted t ∙ (at 0).setting_is ∙ setting;
    old = old;
    honest = honest copies;
    took = λ x k l. by x k (eqb x i) refl l;
  }
    where
      by : (x k : ℕ) (b : Bool) → eqb x i ≡ b → list_any (counts_loss w.sched x k) (w.up x) ≡ true
          → (list_any (counts_loss w.sched x k) (cond b ms (w.up x)) ≡ true) ⊎ (holds (finish_step (settle w.sched (change_up w.sched i m))).facts x k ≡ false)
      by x k false q l = inl l
      by x k true q l = let s : x ≡ i = eqb-true x i q in
          ⊎_elim (λ a. inr (subst (λ y. holds (finish_step (settle w.sched (change_up w.sched i m))).facts y k ≡ false) (sym s) (lossy k (subst (λ y. counts_loss w.sched y k m ≡ true) s a)))) (λ a. inl a)
          (or_cases (counts_loss w.sched x k m) (list_any (counts_loss w.sched x k) ms) (ap (list_any (counts_loss w.sched x k)) (sym (ap w.up s ∙ e)) ∙ l))

  -- where no other worker gets a copy, the disturbances fall by what the worker's own share falls
  module _ (copies : (x k c : ℕ) → (change_up w.sched i m).facts.has x k ≡ Some c → c < w.sched.counter → w.sched.has x k ≡ Some c) (lossy : IsLossy)
      (others : (x k : ℕ) → eqb x i ≡ false → holds (finish_step (settle w.sched (change_up w.sched i m))).facts x k ≡ true → holds w.sched x k ≡ true)
      (n : ℕ) (own : death_disturbs (under (record w { up = put w.up i ms }) (finish_step (settle w.sched (change_up w.sched i m))).facts) i + n ≤ death_disturbs w i + up_disturbs w i m) where
    pub T : IsTaken w v (settle w.sched (change_up w.sched i m))
    T = is_taken copies lossy

    old_rest : AllByRecursion (IsOldUp w.sched.counter) (m ∷ ms)
    old_rest = subst (λ l. AllByRecursion (IsOldUp w.sched.counter) l) e (old.up i)

    own_site : Site w v t T i n
    own_site =
        let a : sum_of (up_disturbs (under v (finish_step t).facts) i) ms ≤ sum_of (up_disturbs w i) ms = ups_less w v t T.honest T.alive T.took i ms old_rest.1 in
        let b : sum_of (up_disturbs (under v (finish_step t).facts) i) (cond (eqb i i) ms (w.up i)) ≡ sum_of (up_disturbs (under v (finish_step t).facts) i) ms = ap (λ b. sum_of (up_disturbs (under v (finish_step t).facts) i) (cond b ms (w.up i))) (eq-eqb i i refl) in
        let c : sum_of (up_disturbs w i) (w.up i) ≡ up_disturbs w i m + sum_of (up_disturbs w i) ms = ap (sum_of (up_disturbs w i)) e in
        omega (arith, a, b, c, own)

    other_site : (x : ℕ) → eqb x i ≡ false → Site w v t T x 0
    other_site x q =
        let a : sum_of (up_disturbs (under v (finish_step t).facts) x) (w.up x) ≤ sum_of (up_disturbs w x) (w.up x) = ups_less w v t T.honest T.alive T.took x (w.up x) (old.up x) in
        let b : sum_of (up_disturbs (under v (finish_step t).facts) x) (cond (eqb x i) ms (w.up x)) ≡ sum_of (up_disturbs (under v (finish_step t).facts) x) (w.up x) = ap (λ b. sum_of (up_disturbs (under v (finish_step t).facts) x) (cond b ms (w.up x))) q in
        let c : death_disturbs (under v (finish_step t).facts) x ≤ death_disturbs w x = death_less w v t T x (λ k h. others x k q h) in
        omega (arith, a, b, c)

    connects : (x : ℕ) → connected (finish_step t).facts x ≡ true → connected w.sched x ≡ true
    unfolding settle
    connects x c = (change_framed w.sched (FromWorker i m)).threads x (ap (λ y. is_some (y x)) (sym (threads_posted t ∙ (at 0).threads_is)) ∙ c)
        (let l : (finish_step t).facts.last_worker ≡ w.sched.last_worker = T.last in let h = (sh.numbers x (ap (λ y. is_some (y x)) (sym (threads_posted t ∙ (at 0).threads_is)) ∙ c)).1 in omega (arith, h, last))

    site : (x : ℕ) → Site w v t T x 0
    site x = pick (eqb x i) refl
      where
        pick : (b : Bool) → eqb x i ≡ b → Site w v t T x 0
        pick false q = other_site x q
        pick true q = subst (λ y. Site w v t T y 0) (sym (eqb-true x i q)) (let l : Site w v t T i n = own_site in omega (arith, l))

    all_less : (x : ℕ) → worker_disturbs (under v (finish_step t).facts) x ≤ worker_disturbs w x
    all_less x = worker_less w v t T x (λ c. (connects x c, site x))

    client_less : (c : ℕ) → client_disturbs (under v (finish_step t).facts) c ≤ client_disturbs w c
    unfolding client_disturbs
    client_less c = letters_less w v t T.honest T.alive T.took (w.from_client c) (old.letters c)

    pub disturbs_fall : connected (finish_step (settle w.sched (change_up w.sched i m))).facts i ≡ true → disturbances (scheduled (record w { up = put w.up i ms }) (finish_step (settle w.sched (change_up w.sched i m)))) + n ≤ disturbances w
    disturbs_fall stays = turn_at_worker w v t T n i all_less (range_has 1 w.sched.last_worker i numbers.0 (let h = numbers.1 in omega (arith, h))) (worker_at w v t T i n stays there own_site) client_less

    -- or by what another worker's falls
    pub disturbs_fall_at : (x : ℕ) → connected w.sched x ≡ true → connected (finish_step (settle w.sched (change_up w.sched i m))).facts x ≡ true → Site w v (settle w.sched (change_up w.sched i m)) T x 1
        → disturbances (scheduled (record w { up = put w.up i ms }) (finish_step (settle w.sched (change_up w.sched i m)))) + 1 ≤ disturbances w
    disturbs_fall_at x was stays l = let h = joint.sound.numbers x was in turn_at_worker w v t T 1 x all_less (range_has 1 w.sched.last_worker x h.0 (let z = h.1 in omega (arith, z))) (worker_at w v t T x 1 stays was l) client_less
