-- That a dead worker is seen to be dead lowers the measure.
use Rattle.std.proofs.Common.{◌≡◌, ℕ, zero, suc, ◌+◌, ◌≤◌, Bool, true, false, cond, [], ◌++◌, Option, Some, None, refl, sym, ap, ◌∙◌, subst, arith, is_some, inl, inr, ◌⊎◌}
use Rattle.std.specs.List.{list_any}
use Rattle.std.proofs.lemmas.Bool.{true≢false, false≢true, eqb-true, eq-eqb}
use Rattle.std.proofs.Math.Dec.{eqb}
use Rattle.small_facts.proofs.Ranges.{range_has}
use Rattle.cluster_msgs.specs.declared.cores.SchedEvent.TheVariants.{Leave}
use Rattle.cluster_msgs.specs.declared.events.Event.TheVariants.{SeeLoss}
use Rattle.cluster_rules.specs.Functions.{from_one, put, total, count}
use Rattle.cluster_rules.specs.Derived.{below}
use Rattle.cluster_rules.specs.Sched.{Facts, IsSound, keys, holds, held, connected, is_on, is_for, need}
use Rattle.cluster_rules.specs.SchedTable.{Changed, plain, left, sched_takes}
use Rattle.cluster_rules.specs.SchedStep.{Stages, drop_bad, settle, finish_step, sched_step, mail}
use Rattle.cluster_rules.specs.World.{Job, World, is_connected, all_workers, all_clients}
use Rattle.cluster_rules.specs.WorldStep.{scheduled, cut_off, world_step}
use Rattle.cluster_rules.proofs.SoundStep.{sound_changed}
use Rattle.cluster_laws.proofs.Framed.{change_framed}
use Rattle.cluster_laws.proofs.Lists.{any_weaken}
use Rattle.cluster_laws.proofs.Errors.{holder_holds, ready_is_not_held}
use Rattle.safety_laws.proofs.Turns.{nothing_posted}
use Rattle.safety_laws.proofs.Joint.{IsJoint}
use Rattle.quiet_measure.specs.Weights.{sum_of, down_weight, up_weight, core_weight}
use Rattle.quiet_measure.specs.Measure.{counts_loss, deaths, up_disturbs, death_disturbs, worker_disturbs, client_disturbs, disturbances, site_weight, worker_weight, client_weight, links_weight, Falls}
use Rattle.quiet_measure.proofs.Sums.{total_at_most}
use Rattle.quiet_measure.proofs.Falling.{same_most}
use Rattle.quiet_measure.specs.Lighter.{under}
use Rattle.quiet_measure.specs.Settles.{SettlesAt}
use Rattle.quiet_measure.specs.Changes.{AreDrawn, IsLessening}
use Rattle.quiet_measure.proofs.Settle.{settles_at}
use Rattle.quiet_measure.proofs.CalmChanges.{sound_drop_bad}
use Rattle.quiet_measure.proofs.Combine.{last_posted, setting_posted, threads_posted}
use Rattle.quiet_measure.proofs.Assemble.{less_falls}
use Rattle.quiet_laws.specs.Old.{AreOld, AreFenced}
use Rattle.quiet_laws.proofs.Wrongful.{IsHonest, has_is, ups_less, letters_less}
use Rattle.quiet_laws.proofs.Disturbed.{IsTaken, Site, worker_less, worker_gone, turn_at_worker, death_less}
use Rattle.quiet_laws.proofs.Plain.{plain_costs}
use Rattle.quiet_laws.proofs.TaskRows.{none_some}

less_some : {A : Type 0} (b : Bool) (o : Option A) (c : A) → cond b None o ≡ Some c → o ≡ Some c
less_some true o c e = absurd (none_some c e)
less_some false o c e = e

less_there : {A : Type 0} (b : Bool) (o : Option A) → is_some (cond b None o) ≡ true → is_some o ≡ true
less_there true o e = absurd (false≢true e)
less_there false o e = e

left_less : (f : Facts) (i : ℕ) → IsLessening f (left f i)
unfolding left held
left_less f i = record {
  setting = refl;
  last = refl;
  counter = refl;
  on = λ k q e. less_some (is_on f i k) (f.on k) q e;
  copies = λ x k c e. less_some (eqb x i) (f.has x k) c e;
  held_before = λ k e. any_weaken (λ w. is_some (cond (eqb w i) None (f.has w k))) (λ w. is_some (f.has w k)) (from_one f.last_worker) (λ w h. less_there (eqb w i) (f.has w k) h) e;
}

left_connected : (f : Facts) (i x : ℕ) → connected (left f i) x ≡ true → (connected f x ≡ true) × (eqb x i ≡ false)
unfolding left
left_connected f i x e = by (eqb x i) refl e
  where
    by : (b : Bool) → eqb x i ≡ b → is_some (cond b None (f.threads x)) ≡ true → (connected f x ≡ true) × (eqb x i ≡ false)
    by true q h = absurd (false≢true h)
    by false q h = (h, q)

left_away : (f : Facts) (i : ℕ) → connected (left f i) i ≡ false
unfolding left
left_away f i = ap (λ b. is_some (cond b None (f.threads i))) (eq-eqb i i refl)

left_none : (f : Facts) (i k : ℕ) → holds (left f i) i k ≡ false
unfolding left
left_none f i k = ap (λ b. is_some (cond b None (f.has i k))) (eq-eqb i i refl)

left_on : (f : Facts) (i x k : ℕ) → is_on (left f i) x k ≡ true → is_some (f.on k) ≡ true
unfolding left
left_on f i x k e = by (is_on f i k) (f.on k) e
  where
    by : (b : Bool) (o : Option (ℕ × ℕ)) → is_for x (cond b None o) ≡ true → is_some o ≡ true
    by true o h = absurd (false≢true h)
    by false None h = absurd (false≢true h)
    by false (Some q) h = refl

module _ (j : Job) (w : World) (joint : IsJoint j w) (old : AreOld w) (fenced : AreFenced w.sched) (i : ℕ) (dead : w.alive i ≡ false) (there : is_connected w i ≡ true) where
  abbrev g : Changed
  g = plain (left w.sched i)

  abbrev t : Stages
  t = settle w.sched (plain (left w.sched i))

  abbrev v : World
  v = cut_off w i

  takes : sched_takes w.sched (Leave i) ≡ true
  unfolding sched_takes
  takes = there

  sh : IsSound (left w.sched i)
  sh = sound_changed w.sched joint.sound (Leave i) takes

  drawn : AreDrawn w.sched
  drawn k q o = joint.numbered.below k q.0 q.1 o

  at : (k : ℕ) → SettlesAt (settle w.sched (plain (left w.sched i))) k
  at k = settles_at w.sched (plain (left w.sched i)) (sound_drop_bad (left w.sched i) sh) k

  less : IsLessening w.sched (left w.sched i)
  less = left_less w.sched i

  connects : (x : ℕ) → connected (finish_step (settle w.sched (plain (left w.sched i)))).facts x ≡ true → connected (left w.sched i) x ≡ true
  unfolding settle
  connects x c = ap (λ y. is_some (y x)) (sym (threads_posted (settle w.sched (plain (left w.sched i))) ∙ (at 0).threads_is)) ∙ c

  away : connected (finish_step (settle w.sched (plain (left w.sched i)))).facts i ≡ false
  away = flip (connected (finish_step (settle w.sched (plain (left w.sched i)))).facts i) refl
    where
      flip : (b : Bool) → connected (finish_step (settle w.sched (plain (left w.sched i)))).facts i ≡ b → b ≡ false
      flip false e = refl
      flip true e = absurd (true≢false (sym (connects i e) ∙ left_away w.sched i))

  mail_none : mail i (finish_step (settle w.sched (plain (left w.sched i)))).down ≡ []
  unfolding sched_step
  mail_none = nothing_posted w.sched (Leave i) i away

  turn_is : world_step j w (SeeLoss i) ≡ scheduled (cut_off w i) (finish_step (settle w.sched (plain (left w.sched i))))
  unfolding world_step sched_step scheduled
  turn_is = λ p. record (scheduled w (finish_step (settle w.sched (plain (left w.sched i))))) { down = λ x. by x (eqb x i) refl p; up = put w.up i [] }
    where
      by : (x : ℕ) (b : Bool) → eqb x i ≡ b → cond b [] (w.down x ++ mail x (finish_step (settle w.sched (plain (left w.sched i)))).down) ≡ cond b [] (w.down x) ++ mail x (finish_step (settle w.sched (plain (left w.sched i)))).down
      by x true e = sym (ap (λ y. mail y (finish_step (settle w.sched (plain (left w.sched i)))).down) (eqb-true x i e) ∙ mail_none)
      by x false e = refl

  -- the links lose what was under way
  taken : links_weight (deaths w.sched (disturbances w)) (cut_off w i) + 0 ≤ links_weight (deaths w.sched (disturbances w)) w
  unfolding links_weight worker_weight client_weight site_weight
  taken =
      let d : ℕ → ℕ = deaths w.sched (disturbances w) in
      let x : total (worker_weight d (cut_off w i)) (all_workers w) ≤ total (worker_weight d w) (all_workers w) = total_at_most _ _ (all_workers w) (λ x. one x (eqb x i)) in
      let y : total (client_weight d (cut_off w i)) (all_clients w) ≤ total (client_weight d w) (all_clients w) = total_at_most _ _ (all_clients w) (λ c. same_most _ _ refl) in
      omega (arith, x, y)
    where
      some : (c a : Bool) (m n k u : ℕ) → cond c (cond a (0 + n) 0 + 0) 0 ≤ cond c (cond a (k + n) 0 + u) 0
      some false a m n k u = omega arith
      some true true m n k u = omega arith
      some true false m n k u = omega arith

      one : (x : ℕ) (b : Bool) → cond (is_connected w x) (cond (w.alive x) (sum_of (down_weight w.sched (deaths w.sched (disturbances w)) x) (cond b [] (w.down x)) + core_weight w.sched (deaths w.sched (disturbances w)) (w.workers x)) 0 + sum_of (up_weight w.sched (deaths w.sched (disturbances w))) (cond b [] (w.up x))) 0
          ≤ cond (is_connected w x) (cond (w.alive x) (sum_of (down_weight w.sched (deaths w.sched (disturbances w)) x) (w.down x) + core_weight w.sched (deaths w.sched (disturbances w)) (w.workers x)) 0 + sum_of (up_weight w.sched (deaths w.sched (disturbances w))) (w.up x)) 0
      one x false = omega arith
      one x true = some (is_connected w x) (w.alive x) 0 _ _ _

  held_then : (x k : ℕ) → holds (finish_step (settle w.sched (plain (left w.sched i)))).facts x k ≡ true → holds (left w.sched i) x k ≡ true
  unfolding settle
  held_then x k h = by (need (drop_bad (left w.sched i)) k) ((left w.sched i).has x k) (sym (ap is_some ((at k).has_is x)) ∙ ap (λ y. is_some (y x k)) (sym (has_is (settle w.sched (plain (left w.sched i))))) ∙ h)
    where
      by : (b : Bool) (o : Option ℕ) → is_some (cond b o None) ≡ true → is_some o ≡ true
      by true o h = h
      by false o h = absurd (false≢true h)

  kept : (x k : ℕ) → holds (finish_step (settle w.sched (plain (left w.sched i)))).facts x k ≡ true → holds w.sched x k ≡ true
  kept x k h = by ((left w.sched i).has x k) refl (held_then x k h)
    where
      by : (o : Option ℕ) → (left w.sched i).has x k ≡ o → is_some o ≡ true → holds w.sched x k ≡ true
      by None q h = absurd (false≢true h)
      by (Some d) q h = ap is_some (less.copies x k d q)

  last : (left w.sched i).last_worker ≡ w.sched.last_worker
  last = less.last

  honest : IsHonest w.sched (settle w.sched (plain (left w.sched i)))
  unfolding settle
  honest = record {
    at = at;
    alone = λ x k o. unheld x k (ready_is_not_held w.sched k (joint.settled.placed_are_ready k (left_on w.sched i x k o)));
    freed = λ x k o. absurd (false≢true o);
    silent = λ x k. refl;
    copies = λ x k c h l. less.copies x k c h;
    sent = (at 0).sent_is ∙ (change_framed w.sched (Leave i)).sent;
    fences = (at 0).fence_is ∙ (change_framed w.sched (Leave i)).fence;
    fenced = fenced;
  }
    where
      unheld : (x k : ℕ) → held w.sched k ≡ false → holds (left w.sched i) x k ≡ false
      unheld x k n = flip (holds (left w.sched i) x k) refl ((left w.sched i).has x k) refl
        where
          flip : (b : Bool) → holds (left w.sched i) x k ≡ b → (o : Option ℕ) → (left w.sched i).has x k ≡ o → b ≡ false
          flip false q o p = refl
          flip true q None p = absurd (false≢true (sym (ap is_some p) ∙ q))
          flip true q (Some d) p = absurd (true≢false (sym (holder_holds w.sched joint.sound x k (ap is_some (less.copies x k d p))) ∙ n))

  not_there : (k : ℕ) → holds (finish_step (settle w.sched (plain (left w.sched i)))).facts i k ≡ false
  not_there k = flip (holds (finish_step (settle w.sched (plain (left w.sched i)))).facts i k) refl
    where
      flip : (b : Bool) → holds (finish_step (settle w.sched (plain (left w.sched i)))).facts i k ≡ b → b ≡ false
      flip false e = refl
      flip true e = absurd (true≢false (sym (held_then i k e) ∙ left_none w.sched i k))

  T : IsTaken w (cut_off w i) (settle w.sched (plain (left w.sched i)))
  unfolding settle
  T = record {
    alive = refl;
    workers = refl;
    clients = refl;
    answers = refl;
    last = last_posted t ∙ (at 0).last_is ∙ less.last;
    setting = setting_posted t ∙ (at 0).setting_is ∙ less.setting;
    old = old;
    honest = honest;
    took = λ x k l. by x k (eqb x i) refl l;
  }
    where
      by : (x k : ℕ) (b : Bool) → eqb x i ≡ b → list_any (counts_loss w.sched x k) (w.up x) ≡ true
          → (list_any (counts_loss w.sched x k) (cond b [] (w.up x)) ≡ true) ⊎ (holds (finish_step (settle w.sched (plain (left w.sched i)))).facts x k ≡ false)
      by x k false q l = inl l
      by x k true q l = inr (ap (λ y. holds (finish_step (settle w.sched (plain (left w.sched i)))).facts y k) (eqb-true x i q) ∙ not_there k)

  site : (x : ℕ) → eqb x i ≡ false → Site w (cut_off w i) (settle w.sched (plain (left w.sched i))) T x 0
  site x q =
      let a : sum_of (up_disturbs (under (cut_off w i) (finish_step t).facts) x) (w.up x) ≤ sum_of (up_disturbs w x) (w.up x) = ups_less w v t T.honest T.alive T.took x (w.up x) (old.up x) in
      let b : sum_of (up_disturbs (under (cut_off w i) (finish_step t).facts) x) (cond (eqb x i) [] (w.up x)) ≡ sum_of (up_disturbs (under (cut_off w i) (finish_step t).facts) x) (w.up x) = ap (λ b. sum_of (up_disturbs (under (cut_off w i) (finish_step t).facts) x) (cond b [] (w.up x))) q in
      let c : death_disturbs (under (cut_off w i) (finish_step t).facts) x ≤ death_disturbs w x = death_less w v t T x (kept x) in
      omega (arith, a, b, c)

  all_less : (x : ℕ) → worker_disturbs (under (cut_off w i) (finish_step t).facts) x ≤ worker_disturbs w x
  all_less x = worker_less w v t T x (λ c. let p = left_connected w.sched i x (connects x c) in (p.0, site x p.1))

  own_falls : worker_disturbs (under (cut_off w i) (finish_step t).facts) i + 1 ≤ worker_disturbs w i
  unfolding worker_disturbs
  own_falls =
      let z = worker_gone w v t T i away in
      let a : cond (connected w.sched i) (sum_of (up_disturbs w i) (w.up i) + death_disturbs w i) 0 ≡ sum_of (up_disturbs w i) (w.up i) + death_disturbs w i = ap (λ c. cond c (sum_of (up_disturbs w i) (w.up i) + death_disturbs w i) 0) there in
      let b : ◌≡◌ {A = ℕ} (death_disturbs w i) (1 + count (λ k. holds w.sched i k) (below (keys w.sched))) = ap (λ c. cond c 0 (1 + count (λ k. holds w.sched i k) (below (keys w.sched)))) dead in
      omega (arith, z, a, b)

  client_less : (c : ℕ) → client_disturbs (under (cut_off w i) (finish_step t).facts) c ≤ client_disturbs w c
  unfolding client_disturbs
  client_less c = letters_less w v t T.honest T.alive T.took (w.from_client c) (old.letters c)

  fewer : disturbances (scheduled (cut_off w i) (finish_step (settle w.sched (plain (left w.sched i))))) + 1 ≤ disturbances w
  fewer = let n = joint.sound.numbers i there in turn_at_worker w v t T 1 i all_less (range_has 1 w.sched.last_worker i n.0 (let h = n.1 in omega (arith, h))) own_falls client_less

  one_fewer : (d : ℕ) → d + 1 ≤ disturbances w → (n : ℕ) × (n + 1 ≡ disturbances w) × (d ≤ n)
  one_fewer d l = by (disturbances w) l
    where
      by : (x : ℕ) → d + 1 ≤ x → (n : ℕ) × (n + 1 ≡ x) × (d ≤ n)
      by zero l = absurd (omega (arith, l))
      by (suc n) l = (n, omega arith, omega (arith, l))

  pub see_loss_falls : Falls w (world_step j w (SeeLoss i))
  see_loss_falls = subst (λ (x : World). Falls w x) (sym turn_is)
      (let n = one_fewer _ fewer in
      less_falls w (cut_off w i) (plain (left w.sched i)) refl joint.sound joint.settled drawn sh (λ x c. (left_connected w.sched i x c).0) 0 taken less n.0 (let z = n.1 in omega (arith, z))
      (let a = plain_costs w.sched (left w.sched i) (deaths (settle w.sched (plain (left w.sched i))).placed n.0) (below (keys w.sched)) in omega (arith, a)) n.2)
