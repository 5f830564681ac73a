-- A worker's message lowers the measure where what it changes is calm, or lowers the disturbances.
use Rattle.std.proofs.Common.{◌≡◌, ℕ, zero, suc, ◌+◌, ◌<◌, ◌≤◌, Bool, true, false, cond, List, ◌∷◌, Option, Some, None, refl, sym, ap, ◌∙◌, subst, arith, is_some}
use Rattle.std.proofs.Math.Dec.{eqb}
use Rattle.std.proofs.lemmas.Bool.{false≢true}
use Rattle.cluster_msgs.specs.declared.messages.Up.{Up}
use Rattle.cluster_msgs.specs.declared.events.Event.TheVariants.{DeliverUp}
use Rattle.cluster_rules.specs.Functions.{put, total}
use Rattle.cluster_rules.specs.Derived.{below}
use Rattle.cluster_rules.specs.Sched.{keys, holds, connected, need}
use Rattle.cluster_rules.specs.SchedTable.{change_up}
use Rattle.cluster_rules.specs.SchedStep.{Stages, drop_bad, settle, finish_step}
use Rattle.cluster_rules.specs.World.{Job, World, is_connected}
use Rattle.cluster_rules.specs.WorldStep.{scheduled, world_step}
use Rattle.safety_laws.proofs.Joint.{IsJoint}
use Rattle.quiet_measure.specs.Weights.{up_weight}
use Rattle.quiet_measure.specs.Measure.{is_to_try, deaths, most_asked, death_disturbs, up_disturbs, disturbances, links_weight, Falls}
use Rattle.quiet_measure.specs.Lighter.{under}
use Rattle.quiet_measure.specs.Changes.{IsCalmChange, IsLessening}
use Rattle.quiet_measure.proofs.Posts.{answer_cost, reply_cost}
use Rattle.quiet_measure.proofs.Pay.{IsBacked}
use Rattle.quiet_measure.proofs.Popped.{up_popped}
use Rattle.quiet_measure.proofs.CalmPay.{Rest}
use Rattle.quiet_measure.proofs.Assemble.{event_total, calm_falls, less_falls}
use Rattle.quiet_measure.proofs.Combine.{threads_posted}
use Rattle.quiet_laws.specs.Old.{AreOld, AreFenced}
use Rattle.quiet_laws.proofs.Wrongful.{has_is}
use Rattle.quiet_laws.proofs.UpTurn.{drawn, sh, at, turn_is, IsLossy, disturbs_fall}

module _ (j : Job) (w : World) (joint : IsJoint j w) (old : AreOld w) (fenced : AreFenced w.sched) (i : ℕ) (m : Up) (ms : List Up) (e : w.up i ≡ m ∷ ms) (there : is_connected w i ≡ true) where
  abbrev v : World
  v = record w { up = put w.up i ms }

  abbrev t : Stages
  t = settle w.sched (change_up w.sched i m)

  -- who holds a key afterwards held it once the event had changed what it changes by itself
  pub held_then : (x k : ℕ) → holds (finish_step (settle w.sched (change_up w.sched i m))).facts x k ≡ true → holds (change_up w.sched i m).facts x k ≡ true
  unfolding settle
  held_then x k h = by (need (drop_bad (change_up w.sched i m).facts) k) ((change_up w.sched i m).facts.has x k) (sym (ap is_some ((at j w joint old fenced i m ms e there k).has_is x)) ∙ ap (λ y. is_some (y x k)) (sym (has_is (settle w.sched (change_up w.sched i m)))) ∙ h)
    where
      by : (b : Bool) (o : Option ℕ) → is_some (cond b o None) ≡ true → is_some o ≡ true
      by true o h = h
      by false o h = absurd (false≢true h)

  pub connects_still : (x : ℕ) → (change_up w.sched i m).facts.threads ≡ w.sched.threads → connected w.sched x ≡ true → connected (finish_step (settle w.sched (change_up w.sched i m))).facts x ≡ true
  unfolding settle
  connects_still x s c = ap (λ y. is_some (y x)) (threads_posted (settle w.sched (change_up w.sched i m)) ∙ (at j w joint old fenced i m ms e there 0).threads_is ∙ s) ∙ c

  taken : links_weight (deaths w.sched (disturbances w)) v + up_weight w.sched (deaths w.sched (disturbances w)) m ≤ links_weight (deaths w.sched (disturbances w)) w
  taken = let n = joint.sound.numbers i there in up_popped w i m ms e (deaths w.sched (disturbances w)) there n.0 n.1

  module _ (threads : (change_up w.sched i m).facts.threads ≡ w.sched.threads)
      (copies : (x k c : ℕ) → (change_up w.sched i m).facts.has x k ≡ Some c → c < w.sched.counter → w.sched.has x k ≡ Some c) (lossy : IsLossy j w joint old fenced i m ms e there)
      (others : (x k : ℕ) → eqb x i ≡ false → holds (finish_step (settle w.sched (change_up w.sched i m))).facts x k ≡ true → holds w.sched x k ≡ true) where
    pub up_calm : death_disturbs (under (record w { up = put w.up i ms }) (finish_step (settle w.sched (change_up w.sched i m))).facts) i + 0 ≤ death_disturbs w i + up_disturbs w i m
        → (own : ℕ → Bool) (calm : IsCalmChange w.sched (change_up w.sched i m).facts own) (back : (k : ℕ) → own k ≡ true → IsBacked (settle w.sched (change_up w.sched i m)) k (is_to_try w.sched k)) (gain : ℕ → ℕ)
        → ((b : (k : ℕ) → IsBacked (settle w.sched (change_up w.sched i m)) k (is_to_try w.sched k)) (k : ℕ) → Rest w.sched (change_up w.sched i m) own joint.sound joint.settled (drawn j w joint old fenced i m ms e there) (sh j w joint old fenced i m ms e there) calm (disturbances w) b k (gain k))
        → (event_total (settle w.sched (change_up w.sched i m)) (deaths (settle w.sched (change_up w.sched i m)).placed (disturbances w)) (below (keys w.sched)) + total gain (below (keys w.sched)))
        + (answer_cost (settle w.sched (change_up w.sched i m)) (deaths (settle w.sched (change_up w.sched i m)).placed (disturbances w)) + reply_cost (settle w.sched (change_up w.sched i m)) (deaths (settle w.sched (change_up w.sched i m)).placed (disturbances w))) + 1
        ≤ up_weight w.sched (deaths w.sched (disturbances w)) m
        → Falls w (world_step j w (DeliverUp i))
    up_calm dead own calm back gain rest cost = subst (λ (x : World). Falls w x) (sym (turn_is j w joint old fenced i m ms e there))
        (calm_falls w v (change_up w.sched i m) refl joint.sound joint.settled (drawn j w joint old fenced i m ms e there) (sh j w joint old fenced i m ms e there) (λ x d. ap (λ y. is_some (y x)) (sym threads) ∙ d) (up_weight w.sched (deaths w.sched (disturbances w)) m) taken own calm back gain rest cost
        (let l = disturbs_fall j w joint old fenced i m ms e there copies lossy others 0 dead (connects_still i threads there) in omega (arith, l)))

    -- with the disturbances one fewer
    one_fewer : (d : ℕ) → d + 1 ≤ disturbances w → (n : ℕ) × (n + 1 ≡ disturbances w) × (d ≤ n)
    one_fewer d l = by (disturbances w) l
      where
        by : (x : ℕ) → d + 1 ≤ x → (n : ℕ) × (n + 1 ≡ x) × (d ≤ n)
        by zero l = absurd (omega (arith, l))
        by (suc n) l = (n, omega arith, omega (arith, l))

    pub up_less_with : IsLessening w.sched (change_up w.sched i m).facts → disturbances (scheduled (record w { up = put w.up i ms }) (finish_step (settle w.sched (change_up w.sched i m)))) + 1 ≤ disturbances w
        → ((b : ℕ) → b + 1 ≡ disturbances w → event_total (settle w.sched (change_up w.sched i m)) (deaths (settle w.sched (change_up w.sched i m)).placed b) (below (keys w.sched))
        + (answer_cost (settle w.sched (change_up w.sched i m)) (deaths (settle w.sched (change_up w.sched i m)).placed b) + reply_cost (settle w.sched (change_up w.sched i m)) (deaths (settle w.sched (change_up w.sched i m)).placed b)) + 1
        ≤ up_weight w.sched (deaths w.sched (disturbances w)) m + (most_asked b + 4))
        → Falls w (world_step j w (DeliverUp i))
    up_less_with less l cost = subst (λ (x : World). Falls w x) (sym (turn_is j w joint old fenced i m ms e there))
        (let n = one_fewer _ l in
        less_falls w v (change_up w.sched i m) refl joint.sound joint.settled (drawn j w joint old fenced i m ms e there) (sh j w joint old fenced i m ms e there) (λ x d. ap (λ y. is_some (y x)) (sym threads) ∙ d) (up_weight w.sched (deaths w.sched (disturbances w)) m) taken less n.0 (let z = n.1 in omega (arith, z)) (cost n.0 n.1) n.2)
