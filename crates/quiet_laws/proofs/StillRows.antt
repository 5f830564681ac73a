-- A message that changes none of the scheduler's facts lowers the measure.
use Rattle.std.proofs.Common.{◌≡◌, ℕ, ◌+◌, ◌*◌, ◌<◌, ◌≤◌, Bool, true, false, cond, ◌&&◌, List, ◌∷◌, Option, Some, None, refl, sym, ap, ◌∙◌, subst, arith, is_some}
use Rattle.std.specs.Prelude.{nat_le}
use Rattle.std.proofs.Math.Dec.{eqb}
use Rattle.std.proofs.lemmas.Bool.{false≢true, eqb-true}
use Rattle.small_facts.proofs.Truth.{and_first, and_second}
use Rattle.cluster_msgs.specs.declared.messages.ToClient.{ToClient}
use Rattle.cluster_msgs.specs.declared.messages.Up.{Up}
use Rattle.cluster_msgs.specs.declared.messages.Up.TheVariants.{ReleaseWorkerData, MissingData, RequestRefreshWhoHas}
use Rattle.cluster_msgs.specs.declared.events.Event.TheVariants.{DeliverUp}
use Rattle.cluster_rules.specs.Functions.{from_one, put, put_pair, total}
use Rattle.cluster_rules.specs.Derived.{below}
use Rattle.cluster_rules.specs.Sched.{Facts, keys, holds, held, holder_count}
use Rattle.cluster_rules.specs.SchedTable.{Changed, change_up, plain, nothing_freed, nothing_asked, released, is_copy, lost_copy}
use Rattle.cluster_rules.specs.SchedStep.{settle, finish_step, reply_message, to_clients}
use Rattle.cluster_rules.specs.World.{Job, World, is_connected}
use Rattle.cluster_rules.specs.WorldStep.{world_step}
use Rattle.safety_laws.proofs.Joint.{IsJoint}
use Rattle.quiet_measure.specs.Weights.{bit, sum_of, question, is_current, up_weight, news_weight}
use Rattle.quiet_measure.specs.Measure.{is_to_try, deaths, pair_weight, disturbances, Falls}
use Rattle.quiet_measure.proofs.Fewer.{total_nothing}
use Rattle.quiet_measure.specs.Changes.{IsCalmChange}
use Rattle.quiet_measure.proofs.Posts.{answer_cost, reply_cost}
use Rattle.quiet_measure.proofs.Pay.{IsBacked}
use Rattle.quiet_measure.proofs.CalmPay.{backed, lighter}
use Rattle.quiet_measure.proofs.Assemble.{event_total}
use Rattle.quiet_laws.specs.Old.{AreOld, AreFenced}
use Rattle.quiet_laws.proofs.Disturbed.{death_less}
use Rattle.quiet_laws.proofs.UpTurn.{drawn, sh, is_taken, IsLossy}
use Rattle.quiet_laws.proofs.UpFalls.{held_then, up_calm}
use Rattle.quiet_laws.proofs.Plain.{zero_total, calm_same, rest_plain}
use Rattle.quiet_laws.proofs.AnswerCosts.{refresh_cost}

module _ (j : Job) (w : World) (joint : IsJoint j w) (old : AreOld w) (fenced : AreFenced w.sched) (i : ℕ) (m : Up) (ms : List Up) (e : w.up i ≡ m ∷ ms) (there : is_connected w i ≡ true)
    (facts : (change_up w.sched i m).facts ≡ w.sched) (freed : (change_up w.sched i m).freed ≡ nothing_freed) (asked : (change_up w.sched i m).asked ≡ nothing_asked) (lossy : IsLossy j w joint old fenced i m ms e there) where
  abbrev pub own : ℕ → Bool
  own q = false

  calm : IsCalmChange w.sched (change_up w.sched i m).facts (λ q. false)
  calm = subst (λ (h : Facts). IsCalmChange w.sched h (λ q. false)) (sym facts) (calm_same w.sched (λ q. false) (λ q o. false≢true o))

  back : (q : ℕ) → false ≡ true → IsBacked (settle w.sched (change_up w.sched i m)) q (is_to_try w.sched q)
  back q o = absurd (false≢true o)

  copies : (x q c : ℕ) → (change_up w.sched i m).facts.has x q ≡ Some c → c < w.sched.counter → w.sched.has x q ≡ Some c
  copies x q c h l = sym (ap (λ (f : Facts). f.has x q) facts) ∙ h

  kept : (x q : ℕ) → holds (finish_step (settle w.sched (change_up w.sched i m))).facts x q ≡ true → holds w.sched x q ≡ true
  kept x q h = sym (ap (λ (f : Facts). holds f x q) facts) ∙ held_then j w joint old fenced i m ms e there x q h

  -- no key has more deaths left
  pub deaths_less : (q : ℕ) → deaths (settle w.sched (change_up w.sched i m)).placed (disturbances w) q ≤ deaths w.sched (disturbances w) q
  deaths_less q = (lighter w.sched (change_up w.sched i m) (λ q. false) joint.sound joint.settled (drawn j w joint old fenced i m ms e there) (sh j w joint old fenced i m ms e there) calm (disturbances w)
      (λ q. backed w.sched (change_up w.sched i m) (λ q. false) joint.sound joint.settled (drawn j w joint old fenced i m ms e there) (sh j w joint old fenced i m ms e there) calm q refl)).deaths q

  no_event : (d : ℕ → ℕ) (ks : List ℕ) → event_total (settle w.sched (change_up w.sched i m)) d ks ≡ 0
  unfolding settle
  no_event d ks = ap (λ (z : ℕ → ℕ → Bool). total (λ k. total (λ i. cond (z i k) (question d k + 1) 0) (from_one (settle w.sched (change_up w.sched i m)).placed.last_worker)) ks) freed ∙ zero_total (from_one (settle w.sched (change_up w.sched i m)).placed.last_worker) ks

  pub still_falls : (answer_cost (settle w.sched (change_up w.sched i m)) (deaths (settle w.sched (change_up w.sched i m)).placed (disturbances w)) + reply_cost (settle w.sched (change_up w.sched i m)) (deaths (settle w.sched (change_up w.sched i m)).placed (disturbances w))) + 1
      ≤ up_weight w.sched (deaths w.sched (disturbances w)) m → Falls w (world_step j w (DeliverUp i))
  still_falls cost = up_calm j w joint old fenced i m ms e there (ap (λ (f : Facts). f.threads) facts) copies lossy (λ x q o. kept x q)
      (let l = death_less w (record w { up = put w.up i ms }) (settle w.sched (change_up w.sched i m)) (is_taken j w joint old fenced i m ms e there copies lossy) i (kept i) in omega (arith, l))
      (λ q. false) calm back (λ q. 0)
      (λ b q. rest_plain w.sched (change_up w.sched i m) (λ q. false) joint.sound joint.settled (drawn j w joint old fenced i m ms e there) (sh j w joint old fenced i m ms e there) calm (disturbances w) b (λ q. ap (λ z. z q) asked) (λ q h. sym (ap (λ (f : Facts). held f q) facts) ∙ h) (λ q h. sym (ap (λ (f : Facts). is_some (f.on q)) facts) ∙ h) q 0
      (let s : holder_count (change_up w.sched i m).facts q * pair_weight (disturbances w) ≡ holder_count w.sched q * pair_weight (disturbances w) = ap (λ (f : Facts). holder_count f q * pair_weight (disturbances w)) facts in omega (arith, s)))
      (let z = no_event (deaths (settle w.sched (change_up w.sched i m)).placed (disturbances w)) (below (keys w.sched)) in let y : total (λ q. 0) (below (keys w.sched)) ≡ 0 = total_nothing (below (keys w.sched)) in omega (arith, z, y, cost))

-- ## A question

pub request_falls : (j : Job) (w : World) (joint : IsJoint j w) (old : AreOld w) (fenced : AreFenced w.sched) (i seen k : ℕ) (ms : List Up) (e : w.up i ≡ RequestRefreshWhoHas seen k ∷ ms) (there : is_connected w i ≡ true)
    → Falls w (world_step j w (DeliverUp i))
unfolding settle
request_falls j w joint old fenced i seen k ms e there = still_falls j w joint old fenced i (RequestRefreshWhoHas seen k) ms e there refl refl refl (λ q h. absurd (false≢true h))
    (let a = refresh_cost (settle w.sched (change_up w.sched i (RequestRefreshWhoHas seen k))).placed (deaths (settle w.sched (change_up w.sched i (RequestRefreshWhoHas seen k))).placed (disturbances w)) i k (settle w.sched (change_up w.sched i (RequestRefreshWhoHas seen k))).placed.last_worker in
    let b = deaths_less j w joint old fenced i (RequestRefreshWhoHas seen k) ms e there refl refl refl (λ q h. absurd (false≢true h)) k in
    omega (arith, a, b))

-- ## A copy that was there no longer

lost_none : (f : Facts) (x k c : ℕ) → is_copy c (f.has x k) ≡ false → lost_copy f x k c ≡ plain f
unfolding lost_copy
lost_none f x k c e = ap (λ b. cond b (record (plain (record f { has = put_pair f.has x k None })) { freed = put_pair nothing_freed x k true }) (plain f)) e

pub missed_falls : (j : Job) (w : World) (joint : IsJoint j w) (old : AreOld w) (fenced : AreFenced w.sched) (i seen k x c : ℕ) (ms : List Up) (e : w.up i ≡ MissingData seen k x c ∷ ms) (there : is_connected w i ≡ true)
    → is_current w.sched x k c ≡ false → Falls w (world_step j w (DeliverUp i))
unfolding settle
missed_falls j w joint old fenced i seen k x c ms e there n = still_falls j w joint old fenced i (MissingData seen k x c) ms e there facts freed asked (λ q h. absurd (false≢true h))
    (let a = refresh_cost (settle w.sched (change_up w.sched i (MissingData seen k x c))).placed (deaths (settle w.sched (change_up w.sched i (MissingData seen k x c))).placed (disturbances w)) i k (settle w.sched (change_up w.sched i (MissingData seen k x c))).placed.last_worker in
    let b = deaths_less j w joint old fenced i (MissingData seen k x c) ms e there facts freed asked (λ q h. absurd (false≢true h)) k in
    let r : reply_cost (settle w.sched (change_up w.sched i (MissingData seen k x c))) (deaths (settle w.sched (change_up w.sched i (MissingData seen k x c))).placed (disturbances w)) ≡ 0 = no_reply in
    let z : bit (is_current w.sched x k c) ≡ 0 = ap bit n in
    omega (arith, a, b, r, z))
  where
    same : lost_copy w.sched x k c ≡ plain w.sched
    same = lost_none w.sched x k c n

    facts : (lost_copy w.sched x k c).facts ≡ w.sched
    facts = ap (λ (g : Changed). g.facts) same

    freed : (lost_copy w.sched x k c).freed ≡ nothing_freed
    freed = ap (λ (g : Changed). g.freed) same

    asked : (lost_copy w.sched x k c).asked ≡ nothing_asked
    asked = ap (λ (g : Changed). g.asked) same

    no_reply : reply_cost (settle w.sched (change_up w.sched i (MissingData seen k x c))) (deaths (settle w.sched (change_up w.sched i (MissingData seen k x c))).placed (disturbances w)) ≡ 0
    no_reply = ap (λ (o : Option (ℕ × ℕ)). sum_of (λ (z : ℕ × ToClient). news_weight (settle w.sched (change_up w.sched i (MissingData seen k x c))).placed (deaths (settle w.sched (change_up w.sched i (MissingData seen k x c))).placed (disturbances w)) z.1)
        (reply_message (settle w.sched (change_up w.sched i (MissingData seen k x c))) (to_clients (settle w.sched (change_up w.sched i (MissingData seen k x c)))) o)) (ap (λ (g : Changed). g.reply) same)

-- ## A loss that doesn't count

released_none : (f : Facts) (i seen k : ℕ) → nat_le (f.fence i k) seen ≡ false → released f i seen k ≡ f
unfolding released
released_none f i seen k e = ap (λ b. cond b (record f { has = put_pair f.has i k None }) f) e

pub loss_spent_falls : (j : Job) (w : World) (joint : IsJoint j w) (old : AreOld w) (fenced : AreFenced w.sched) (i seen k : ℕ) (ms : List Up) (e : w.up i ≡ ReleaseWorkerData seen k ∷ ms) (there : is_connected w i ≡ true)
    → nat_le (w.sched.fence i k) seen ≡ false → Falls w (world_step j w (DeliverUp i))
unfolding settle
loss_spent_falls j w joint old fenced i seen k ms e there n = still_falls j w joint old fenced i (ReleaseWorkerData seen k) ms e there (released_none w.sched i seen k n) refl refl (λ q h. absurd (spent q h))
    (let a : total (λ i. 0) (from_one (settle w.sched (change_up w.sched i (ReleaseWorkerData seen k))).placed.last_worker) ≡ 0 = total_nothing (from_one (settle w.sched (change_up w.sched i (ReleaseWorkerData seen k))).placed.last_worker) in omega (arith, a))
  where
    spent : (q : ℕ) → (eqb k q && nat_le (w.sched.fence i q) seen) ≡ true → ⊥
    spent q h = false≢true (sym n ∙ ap (λ z. nat_le (w.sched.fence i z) seen) (eqb-true k q (and_first (eqb k q) _ h)) ∙ and_second (eqb k q) _ h)
