-- A loss that counts, and a copy that a worker missed, lower the disturbances.
use Rattle.std.proofs.Common.{◌≡◌, ℕ, ◌+◌, ◌<◌, ◌≤◌, Bool, true, false, cond, not, ◌&&◌, List, ◌∷◌, Option, Some, None, refl, sym, ap, ◌∙◌, subst, arith, is_some, ⊎_elim}
use Rattle.std.specs.Prelude.{nat_le}
use Rattle.std.specs.List.{list_any, AllByRecursion}
use Rattle.std.proofs.Math.Dec.{eqb}
use Rattle.std.proofs.lemmas.Bool.{true≢false, false≢true, eqb-true, eq-eqb, or_left, cases_lt}
use Rattle.small_facts.proofs.Truth.{and_first}
use Rattle.cluster_msgs.specs.declared.messages.Up.{Up}
use Rattle.cluster_msgs.specs.declared.messages.Up.TheVariants.{ReleaseWorkerData, MissingData}
use Rattle.cluster_msgs.specs.declared.messages.ToClient.{ToClient}
use Rattle.cluster_msgs.specs.declared.events.Event.TheVariants.{DeliverUp}
use Rattle.cluster_rules.specs.Functions.{from_one, put, put_pair, total}
use Rattle.cluster_rules.specs.Derived.{below}
use Rattle.cluster_rules.specs.Sched.{Facts, keys, holds, connected}
use Rattle.cluster_rules.specs.SchedTable.{Changed, change_up, plain, nothing_freed, released, is_copy, lost_copy}
use Rattle.cluster_rules.specs.SchedStep.{Stages, settle, finish_step, lost, reply_message, to_clients}
use Rattle.cluster_rules.specs.World.{Job, World, is_connected}
use Rattle.cluster_rules.specs.WorldStep.{scheduled, world_step}
use Rattle.pair_machine.specs.Pair.{AllSeen, IsPair}
use Rattle.pair_moves.specs.Projection.{reports}
use Rattle.safety_laws.specs.Joint.{pair_at}
use Rattle.safety_laws.proofs.Joint.{IsJoint}
use Rattle.quiet_measure.specs.Weights.{bit, sum_of, question, is_current, up_weight, news_weight}
use Rattle.quiet_measure.specs.Measure.{deaths, most_asked, counts_loss, is_doomed, death_disturbs, up_disturbs, disturbances, Falls}
use Rattle.quiet_measure.specs.Lighter.{under}
use Rattle.quiet_measure.specs.Changes.{IsLessening}
use Rattle.quiet_measure.proofs.Posts.{answer_cost, reply_cost}
use Rattle.quiet_measure.proofs.Pay.{most_deaths}
use Rattle.quiet_measure.proofs.FallPay.{lighter}
use Rattle.quiet_measure.proofs.Assemble.{event_total}
use Rattle.quiet_laws.specs.Old.{IsOldUp, AreOld, AreFenced}
use Rattle.quiet_laws.proofs.Wrongful.{has_is}
use Rattle.quiet_laws.proofs.Disturbed.{Site, death_less}
use Rattle.quiet_measure.proofs.Combine.{threads_posted}
use Rattle.quiet_laws.proofs.UpTurn.{drawn, sh, at, is_taken, T, disturbs_fall, disturbs_fall_at}
use Rattle.quiet_laws.proofs.UpFalls.{held_then, connects_still, up_less_with}
use Rattle.quiet_laws.proofs.Plain.{plain_costs}
use Rattle.quiet_laws.proofs.AnswerCosts.{refresh_cost}
use Rattle.quiet_laws.proofs.Gone.{gone, gone_less, gone_there, gone_kept, freed_one, lost_at, lost_some, copy_holds}
use Rattle.quiet_laws.proofs.Doomed.{doomed_site}

-- ## A loss

released_some : (f : Facts) (i seen k : ℕ) → nat_le (f.fence i k) seen ≡ true → released f i seen k ≡ gone f i k
unfolding released
released_some f i seen k e = ap (λ b. cond b (gone f i k) f) e

pub loss_falls : (j : Job) (w : World) (joint : IsJoint j w) (old : AreOld w) (fenced : AreFenced w.sched) (i seen k : ℕ) (ms : List Up) (e : w.up i ≡ ReleaseWorkerData seen k ∷ ms) (there : is_connected w i ≡ true)
    → nat_le (w.sched.fence i k) seen ≡ true → Falls w (world_step j w (DeliverUp i))
loss_falls j w joint old fenced i seen k ms e there n = up_less_with j w joint old fenced i (ReleaseWorkerData seen k) ms e there (ap (λ (f : Facts). f.threads) same) copies lossy (λ x q o. kept x q)
    less fewer (λ b q. let z = plain_costs w.sched (released w.sched i seen k) (deaths (settle w.sched (plain (released w.sched i seen k))).placed b) (below (keys w.sched)) in omega (arith, z))
  where
    same : released w.sched i seen k ≡ gone w.sched i k
    same = released_some w.sched i seen k n

    less : IsLessening w.sched (released w.sched i seen k)
    less = subst (λ (h : Facts). IsLessening w.sched h) (sym same) (gone_less w.sched i k)

    copies : (x q c : ℕ) → (released w.sched i seen k).has x q ≡ Some c → c < w.sched.counter → w.sched.has x q ≡ Some c
    copies x q c h l = less.copies x q c h

    kept : (x q : ℕ) → holds (finish_step (settle w.sched (plain (released w.sched i seen k)))).facts x q ≡ true → holds w.sched x q ≡ true
    kept x q h = gone_kept w.sched i k x q (sym (ap (λ (f : Facts). holds f x q) same) ∙ held_then j w joint old fenced i (ReleaseWorkerData seen k) ms e there x q h)

    none : (b c : Bool) → (b ≡ true → c ≡ true) → c ≡ false → b ≡ false
    none true c p q = absurd (true≢false (sym (p refl) ∙ q))
    none false c p q = refl

    lossy : (q : ℕ) → (eqb k q && nat_le (w.sched.fence i q) seen) ≡ true → holds (finish_step (settle w.sched (plain (released w.sched i seen k)))).facts i q ≡ false
    lossy q h = none _ (holds (released w.sched i seen k) i q) (held_then j w joint old fenced i (ReleaseWorkerData seen k) ms e there i q)
        (ap (λ z. holds (released w.sched i seen k) i z) (sym (eqb-true k q (and_first (eqb k q) _ h))) ∙ ap (λ (f : Facts). holds f i k) same ∙ gone_there w.sched i k)

    fewer : disturbances (scheduled (record w { up = put w.up i ms }) (finish_step (settle w.sched (plain (released w.sched i seen k))))) + 1 ≤ disturbances w
    fewer = disturbs_fall j w joint old fenced i (ReleaseWorkerData seen k) ms e there copies lossy (λ x q o. kept x q) 1
        (let l = death_less w (record w { up = put w.up i ms }) (settle w.sched (plain (released w.sched i seen k))) (is_taken j w joint old fenced i (ReleaseWorkerData seen k) ms e there copies lossy) i (kept i) in
        let z : bit (nat_le (w.sched.fence i k) seen) ≡ 1 = ap bit n in omega (arith, l, z))
        (connects_still j w joint old fenced i (ReleaseWorkerData seen k) ms e there i (ap (λ (f : Facts). f.threads) same) there)

-- ## A copy that is missed though it counts

module _ (j : Job) (w : World) (joint : IsJoint j w) (old : AreOld w) (fenced : AreFenced w.sched) (i seen k x c : ℕ) (ms : List Up) (e : w.up i ≡ MissingData seen k x c ∷ ms) (there : is_connected w i ≡ true)
    (current : is_current w.sched x k c ≡ true) where
  abbrev M : Up
  M = MissingData seen k x c

  abbrev g : Changed
  g = change_up w.sched i (MissingData seen k x c)

  abbrev v : World
  v = record w { up = put w.up i ms }

  same : lost_copy w.sched x k c ≡ lost_at w.sched x k
  same = lost_some w.sched x k c current

  facts : (lost_copy w.sched x k c).facts ≡ gone w.sched x k
  facts = ap (λ (g : Changed). g.facts) same

  less : IsLessening w.sched (change_up w.sched i (MissingData seen k x c)).facts
  less = subst (λ (h : Facts). IsLessening w.sched h) (sym facts) (gone_less w.sched x k)

  threads : (change_up w.sched i (MissingData seen k x c)).facts.threads ≡ w.sched.threads
  threads = ap (λ (f : Facts). f.threads) facts

  copies : (y q d : ℕ) → (change_up w.sched i (MissingData seen k x c)).facts.has y q ≡ Some d → d < w.sched.counter → w.sched.has y q ≡ Some d
  copies y q d h l = less.copies y q d h

  kept : (y q : ℕ) → holds (finish_step (settle w.sched (change_up w.sched i (MissingData seen k x c)))).facts y q ≡ true → holds w.sched y q ≡ true
  kept y q h = gone_kept w.sched x k y q (sym (ap (λ (f : Facts). holds f y q) facts) ∙ held_then j w joint old fenced i (MissingData seen k x c) ms e there y q h)

  lossy : (q : ℕ) → counts_loss w.sched i q (MissingData seen k x c) ≡ true → holds (finish_step (settle w.sched (change_up w.sched i (MissingData seen k x c)))).facts i q ≡ false
  lossy q h = absurd (false≢true h)

  had : holds w.sched x k ≡ true
  had = copy_holds c (w.sched.has x k) current

  was_connected : connected w.sched x ≡ true
  was_connected = joint.sound.holders x k had

  none : (b c : Bool) → (b ≡ true → c ≡ true) → c ≡ false → b ≡ false
  none true c p q = absurd (true≢false (sym (p refl) ∙ q))
  none false c p q = refl

  now_gone : holds (finish_step (settle w.sched (change_up w.sched i (MissingData seen k x c)))).facts x k ≡ false
  now_gone = none _ (holds (change_up w.sched i (MissingData seen k x c)).facts x k) (held_then j w joint old fenced i (MissingData seen k x c) ms e there x k) (ap (λ (f : Facts). holds f x k) facts ∙ gone_there w.sched x k)

  is_key : k < keys w.sched
  is_key = ⊎_elim (λ l. l) (λ l. absurd (true≢false (sym had ∙ ap is_some (joint.sound.has x k l)))) (cases_lt k (keys w.sched))

  lose : lost (settle w.sched (change_up w.sched i (MissingData seen k x c))) x k ≡ true
  unfolding settle
  lose = or_left ((change_up w.sched i (MissingData seen k x c)).freed x k) _ (ap (λ (g : Changed). g.freed x k) same ∙ ap (λ b. cond (b && eqb k k) true false) (eq-eqb x x refl) ∙ ap (λ b. cond b true false) (eq-eqb k k refl))

  dead_less : death_disturbs (under (record w { up = put w.up i ms }) (finish_step (settle w.sched (change_up w.sched i (MissingData seen k x c)))).facts) i ≤ death_disturbs w i
  dead_less = death_less w (record w { up = put w.up i ms }) (settle w.sched (change_up w.sched i (MissingData seen k x c))) (is_taken j w joint old fenced i (MissingData seen k x c) ms e there copies lossy) i (kept i)

  own_ok : death_disturbs (under (record w { up = put w.up i ms }) (finish_step (settle w.sched (change_up w.sched i (MissingData seen k x c)))).facts) i + 0 ≤ death_disturbs w i + up_disturbs w i (MissingData seen k x c)
  own_ok = omega (arith, dead_less)

  stays : (y : ℕ) → connected w.sched y ≡ true → connected (finish_step (settle w.sched (change_up w.sched i (MissingData seen k x c)))).facts y ≡ true
  stays y q = connects_still j w joint old fenced i (MissingData seen k x c) ms e there y threads q

  before_key : k < keys (settle w.sched (change_up w.sched i (MissingData seen k x c))).before
  unfolding settle
  before_key = is_key

  high : x ≤ (settle w.sched (change_up w.sched i (MissingData seen k x c))).placed.last_worker
  unfolding settle
  high = let a = (joint.sound.numbers x was_connected).1 in let b = (at j w joint old fenced i (MissingData seen k x c) ms e there k).last_is in let d = ap (λ (f : Facts). f.last_worker) facts in omega (arith, a, b, d)

  placed_connected : connected (settle w.sched (change_up w.sched i (MissingData seen k x c))).placed x ≡ true
  placed_connected = ap (λ y. is_some (y x)) (sym (threads_posted (settle w.sched (change_up w.sched i (MissingData seen k x c))))) ∙ stays x was_connected

  -- where its worker or a loss dooms it, its doom goes with it
  by_doom : is_doomed w x k ≡ true → Site (w) (record w { up = put w.up i ms }) (settle w.sched (change_up w.sched i (MissingData seen k x c))) (T j w joint old fenced i (MissingData seen k x c) ms e there copies lossy (λ x q o. kept x q) 0 own_ok) x 1
  by_doom doom = doomed_site w v (settle w.sched (change_up w.sched i (MissingData seen k x c))) (T j w joint old fenced i (MissingData seen k x c) ms e there copies lossy (λ x q o. kept x q) 0 own_ok) x k ((w.workers x).seen)
      before_key is_key (joint.sound.numbers x was_connected).0 high placed_connected had now_gone lose (kept x) doom (sums (eqb x i) refl) (losses (eqb x i) refl) (λ a. said a (eqb x i) refl) (olds (eqb x i) refl)
    where
      sums : (b : Bool) → eqb x i ≡ b → sum_of (up_disturbs w x) (cond b ms (w.up x)) ≤ sum_of (up_disturbs w x) (w.up x)
      sums false q = omega arith
      sums true q = let z : sum_of (up_disturbs w x) (w.up x) ≡ up_disturbs w x (MissingData seen k x c) + sum_of (up_disturbs w x) ms = ap (sum_of (up_disturbs w x)) (ap w.up (eqb-true x i q) ∙ e) in omega (arith, z)

      losses : (b : Bool) → eqb x i ≡ b → list_any (counts_loss w.sched x k) (w.up x) ≡ true → list_any (counts_loss w.sched x k) (cond b ms (w.up x)) ≡ true
      losses false q h = h
      losses true q h = sym (ap (list_any (counts_loss w.sched x k)) (ap w.up (eqb-true x i q) ∙ e)) ∙ h

      said : w.alive x ≡ true → (b : Bool) → eqb x i ≡ b → AllSeen (w.workers x).seen (reports k (cond b ms (w.up x))) × ((w.workers x).seen ≤ w.sched.sent x)
      said a b q = (front b q pair.heard_of, (let z = pair.places in omega (arith, z)))
        where
          pair : IsPair (pair_at w x k)
          pair = joint.paired x k is_key a was_connected

          front : (b : Bool) → eqb x i ≡ b → AllSeen (w.workers x).seen (reports k (w.up x)) → AllSeen (w.workers x).seen (reports k (cond b ms (w.up x)))
          front false q h = h
          front true q h = (subst (λ us. AllSeen (w.workers x).seen (reports k us)) (ap w.up (eqb-true x i q) ∙ e) h).1

      olds : (b : Bool) → eqb x i ≡ b → AllByRecursion (IsOldUp w.sched.counter) (cond b ms (w.up x))
      olds false q = old.up x
      olds true q = (subst (λ us. AllByRecursion (IsOldUp w.sched.counter) us) (ap w.up (eqb-true x i q) ∙ e) (old.up x)).1

  fewer : disturbances (scheduled (record w { up = put w.up i ms }) (finish_step (settle w.sched (change_up w.sched i (MissingData seen k x c))))) + 1 ≤ disturbances w
  fewer = pick (is_doomed w x k) refl
    where
      pick : (b : Bool) → is_doomed w x k ≡ b → disturbances (scheduled (record w { up = put w.up i ms }) (finish_step (settle w.sched (change_up w.sched i (MissingData seen k x c))))) + 1 ≤ disturbances w
      pick true d = disturbs_fall_at j w joint old fenced i (MissingData seen k x c) ms e there copies lossy (λ x q o. kept x q) 0 own_ok x was_connected (stays x was_connected) (by_doom d)
      pick false d = disturbs_fall j w joint old fenced i (MissingData seen k x c) ms e there copies lossy (λ x q o. kept x q) 1
          (let z : bit (is_current w.sched x k c && not (is_doomed w x k)) ≡ 1 = ap (λ b. bit (b && not (is_doomed w x k))) current ∙ ap (λ b. bit (not b)) d in omega (arith, dead_less, z)) (stays i there)

  costs : (b : ℕ) → b + 1 ≡ disturbances w → event_total (settle w.sched (change_up w.sched i (MissingData seen k x c))) (deaths (settle w.sched (change_up w.sched i (MissingData seen k x c))).placed b) (below (keys w.sched))
      + (answer_cost (settle w.sched (change_up w.sched i (MissingData seen k x c))) (deaths (settle w.sched (change_up w.sched i (MissingData seen k x c))).placed b) + reply_cost (settle w.sched (change_up w.sched i (MissingData seen k x c))) (deaths (settle w.sched (change_up w.sched i (MissingData seen k x c))).placed b)) + 1
      ≤ up_weight w.sched (deaths w.sched (disturbances w)) (MissingData seen k x c) + (most_asked b + 4)
  unfolding settle
  costs b n =
      let S : Stages = settle w.sched (change_up w.sched i (MissingData seen k x c)) in
      let D : ℕ → ℕ = deaths (settle w.sched (change_up w.sched i (MissingData seen k x c))).placed b in
      let a : event_total S D (below (keys w.sched)) ≡ total (λ q. total (λ y. cond (put_pair nothing_freed x k true y q) (question D q + 1) 0) (from_one S.placed.last_worker)) (below (keys w.sched)) =
      ap (λ (z : ℕ → ℕ → Bool). total (λ q. total (λ y. cond (z y q) (question D q + 1) 0) (from_one S.placed.last_worker)) (below (keys w.sched))) (ap (λ (g : Changed). g.freed) same) in
      let f = freed_one D x k S.placed.last_worker (keys w.sched) in
      let r = refresh_cost S.placed D i k S.placed.last_worker in
      let y : reply_cost S D ≡ 0 = ap (λ (o : Option (ℕ × ℕ)). sum_of (λ (z : ℕ × ToClient). news_weight S.placed D z.1) (reply_message S (to_clients S) o)) (ap (λ (g : Changed). g.reply) same) in
      let l = (lighter w.sched (change_up w.sched i (MissingData seen k x c)) joint.sound joint.settled (drawn j w joint old fenced i (MissingData seen k x c) ms e there) (sh j w joint old fenced i (MissingData seen k x c) ms e there) less b (disturbances w) (omega (arith, n))).gone x k c current not_now in
      let z : bit (is_current w.sched x k c) ≡ 1 = ap bit current in
      let m = most_deaths S.placed b k in
      omega (arith, a, f, r, y, l, z, m)
    where
      placed_gone : (o : Option ℕ) → is_some o ≡ false → is_copy c o ≡ false
      placed_gone None q = refl
      placed_gone (Some d) q = absurd (true≢false q)

      not_now : is_current (settle w.sched (change_up w.sched i (MissingData seen k x c))).placed x k c ≡ false
      not_now = placed_gone _ (sym (ap (λ h. is_some (h x k)) (has_is (settle w.sched (change_up w.sched i (MissingData seen k x c))))) ∙ now_gone)

  pub missing_falls : Falls w (world_step j w (DeliverUp i))
  missing_falls = up_less_with j w joint old fenced i (MissingData seen k x c) ms e there threads copies lossy (λ x q o. kept x q) less fewer costs
