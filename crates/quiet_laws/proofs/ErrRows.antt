-- A task that erred lowers the measure as it is counted.
use Rattle.std.proofs.Common.{◌≡◌, ℕ, ◌*◌, ◌<◌, Bool, true, false, cond, not, List, ◌∷◌, Some, None, refl, sym, ap, ◌∙◌, arith, is_some}
use Rattle.std.proofs.lemmas.Bool.{false≢true, eq-eqb, or_left, and_from}
use Rattle.std.proofs.Math.Dec.{eqb}
use Rattle.small_facts.proofs.Truth.{and_second}
use Rattle.cluster_msgs.specs.declared.messages.Up.{Up}
use Rattle.cluster_msgs.specs.declared.messages.Up.TheVariants.{TaskErred}
use Rattle.cluster_msgs.specs.declared.events.Event.TheVariants.{DeliverUp}
use Rattle.cluster_rules.specs.Functions.{put}
use Rattle.cluster_rules.specs.Derived.{below}
use Rattle.cluster_rules.specs.Sched.{Facts, IsSound, keys, holds, held, erred, need, ready, open_key, holder_count}
use Rattle.cluster_rules.specs.SchedTable.{plain, is_this, failed}
use Rattle.cluster_rules.specs.SchedStep.{Stages, drop_bad, settle, finish_step}
use Rattle.cluster_rules.specs.World.{Job, World, is_connected}
use Rattle.cluster_rules.specs.WorldStep.{world_step}
use Rattle.cluster_rules.proofs.SchedLemmas.{erred-is}
use Rattle.cluster_laws.proofs.Errors.{ready_is_not_held, this_is_some}
use Rattle.safety_laws.proofs.Joint.{IsJoint}
use Rattle.quiet_measure.specs.Measure.{counts_loss, is_to_try, deaths, pair_weight, disturbances, Falls}
use Rattle.quiet_measure.specs.Settles.{SettlesAt}
use Rattle.quiet_measure.specs.Changes.{IsCalmChange}
use Rattle.quiet_measure.proofs.Pay.{IsBacked}
use Rattle.quiet_measure.proofs.CalmPay.{backed_closed}
use Rattle.quiet_laws.specs.Old.{AreOld, AreFenced}
use Rattle.quiet_laws.proofs.Disturbed.{death_less}
use Rattle.quiet_laws.proofs.UpTurn.{drawn, sh, at, is_taken}
use Rattle.quiet_laws.proofs.UpFalls.{held_then, up_calm}
use Rattle.quiet_laws.proofs.Plain.{plain_costs, calm_same}
use Rattle.quiet_laws.proofs.TaskRows.{owns, own_none, own_key, not_own, held_same, count_same}
use Rattle.quiet_laws.proofs.Plain.{rest_plain}
use Rattle.quiet_measure.proofs.CalmChanges.{ready_needs, known_as, bad-drop_bad, held-drop_bad, sound_drop_bad}

abbrev bad_then : Facts → ℕ → Facts
bad_then f k = record f { on = put f.on k None; steal = put f.steal k None; bad = put f.bad k true }

calm_failed : (f : Facts) (i k a : ℕ) → IsCalmChange f (failed f i k a) (owns k (is_this i a (f.on k)))
unfolding failed
calm_failed f i k a = pick (is_this i a (f.on k)) refl
  where
    still : (q : ℕ) (b : Bool) → f.bad q ≡ true → cond b true (f.bad q) ≡ true
    still q true e = refl
    still q false e = e

    pick : (b : Bool) → is_this i a (f.on k) ≡ b → IsCalmChange f (cond b (bad_then f k) f) (owns k b)
    pick false e = calm_same f (owns k false) (own_none k)
    pick true e = record {
      setting = refl;
      last = refl;
      want = refl;
      counter = omega arith;
      had_place = λ q o. ap (λ z. is_some (f.on z)) (own_key k q true o) ∙ this_is_some i a (f.on k) e;
      on = λ q o. ap (λ b. cond b None (f.on q)) (not_own k q o);
      steal = λ q o. ap (λ b. cond b None (f.steal q)) (not_own k q o);
      copies = λ x q c h. h;
      held_still = λ q h. ap (λ r. r q) (held_same f (bad_then f k) refl refl) ∙ h;
      held_new = λ q h o. ap (λ r. r q) (sym (held_same f (bad_then f k) refl refl)) ∙ h;
      bad = λ q h. still q (eqb q k) h;
      bad_new = λ q h o. sym (ap (λ b. cond b true (f.bad q)) (not_own k q o)) ∙ h;
    }

failed_has : (f : Facts) (i k a : ℕ) → (failed f i k a).has ≡ f.has
unfolding failed
failed_has f i k a = by (is_this i a (f.on k))
  where
    by : (b : Bool) → (cond b (bad_then f k) f).has ≡ f.has
    by true = refl
    by false = refl

failed_last : (f : Facts) (i k a : ℕ) → (failed f i k a).last_worker ≡ f.last_worker
unfolding failed
failed_last f i k a = by (is_this i a (f.on k))
  where
    by : (b : Bool) → (cond b (bad_then f k) f).last_worker ≡ f.last_worker
    by true = refl
    by false = refl

failed_threads : (f : Facts) (i k a : ℕ) → (failed f i k a).threads ≡ f.threads
unfolding failed
failed_threads f i k a = by (is_this i a (f.on k))
  where
    by : (b : Bool) → (cond b (bad_then f k) f).threads ≡ f.threads
    by true = refl
    by false = refl

failed_on : (f : Facts) (i k a q : ℕ) → is_some ((failed f i k a).on q) ≡ true → is_some (f.on q) ≡ true
unfolding failed
failed_on f i k a q e = by (is_this i a (f.on k)) e
  where
    put_on : (b : Bool) → is_some (cond b None (f.on q)) ≡ true → is_some (f.on q) ≡ true
    put_on true h = absurd (false≢true h)
    put_on false h = h

    by : (b : Bool) → is_some ((cond b (bad_then f k) f).on q) ≡ true → is_some (f.on q) ≡ true
    by true h = put_on (eqb q k) h
    by false h = h

failed_bad : (f : Facts) (i k a : ℕ) → is_this i a (f.on k) ≡ true → (failed f i k a).bad k ≡ true
unfolding failed
failed_bad f i k a e = ap (λ b. (cond b (bad_then f k) f).bad k) e ∙ ap (λ b. cond b true (f.bad k)) (eq-eqb k k refl)

module _ (j : Job) (w : World) (joint : IsJoint j w) (old : AreOld w) (fenced : AreFenced w.sched) (i seen k a : ℕ) (ms : List Up) (e : w.up i ≡ TaskErred seen k a ∷ ms) (there : is_connected w i ≡ true) where
  abbrev m : Up
  m = TaskErred seen k a

  abbrev h : Facts
  h = failed w.sched i k a

  abbrev t : Stages
  t = settle w.sched (plain (failed w.sched i k a))

  abbrev own : ℕ → Bool
  own = owns k (is_this i a (w.sched.on k))

  calm : IsCalmChange w.sched (failed w.sched i k a) (owns k (is_this i a (w.sched.on k)))
  calm = calm_failed w.sched i k a

  was_ready : is_this i a (w.sched.on k) ≡ true → ready w.sched k ≡ true
  was_ready h = joint.settled.placed_are_ready k (this_is_some i a (w.sched.on k) h)

  sound_then : IsSound (failed w.sched i k a)
  sound_then = sh j w joint old fenced i (TaskErred seen k a) ms e there

  spot : (q : ℕ) → SettlesAt (settle w.sched (plain (failed w.sched i k a))) q
  spot q = at j w joint old fenced i (TaskErred seen k a) ms e there q

  held_then_was : (q : ℕ) → held (failed w.sched i k a) q ≡ held w.sched q
  held_then_was q = ap (λ r. r q) (held_same w.sched (failed w.sched i k a) (failed_has w.sched i k a) (failed_last w.sched i k a))

  errs : is_this i a (w.sched.on k) ≡ true → erred (drop_bad (failed w.sched i k a)) k ≡ true
  errs o = erred-is (drop_bad (failed w.sched i k a)) (sound_drop_bad (failed w.sched i k a) sound_then) k
      ∙ and_from _ _ (ap not (ap (λ r. r k) (held-drop_bad (failed w.sched i k a)) ∙ held_then_was k ∙ ready_is_not_held w.sched k (was_ready o)))
      (or_left _ _ (bad-drop_bad (failed w.sched i k a) k
      ∙ ap (λ b. cond b ((failed w.sched i k a).bad k) false) (ap (λ r. r k) (known_as w.sched (failed w.sched i k a) calm.want calm.setting) ∙ joint.settled.needed_are_known k (ready_needs w.sched k (was_ready o)))
      ∙ failed_bad w.sched i k a o))

  closed : (q : ℕ) → own q ≡ true → need (drop_bad (failed w.sched i k a)) q ≡ true → open_key (settle w.sched (plain (failed w.sched i k a))).placed q ≡ true → ⊥
  unfolding settle
  closed q o n p = false≢true (sym (ap not ((spot q).erred_is n ∙ ap (erred (drop_bad (failed w.sched i k a))) (own_key k q _ o) ∙ errs (and_second (eqb q k) _ o))) ∙ and_second (not (held (settle w.sched (plain (failed w.sched i k a))).placed q)) _ p)

  back : (q : ℕ) → own q ≡ true → IsBacked (settle w.sched (plain (failed w.sched i k a))) q (is_to_try w.sched q)
  unfolding settle
  back q o = backed_closed (settle w.sched (plain (failed w.sched i k a))) q (spot q) calm.counter (is_to_try w.sched q) (closed q o)

  lossy : (q : ℕ) → counts_loss w.sched i q (TaskErred seen k a) ≡ true → holds (finish_step (settle w.sched (plain (failed w.sched i k a)))).facts i q ≡ false
  lossy q h = absurd (false≢true h)

  copies : (x q c : ℕ) → (failed w.sched i k a).has x q ≡ Some c → c < w.sched.counter → w.sched.has x q ≡ Some c
  copies x q c h l = sym (ap (λ y. y x q) (failed_has w.sched i k a)) ∙ h

  kept : (x q : ℕ) → holds (finish_step (settle w.sched (plain (failed w.sched i k a)))).facts x q ≡ true → holds w.sched x q ≡ true
  kept x q h = sym (ap (λ y. is_some (y x q)) (failed_has w.sched i k a)) ∙ held_then j w joint old fenced i (TaskErred seen k a) ms e there x q h

  pub task_erred_falls : Falls w (world_step j w (DeliverUp i))
  task_erred_falls = up_calm j w joint old fenced i (TaskErred seen k a) ms e there (failed_threads w.sched i k a) copies lossy (λ x q o. kept x q)
      (let l = death_less w (record w { up = put w.up i ms }) (settle w.sched (plain (failed w.sched i k a))) (is_taken j w joint old fenced i (TaskErred seen k a) ms e there copies lossy) i (kept i) in omega (arith, l))
      own calm back (λ q. 0)
      (λ b q. rest_plain w.sched (plain (failed w.sched i k a)) own joint.sound joint.settled (drawn j w joint old fenced i (TaskErred seen k a) ms e there) sound_then calm (disturbances w) b (λ q. refl) (λ q h. sym (held_then_was q) ∙ h) (failed_on w.sched i k a) q 0
      (let s : holder_count (failed w.sched i k a) q * pair_weight (disturbances w) ≡ holder_count w.sched q * pair_weight (disturbances w) = ap (λ z. z * pair_weight (disturbances w)) (count_same w.sched (failed w.sched i k a) q (λ x. ap (λ y. is_some (y x q)) (failed_has w.sched i k a)) (failed_last w.sched i k a)) in omega (arith, s)))
      (let z = plain_costs w.sched (failed w.sched i k a) (deaths (settle w.sched (plain (failed w.sched i k a))).placed (disturbances w)) (below (keys w.sched)) in omega (arith, z))
