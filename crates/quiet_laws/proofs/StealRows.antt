-- A task that was asked back lowers the measure as the answer is counted.
use Rattle.std.proofs.Common.{◌≡◌, ℕ, ◌+◌, ◌*◌, ◌<◌, ◌≤◌, Bool, true, false, cond, ◌&&◌, List, ◌∷◌, Option, Some, None, refl, sym, ap, ◌∙◌, subst, arith, is_some}
use Rattle.std.proofs.lemmas.Bool.{false≢true, eq-eqb, or_right}
use Rattle.std.proofs.Math.Dec.{eqb}
use Rattle.small_facts.proofs.Truth.{and_first, and_second}
use Rattle.cluster_msgs.specs.declared.messages.Up.{Up}
use Rattle.cluster_msgs.specs.declared.messages.Up.TheVariants.{StealResponse}
use Rattle.cluster_msgs.specs.declared.events.Event.TheVariants.{DeliverUp}
use Rattle.cluster_rules.specs.Functions.{put}
use Rattle.cluster_rules.specs.Derived.{below}
use Rattle.cluster_rules.specs.Sched.{Facts, IsSound, keys, holds, held, ready, connected, holder_count}
use Rattle.cluster_rules.specs.SchedTable.{plain, is_this, answered, is_asked_back, stolen_to, refused}
use Rattle.cluster_rules.specs.SchedStep.{settle, finish_step}
use Rattle.cluster_rules.specs.World.{Job, World, is_connected}
use Rattle.cluster_rules.specs.WorldStep.{world_step}
use Rattle.cluster_laws.proofs.Errors.{this_is_some}
use Rattle.safety_laws.proofs.Joint.{IsJoint}
use Rattle.quiet_measure.specs.Measure.{counts_loss, is_to_try, deaths, pair_weight, disturbances, Falls}
use Rattle.quiet_measure.specs.Settles.{SettlesAt}
use Rattle.quiet_measure.specs.Changes.{IsCalmChange}
use Rattle.quiet_measure.proofs.Pay.{IsBacked}
use Rattle.quiet_measure.proofs.CalmChanges.{ready_open}
use Rattle.quiet_measure.proofs.CalmPay.{backed_asked, to_try_from}
use Rattle.quiet_laws.specs.Old.{AreOld, AreFenced}
use Rattle.quiet_laws.proofs.Disturbed.{death_less}
use Rattle.quiet_laws.proofs.UpTurn.{drawn, sh, at, is_taken}
use Rattle.quiet_laws.proofs.UpFalls.{held_then, up_calm}
use Rattle.quiet_laws.proofs.Plain.{plain_costs, calm_same}
use Rattle.quiet_laws.proofs.TaskRows.{owns, own_none, own_key, not_own, held_same, count_same}
use Rattle.quiet_laws.proofs.Plain.{rest_plain}
use Rattle.quiet_measure.proofs.CalmChanges.{ready_needs}

abbrev yielded : Facts → ℕ → Bool → Option (ℕ × Bool) → Facts
yielded f k agreed m = cond agreed (stolen_to f k m) (record f { steal = put f.steal k (refused m) })

-- what the answer leaves as it was
record IsYielded (f h : Facts) (k : ℕ) : Type 0 where
  setting : h.setting ≡ f.setting
  last : h.last_worker ≡ f.last_worker
  threads : h.threads ≡ f.threads
  want : h.want ≡ f.want
  counter : f.counter ≤ h.counter
  has : h.has ≡ f.has
  bad : h.bad ≡ f.bad
  on : (q : ℕ) → eqb q k ≡ false → h.on q ≡ f.on q
  steal : (q : ℕ) → eqb q k ≡ false → h.steal q ≡ f.steal q
  asked : is_asked_back (h.steal k) ≡ false

yields : (f : Facts) (k : ℕ) (agreed : Bool) (m : Option (ℕ × Bool)) → f.steal k ≡ m → is_asked_back m ≡ true → IsYielded f (yielded f k agreed m) k
yields f k agreed None s a = absurd (false≢true a)
yields f k false (Some p) s a = record {
  setting = refl;
  last = refl;
  threads = refl;
  want = refl;
  counter = omega arith;
  has = refl;
  bad = refl;
  on = λ q o. refl;
  steal = λ q o. ap (λ b. cond b (Some (p.0, true)) (f.steal q)) o;
  asked = ap (λ b. is_asked_back (cond b (Some (p.0, true)) (f.steal k))) (eq-eqb k k refl);
}
yields f k true (Some p) s a = by (connected f p.0)
  where
    by : (c : Bool) → IsYielded f (cond c (record f { on = put f.on k (Some (p.0, f.counter)); steal = put f.steal k None; counter = f.counter + 1 }) (record f { on = put f.on k None; steal = put f.steal k None })) k
    by true = record {
      setting = refl;
      last = refl;
      threads = refl;
      want = refl;
      counter = omega arith;
      has = refl;
      bad = refl;
      on = λ q o. ap (λ b. cond b (Some (p.0, f.counter)) (f.on q)) o;
      steal = λ q o. ap (λ b. cond b None (f.steal q)) o;
      asked = ap (λ b. is_asked_back (cond b None (f.steal k))) (eq-eqb k k refl);
    }
    by false = record {
      setting = refl;
      last = refl;
      threads = refl;
      want = refl;
      counter = omega arith;
      has = refl;
      bad = refl;
      on = λ q o. ap (λ b. cond b None (f.on q)) o;
      steal = λ q o. ap (λ b. cond b None (f.steal q)) o;
      asked = ap (λ b. is_asked_back (cond b None (f.steal k))) (eq-eqb k k refl);
    }

answered_is : (f : Facts) (i k a : ℕ) (agreed b : Bool) → (is_this i a (f.on k) && is_asked_back (f.steal k)) ≡ b → answered f i k a agreed ≡ cond b (yielded f k agreed (f.steal k)) f
unfolding answered
answered_is f i k a agreed b e = ap (λ c. cond c (yielded f k agreed (f.steal k)) f) e

yielded_at : (f : Facts) (i k a : ℕ) (agreed : Bool) → (is_this i a (f.on k) && is_asked_back (f.steal k)) ≡ true → IsYielded f (answered f i k a agreed) k
yielded_at f i k a agreed e = subst (λ (h : Facts). IsYielded f h k) (sym (answered_is f i k a agreed true e)) (yields f k agreed (f.steal k) refl (and_second (is_this i a (f.on k)) _ e))

calm_answered : (f : Facts) (i k a : ℕ) (agreed : Bool) → IsCalmChange f (answered f i k a agreed) (owns k (is_this i a (f.on k) && is_asked_back (f.steal k)))
calm_answered f i k a agreed = pick (is_this i a (f.on k) && is_asked_back (f.steal k)) refl
  where
    pick : (b : Bool) → (is_this i a (f.on k) && is_asked_back (f.steal k)) ≡ b → IsCalmChange f (answered f i k a agreed) (owns k b)
    pick false e = subst (λ (h : Facts). IsCalmChange f h (owns k false)) (sym (answered_is f i k a agreed false e)) (calm_same f (owns k false) (own_none k))
    pick true e = let y = yielded_at f i k a agreed e in record {
      setting = y.setting;
      last = y.last;
      want = y.want;
      counter = y.counter;
      had_place = λ q o. ap (λ z. is_some (f.on z)) (own_key k q true o) ∙ this_is_some i a (f.on k) (and_first (is_this i a (f.on k)) _ e);
      on = λ q o. y.on q (not_own k q o);
      steal = λ q o. y.steal q (not_own k q o);
      copies = λ x q c h. ap (λ z. z x q) y.has ∙ h;
      held_still = λ q h. ap (λ r. r q) (held_same f (answered f i k a agreed) y.has y.last) ∙ h;
      held_new = λ q h o. ap (λ r. r q) (sym (held_same f (answered f i k a agreed) y.has y.last)) ∙ h;
      bad = λ q h. ap (λ r. r q) y.bad ∙ h;
      bad_new = λ q h o. ap (λ r. r q) (sym y.bad) ∙ h;
    }

same_of : {A : Type 0} (p : Facts → A) (f : Facts) (i k a : ℕ) (agreed : Bool) → ((h : Facts) → IsYielded f h k → p h ≡ p f) → p (answered f i k a agreed) ≡ p f
same_of p f i k a agreed s = pick (is_this i a (f.on k) && is_asked_back (f.steal k)) refl
  where
    pick : (b : Bool) → (is_this i a (f.on k) && is_asked_back (f.steal k)) ≡ b → p (answered f i k a agreed) ≡ p f
    pick false e = ap p (answered_is f i k a agreed false e)
    pick true e = s (answered f i k a agreed) (yielded_at f i k a agreed e)

module _ (j : Job) (w : World) (joint : IsJoint j w) (old : AreOld w) (fenced : AreFenced w.sched) (i seen k a : ℕ) (agreed : Bool) (ms : List Up) (e : w.up i ≡ StealResponse seen k a agreed ∷ ms) (there : is_connected w i ≡ true) where
  abbrev own : ℕ → Bool
  own = owns k (is_this i a (w.sched.on k) && is_asked_back (w.sched.steal k))

  calm : IsCalmChange w.sched (answered w.sched i k a agreed) (owns k (is_this i a (w.sched.on k) && is_asked_back (w.sched.steal k)))
  calm = calm_answered w.sched i k a agreed

  has_same : (answered w.sched i k a agreed).has ≡ w.sched.has
  has_same = same_of (λ (h : Facts). h.has) w.sched i k a agreed (λ h y. y.has)

  last_same : (answered w.sched i k a agreed).last_worker ≡ w.sched.last_worker
  last_same = same_of (λ (h : Facts). h.last_worker) w.sched i k a agreed (λ h y. y.last)

  threads_same : (answered w.sched i k a agreed).threads ≡ w.sched.threads
  threads_same = same_of (λ (h : Facts). h.threads) w.sched i k a agreed (λ h y. y.threads)

  sound_then : IsSound (answered w.sched i k a agreed)
  sound_then = sh j w joint old fenced i (StealResponse seen k a agreed) ms e there

  spot : (q : ℕ) → SettlesAt (settle w.sched (plain (answered w.sched i k a agreed))) q
  spot q = at j w joint old fenced i (StealResponse seen k a agreed) ms e there q

  held_then_was : (q : ℕ) → held (answered w.sched i k a agreed) q ≡ held w.sched q
  held_then_was q = ap (λ r. r q) (held_same w.sched (answered w.sched i k a agreed) has_same last_same)

  back : (q : ℕ) → own q ≡ true → IsBacked (settle w.sched (plain (answered w.sched i k a agreed))) q (is_to_try w.sched q)
  unfolding settle
  back q o = subst (λ b. IsBacked (settle w.sched (plain (answered w.sched i k a agreed))) q b) (sym tried)
      (backed_asked (settle w.sched (plain (answered w.sched i k a agreed))) q (spot q) calm.counter (ap (λ z. is_asked_back ((answered w.sched i k a agreed).steal z)) (own_key k q _ o) ∙ (yielded_at w.sched i k a agreed (and_second (eqb q k) _ o)).asked))
    where
      counts : (is_this i a (w.sched.on k) && is_asked_back (w.sched.steal k)) ≡ true
      counts = and_second (eqb q k) _ o

      was : ready w.sched k ≡ true
      was = joint.settled.placed_are_ready k (this_is_some i a (w.sched.on k) (and_first _ _ counts))

      tried : is_to_try w.sched q ≡ true
      tried = ap (is_to_try w.sched) (own_key k q _ o) ∙ to_try_from w.sched k (ready_needs w.sched k was) (ready_open w.sched k was) (or_right _ _ (and_second (is_this i a (w.sched.on k)) _ counts))

  on_before : (q : ℕ) → is_some ((answered w.sched i k a agreed).on q) ≡ true → is_some (w.sched.on q) ≡ true
  on_before q h = pick (own q) refl
    where
      pick : (b : Bool) → own q ≡ b → is_some (w.sched.on q) ≡ true
      pick true o = calm.had_place q o
      pick false o = sym (ap is_some (calm.on q o)) ∙ h

  lossy : (q : ℕ) → counts_loss w.sched i q (StealResponse seen k a agreed) ≡ true → holds (finish_step (settle w.sched (plain (answered w.sched i k a agreed)))).facts i q ≡ false
  lossy q h = absurd (false≢true h)

  copies : (x q c : ℕ) → (answered w.sched i k a agreed).has x q ≡ Some c → c < w.sched.counter → w.sched.has x q ≡ Some c
  copies x q c h l = sym (ap (λ y. y x q) has_same) ∙ h

  kept : (x q : ℕ) → holds (finish_step (settle w.sched (plain (answered w.sched i k a agreed)))).facts x q ≡ true → holds w.sched x q ≡ true
  kept x q h = sym (ap (λ y. is_some (y x q)) has_same) ∙ held_then j w joint old fenced i (StealResponse seen k a agreed) ms e there x q h

  pub steal_response_falls : Falls w (world_step j w (DeliverUp i))
  steal_response_falls = up_calm j w joint old fenced i (StealResponse seen k a agreed) ms e there threads_same copies lossy (λ x q o. kept x q)
      (let l = death_less w (record w { up = put w.up i ms }) (settle w.sched (plain (answered w.sched i k a agreed))) (is_taken j w joint old fenced i (StealResponse seen k a agreed) ms e there copies lossy) i (kept i) in omega (arith, l))
      own calm back (λ q. 0)
      (λ b q. rest_plain w.sched (plain (answered w.sched i k a agreed)) own joint.sound joint.settled (drawn j w joint old fenced i (StealResponse seen k a agreed) ms e there) sound_then calm (disturbances w) b (λ q. refl) (λ q h. sym (held_then_was q) ∙ h) on_before q 0
      (let s : holder_count (answered w.sched i k a agreed) q * pair_weight (disturbances w) ≡ holder_count w.sched q * pair_weight (disturbances w) = ap (λ z. z * pair_weight (disturbances w)) (count_same w.sched (answered w.sched i k a agreed) q (λ x. ap (λ y. is_some (y x q)) has_same) last_same) in omega (arith, s)))
      (let z = plain_costs w.sched (answered w.sched i k a agreed) (deaths (settle w.sched (plain (answered w.sched i k a agreed))).placed (disturbances w)) (below (keys w.sched)) in omega (arith, z))
