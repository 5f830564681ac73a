-- A calm event, and one that lowers the disturbances, lower the measure where what they bring is paid for.
use Rattle.std.proofs.Common.{◌≡◌, ℕ, ◌+◌, ◌≤◌, Bool, true, false, cond, List, refl, sym, ap, ◌∙◌, arith, is_some}
use Rattle.cluster_rules.specs.Functions.{from_one, total}
use Rattle.cluster_rules.specs.Derived.{below}
use Rattle.cluster_rules.specs.Sched.{IsSound, keys, connected}
use Rattle.cluster_rules.specs.SchedTable.{Changed}
use Rattle.cluster_rules.specs.SchedStep.{Stages, settle, finish_step}
use Rattle.cluster_rules.specs.World.{World}
use Rattle.cluster_rules.specs.WorldStep.{scheduled}
use Rattle.cluster_laws.specs.Settled.{IsSettled}
use Rattle.quiet_measure.specs.Weights.{question}
use Rattle.quiet_measure.specs.Measure.{is_to_try, deaths, most_asked, disturbances, links_weight, Falls}
use Rattle.quiet_measure.specs.Settles.{SettlesAt}
use Rattle.quiet_measure.specs.Changes.{AreDrawn, IsCalmChange, IsLessening}
use Rattle.quiet_measure.proofs.Settle.{settles_at}
use Rattle.quiet_measure.proofs.Posts.{answer_cost, reply_cost}
use Rattle.quiet_measure.proofs.Pay.{IsBacked}
use Rattle.quiet_measure.proofs.CalmChanges.{sound_drop_bad}
use Rattle.quiet_measure.proofs.CalmPay.{backed, Rest, lighter, sched_pays}
use Rattle.quiet_measure.proofs.FallPay.{lighter as lighter_then, sched_pays as pays_then}
use Rattle.quiet_measure.proofs.Combine.{paid_falls}

-- what the event itself frees
abbrev pub event_total : (t : Stages) → (ℕ → ℕ) → List ℕ → ℕ
event_total t e ks = total (λ k. total (λ i. cond (t.changed.freed i k) (question e k + 1) 0) (from_one t.placed.last_worker)) ks

module _ (w v : World) (g : Changed) (same : v.sched ≡ w.sched) (sound : IsSound w.sched) (settled : IsSettled w.sched) (drawn : AreDrawn w.sched) (sh : IsSound g.facts) (threads : (x : ℕ) → connected g.facts x ≡ true → connected w.sched x ≡ true) (popped : ℕ)
    (taken : links_weight (deaths w.sched (disturbances w)) v + popped ≤ links_weight (deaths w.sched (disturbances w)) w) where
  at : (k : ℕ) → SettlesAt (settle w.sched g) k
  at k = settles_at w.sched g (sound_drop_bad g.facts sh) k

  connects : (i : ℕ) → connected (settle w.sched g).placed i ≡ true → connected w.sched i ≡ true
  unfolding settle
  connects i c = threads i (ap (λ x. is_some (x i)) (sym (at 0).threads_is) ∙ c)

  pub calm_falls : (own : ℕ → Bool) (calm : IsCalmChange w.sched g.facts own) (back : (k : ℕ) → own k ≡ true → IsBacked (settle w.sched g) k (is_to_try w.sched k)) (gain : ℕ → ℕ)
      → ((b : (k : ℕ) → IsBacked (settle w.sched g) k (is_to_try w.sched k)) (k : ℕ) → Rest w.sched g own sound settled drawn sh calm (disturbances w) b k (gain k))
      → (event_total (settle w.sched g) (deaths (settle w.sched g).placed (disturbances w)) (below (keys w.sched)) + total gain (below (keys w.sched)))
      + (answer_cost (settle w.sched g) (deaths (settle w.sched g).placed (disturbances w)) + reply_cost (settle w.sched g) (deaths (settle w.sched g).placed (disturbances w))) + 1 ≤ popped
      → disturbances (scheduled v (finish_step (settle w.sched g))) ≤ disturbances w → Falls w (scheduled v (finish_step (settle w.sched g)))
  unfolding settle
  calm_falls own calm back gain rest cost less = paid_falls w v (settle w.sched g) (disturbances w) popped (record {
    sched = same;
    before = refl;
    setting = (at 0).setting_is ∙ calm.setting;
    last = (at 0).last_is ∙ calm.last;
    threads = connects;
    taken = taken;
    lighter = lighter w.sched g own sound settled drawn sh calm (disturbances w) backs;
    pays = (let p = sched_pays w.sched g own sound settled drawn sh calm (disturbances w) backs gain (rest backs) in omega (arith, p, cost));
    calm = less;
    fewer = omega arith;
  })
    where
      backs : (k : ℕ) → IsBacked (settle w.sched g) k (is_to_try w.sched k)
      backs k = pick (own k) refl
        where
          pick : (b : Bool) → own k ≡ b → IsBacked (settle w.sched g) k (is_to_try w.sched k)
          pick true e = back k e
          pick false e = backed w.sched g own sound settled drawn sh calm k e

  pub less_falls : (less : IsLessening w.sched g.facts) (b : ℕ) → b + 1 ≤ disturbances w
      → event_total (settle w.sched g) (deaths (settle w.sched g).placed b) (below (keys w.sched))
      + (answer_cost (settle w.sched g) (deaths (settle w.sched g).placed b) + reply_cost (settle w.sched g) (deaths (settle w.sched g).placed b)) + 1 ≤ popped + (most_asked b + 4)
      → disturbances (scheduled v (finish_step (settle w.sched g))) ≤ b → Falls w (scheduled v (finish_step (settle w.sched g)))
  unfolding settle
  less_falls less b fallen cost fewer = paid_falls w v (settle w.sched g) b popped (record {
    sched = same;
    before = refl;
    setting = (at 0).setting_is ∙ less.setting;
    last = (at 0).last_is ∙ less.last;
    threads = connects;
    taken = taken;
    lighter = lighter_then w.sched g sound settled drawn sh less b (disturbances w) fallen;
    pays = (let p = pays_then w.sched g sound settled drawn sh less b (disturbances w) fallen in omega (arith, p, cost));
    calm = fewer;
    fewer = omega (arith, fallen);
  })
