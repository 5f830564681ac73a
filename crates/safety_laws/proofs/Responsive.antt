-- What is asked is under way, after every legal list.
use Rattle.std.proofs.Common.{◌≡◌, ℕ, ◌≤◌, Bool, ◌&&◌, true, List, [], ◌∷◌, Some, None, refl, sym, ◌∙◌, subst}
use Rattle.std.proofs.lemmas.Bool.{false≢true, and_parts, leb-true}
use Rattle.cluster_msgs.specs.declared.events.Asker.TheVariants.{Worker, Client}
use Rattle.cluster_msgs.specs.declared.events.Event.{Event}
use Rattle.cluster_rules.specs.Worker.{Ask}
use Rattle.cluster_rules.specs.World.{Job, IsJob, World, opening, is_client}
use Rattle.cluster_rules.specs.WorldStep.{world_step}
use Rattle.cluster_rules.specs.Enabled.{enabled}
use Rattle.cluster_msgs.specs.Shape.{IsShape}
use Rattle.cluster_rules.specs.Inside.{IsInsideWorld}
use Rattle.cluster_laws.specs.Moves.{world_after}
use Rattle.cluster_rules.specs.Runs.{LegalFrom, legal, run_from, reached, IsLively}
use Rattle.safety_laws.specs.Lively.{IsAnswered, IsRefreshing, AreNamed, HaveThreads, AreServed}
use Rattle.safety_laws.proofs.Joint.{IsJoint, joint_step, joint_opening, takes}
use Rattle.safety_laws.proofs.Turns.{same_setting}
use Rattle.safety_laws.proofs.Homes.{IsHome}
use Rattle.safety_laws.proofs.Answered.{answered_step}
use Rattle.safety_laws.proofs.WorldServed.{AsksDiffer, differ_step, served_step}
use Rattle.cluster_rules.specs.Sched.{Setting}
use Rattle.std.specs.Prelude.{nat_le}
use Rattle.safety_laws.proofs.Refreshing.{refreshing_step}
use Rattle.safety_laws.proofs.Named.{named_step}
use Rattle.safety_laws.proofs.Threads.{threaded_step}
use Rattle.safety_laws.proofs.Lively.{lively}

pub record IsResponsive (j : Job) (w : World) : Type 0 where
  pub joint : IsJoint j w
  pub answered : IsAnswered w
  pub refreshing : IsRefreshing w
  pub named : AreNamed w
  pub threads : HaveThreads w
  pub differ : AsksDiffer w
  pub served : AreServed w

module _ (j : Job) (job : IsJob j) where
  responsive_step : (w : World) (e : Event) → enabled w e ≡ true → IsResponsive j w → IsResponsive j (world_step j w e)
  responsive_step w e t h = record {
    joint = joint_step j job w e t h.joint;
    answered = λ a p q u o. answered_step w (λ b v x y z. h.answered b x y v z) j e t a u p q o;
    refreshing = λ i k a c q. refreshing_step j w h.joint.inside h.joint.sound h.joint.home h.refreshing i k e t a c q;
    named = named_step j w e t h.named;
    threads = threaded_step j w e t h.threads;
    differ = differ_step j w e t h.differ;
    served = λ c k u. let u0 = client_before c u in let p = and_parts (nat_le 1 c) (nat_le c w.sched.setting.clients) u0 in
        served_step w h.joint.sound h.differ c k (leb-true 1 c p.0) (leb-true c w.sched.setting.clients p.1) (h.served c k u0) j e (takes j job w e t h.joint);
  }
    where
      client_before : (c : ℕ) → is_client (world_step j w e) c ≡ true → is_client w c ≡ true
      client_before c u = subst (λ (x : Setting). (nat_le 1 c && nat_le c x.clients) ≡ true) (same_setting j w e) u

  none_ask : (q : Ask) → None ≡ Some q → ⊥
  none_ask q e = cc

  responsive_opening : IsResponsive j (opening j)
  responsive_opening = record {
    joint = joint_opening j job;
    answered = none;
    refreshing = λ i k a c q. absurd (false≢true a);
    named = record { holders = λ i k. tt; asks = λ i. tt; located = λ c k. tt; client_asks = λ c. tt; down = λ i. tt; news = λ c. tt };
    threads = λ i a. absurd (false≢true a);
    differ = λ c. tt;
    served = λ c k u. record {
      want = refl;
      held_told = λ e n q. absurd (false≢true e);
      erred_told = λ e n q. absurd (false≢true e);
      erred_known = λ e u q n m. absurd (false≢true e);
      held_known = λ e u q n m. absurd (false≢true e);
    };
  }
    where
      none : IsAnswered (opening j)
      none (Worker i) p q u o = absurd (none_ask q o)
      none (Client c) p q u o = absurd (none_ask q o)

  responsive_from : (w : World) (es : List Event) → LegalFrom j w es → IsResponsive j w → IsResponsive j (run_from j w es)
  responsive_from w [] l h = h
  responsive_from w (e ∷ es) l h = responsive_from (world_step j w e) es l.1 (responsive_step w e l.0 h)

  pub responsive_after : (es : List Event) → legal j es → IsResponsive j (reached j es)
  responsive_after es l = responsive_from (opening j) es l responsive_opening

-- ## Whatever the operations make

-- a job of the same setting
same_joint : (j i : Job) (w : World) → i.setting ≡ j.setting → IsJoint j w → IsJoint i w
same_joint j i w e h = record {
  set = h.set ∙ sym e;
  inside = subst (λ (s : Setting). IsInsideWorld s.shape w) (sym e) h.inside;
  sound = h.sound;
  settled = h.settled;
  numbered = h.numbered;
  unsent = h.unsent;
  home = subst (λ (s : Setting). IsHome s.shape s.clients w.sched.last_worker w) (sym e) h.home;
  paired = h.paired;
}

same_responsive : (j i : Job) (w : World) → i.setting ≡ j.setting → IsResponsive j w → IsResponsive i w
same_responsive j i w e h = record { joint = same_joint j i w e h.joint; answered = h.answered; refreshing = h.refreshing; named = h.named; threads = h.threads; differ = h.differ; served = h.served }

-- an event, whether an operation that it ends meets a zero divisor or not
pub responsive_any : (j : Job) → IsJob j → (met : Bool) (w : World) (e : Event) → enabled w e ≡ true → IsResponsive j w → IsResponsive j (world_after met w e)
responsive_any j job met w e t h = same_responsive other j (world_after met w e) (sym h.joint.set) (responsive_step other is w e t (same_responsive j other w h.joint.set h))
  where
    other : Job
    other = record { setting = w.sched.setting; zero = λ k. met }

    is : IsJob other
    is = record {
      shape = subst (λ (s : Setting). IsShape s.shape) (sym h.joint.set) job.shape;
      clients = subst (λ (s : Setting). s.clients ≤ 16) (sym h.joint.set) job.clients;
      some = subst (λ (s : Setting). 1 ≤ s.saturation) (sym h.joint.set) job.some;
      most = subst (λ (s : Setting). s.saturation ≤ 1000) (sym h.joint.set) job.most;
    }

pub is_lively : (j : Job) (w : World) → IsResponsive j w → IsLively w
is_lively j w r = lively j w r.joint r.answered r.refreshing r.named r.threads r.served

pub lively_after : (j : Job) → IsJob j → (es : List Event) → legal j es → IsLively (reached j es)
lively_after j job es l = is_lively j (reached j es) (responsive_after j job es l)
