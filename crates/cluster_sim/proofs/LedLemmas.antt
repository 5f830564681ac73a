-- Whatever the feed answers: how a simulation is led on, and that it stands still only where nobody is there.
use Rattle.std.proofs.Common.{◌≡◌, ℕ, ◌≤◌, true, List, [], ◌∷◌, ◌++◌, refl, sym, ◌∙◌, subst}
use Rattle.std.proofs.lemmas.Bool.{true≢false, and_from, le-leb}
use Rattle.cluster_rules.specs.Sched.{Setting}
use Rattle.cluster_rules.specs.Client.{is_unfinished}
use Rattle.cluster_rules.specs.World.{Job, IsJob, World as Cluster, unfinished, is_connected}
use Rattle.cluster_rules.specs.Draw.{Plan, Sim, opening_events}
use Rattle.cluster_world.specs.Safe.{LosesFew}
use Rattle.safety_laws.proofs.Responsive.{IsResponsive, responsive_after, responsive_any, is_lively}
use Rattle.cluster_sim.specs.Simulations.{IsStuck}
use Rattle.cluster_sim.specs.Led.{any_job, Made, after_next, next_of, Comes, LedTo, at_first, IsLed, IsLeftAlone}
use Rattle.cluster_sim.proofs.CourseLemmas.{moved_world}
use Rattle.cluster_sim.proofs.QuietLemmas.{waits_for}

pub led_more : (p : Plan) (ms : List Made) (s t : Sim) (m : Made) → LedTo p s ms t → Comes p t m → LedTo p s (ms ++ m ∷ []) (after_next m.met t (next_of p t m))
led_more p [] s t m l c = subst (λ x. LedTo p x (m ∷ []) (after_next m.met t (next_of p t m))) (sym l) (c, refl)
led_more p (x ∷ ms) s t m l c = (l.0, led_more p ms (after_next x.met s (next_of p s x)) t m l.1 c)

-- all that is asked is under way wherever a simulation was led
module _ (j : Job) (job : IsJob j) (p : Plan) where
  responsive_led : (ms : List Made) (s t : Sim) → IsResponsive j s.world → LedTo p s ms t → IsResponsive j t.world
  responsive_led [] s t r l = subst (λ (x : Sim). IsResponsive j x.world) l r
  responsive_led (m ∷ ms) s t r l =
      responsive_led ms (after_next m.met s (next_of p s m)) t
      (subst (IsResponsive j) (sym (moved_world (record { setting = s.world.sched.setting; zero = λ k. m.met }) s (next_of p s m) m.event l.0.next)) (responsive_any j job m.met s.world m.event l.0.enabled r)) l.1

-- the scheduler's counts of losses are bounded there
pub few_losses : (set : Setting) (p : Plan) (wanted : List ℕ) (t : Sim) → IsLed set p wanted t → LosesFew t.world.sched
few_losses set p wanted t h =
    let r : IsResponsive (any_job set) t.world = responsive_led (any_job set) h.job p h.made (at_first set p wanted) t (responsive_after (any_job set) h.job (opening_events p wanted) h.opens) h.led in
    λ k a e. r.joint.settled.losses_stop k a e

-- where the client waits and nothing moves, nobody is there
pub left_alone : (set : Setting) (p : Plan) (wanted : List ℕ) (w : Cluster) (t : Sim) → IsLed set p wanted t → t.world ≡ w → IsStuck w → IsLeftAlone set p wanted w
left_alone set p wanted w t h there stuck = record { stuck = stuck; stands = t; led = h; there = there; nobody = nobody }
  where
    r : IsResponsive (any_job set) w
    r = subst (IsResponsive (any_job set)) there (responsive_led (any_job set) h.job p h.made (at_first set p wanted) t (responsive_after (any_job set) h.job (opening_events p wanted) h.opens) h.led)

    k : (k : ℕ) × (is_unfinished (w.clients 1) k ≡ true)
    k = waits_for (w.clients 1) stuck.waits

    unfinished_there : unfinished w 1 k.0 ≡ true
    unfinished_there = and_from _ _ (and_from _ _ refl (le-leb 1 w.sched.setting.clients (subst (λ (y : Setting). 1 ≤ y.clients) (sym r.joint.set) h.client))) k.1

    nobody : (i : ℕ) → w.alive i ≡ true → is_connected w i ≡ true → ⊥
    nobody i alive linked = true≢false (sym (is_lively (any_job set) w r 1 k.0 i unfinished_there alive linked) ∙ stuck.still)
