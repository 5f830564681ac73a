-- The scheduler's losses of a key are the losses that the list of events tells.
use Rattle.std.proofs.Common.{◌≡◌, ℕ, ◌+◌, Bool, true, false, cond, List, [], ◌∷◌, Option, Some, None, refl, sym, ap, ◌∙◌}
use Rattle.std.proofs.lemmas.Bool.{false≢true}
use Rattle.cluster_msgs.specs.declared.cores.SchedEvent.{SchedEvent}
use Rattle.cluster_msgs.specs.declared.events.Event.{Event}
use Rattle.cluster_rules.specs.Sched.{Facts, is_above, known}
use Rattle.cluster_rules.specs.World.{Job, World, opening}
use Rattle.cluster_rules.specs.WorldStep.{world_step}
use Rattle.cluster_rules.specs.Runs.{run_from, reached, loses, sched_event, losses_from, killed, WasKilled}
use Rattle.cluster_laws.proofs.Losses.{step_losses}
use Rattle.cluster_laws.proofs.SchedPart.{sched_after, sched_is}

-- nothing is counted of a key that is not known
abbrev pub CountsKnown : Facts → Type 0
CountsKnown f = (k : ℕ) → known f k ≡ false → f.losses k ≡ 0

after_losses : (f : Facts) (o : Option SchedEvent) → CountsKnown f → (k : ℕ) → (sched_after f o).losses k ≡ cond (known (sched_after f o) k) (cond (loses f k o) (f.losses k + 1) (f.losses k)) 0
after_losses f (Some s) u k = step_losses f s k
after_losses f None u k = pick (known f k) refl
  where
    pick : (b : Bool) → known f k ≡ b → f.losses k ≡ cond b (f.losses k) 0
    pick true e = refl
    pick false e = u k e

pub world_losses : (j : Job) (w : World) (e : Event) → CountsKnown w.sched → (k : ℕ) → (world_step j w e).sched.losses k
    ≡ cond (known (world_step j w e).sched k) (cond (loses w.sched k (sched_event w e)) (w.sched.losses k + 1) (w.sched.losses k)) 0
world_losses j w e u k = ap (λ (f : Facts). f.losses k) (sched_is j w e) ∙ after_losses w.sched (sched_event w e) u k
    ∙ ap (λ (f : Facts). cond (known f k) (cond (loses w.sched k (sched_event w e)) (w.sched.losses k + 1) (w.sched.losses k)) 0) (sym (sched_is j w e))

still_known : (j : Job) (w : World) (e : Event) → CountsKnown w.sched → CountsKnown (world_step j w e).sched
still_known j w e u k n = world_losses j w e u k ∙ ap (λ b. cond b (cond (loses w.sched k (sched_event w e)) (w.sched.losses k + 1) (w.sched.losses k)) 0) n

losses_then : (j : Job) (w : World) (es : List Event) (n k : ℕ) → CountsKnown w.sched → w.sched.losses k ≡ n → (run_from j w es).sched.losses k ≡ losses_from j w n es k
losses_then j w [] n k u e = e
losses_then j w (x ∷ es) n k u e = losses_then j (world_step j w x) es _ k (still_known j w x u)
    (world_losses j w x u k ∙ ap (λ m. cond (known (world_step j w x).sched k) (cond (loses w.sched k (sched_event w x)) (m + 1) m) 0) e)

pub losses_are : (j : Job) (es : List Event) (k : ℕ) → (reached j es).sched.losses k ≡ losses_from j (opening j) 0 es k
losses_are j es k = losses_then j (opening j) es 0 k (λ q n. refl) refl

pub killed_is : (j : Job) (es : List Event) (k : ℕ) → killed j es k ≡ is_above j.setting.allowed ((reached j es).sched.losses k)
unfolding killed
killed_is j es k = ap (is_above j.setting.allowed) (sym (losses_are j es k))

-- without a number that is allowed nothing is killed
pub never_killed : (j : Job) (es : List Event) → j.setting.allowed ≡ None → (k : ℕ) → WasKilled j es k → ⊥
unfolding killed
never_killed j es e k h = false≢true (ap (λ o. is_above o (losses_from j (opening j) 0 h.before k)) (sym e) ∙ h.killed)
