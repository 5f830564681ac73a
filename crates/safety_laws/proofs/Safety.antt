-- Schedule safety, put together.
use Rattle.cluster_msgs.specs.Shape.{IsShape}
use Rattle.cluster_rules.specs.Sched.{Setting, Facts, IsSound, erred, held, known, need, phase}
use Rattle.std.proofs.Common.{◌≤◌, ◌≡◌, ◌⊎◌, inl, inr, ℕ, zero, suc, arith, Bool, true, false, List, ◌++◌, Option, Some, None, is_some, refl, sym, ◌∙◌, subst}
use Rattle.std.proofs.lemmas.Bool.{true≢false, false_from_ne_true}
use Rattle.cluster_msgs.specs.declared.cores.Phase.TheVariants.{Erred, Released}
use Rattle.cluster_msgs.specs.declared.events.Event.{Event}
use Rattle.cluster_rules.specs.World.{Job, IsJob, opening, Drained}
use Rattle.cluster_rules.specs.Runs.{legal, reached, OnlyKnown, Agrees, Safe}
use Rattle.safety_laws.specs.Keys.{IsForgotten, IsLetGo, AreLetGo}
use Rattle.safety_laws.proofs.Joint.{joint_after, only_known, drained_agrees}
use Rattle.safety_laws.proofs.Attempts.{legal_first}
use Rattle.safety_laws.proofs.Unstarted.{one_attempt}
use Rattle.safety_laws.proofs.Responsive.{lively_after}

pub known_after : (j : Job) → IsJob j → (es : List Event) → legal j es → OnlyKnown (reached j es).sched
known_after j job es l = only_known (reached j es).sched (joint_after j job es l).settled

-- what is not known, and what is not needed
let_go : (f : Facts) → OnlyKnown f → AreLetGo f
unfolding phase
let_go f h = record { forgotten = forgotten; let_go = released }
  where
    none_of : {A : Type 0} (o : Option A) → (is_some o ≡ true → ⊥) → o ≡ None
    none_of None n = refl
    none_of (Some x) n = absurd (n refl)

    none_counted : (n : ℕ) → (1 ≤ n → ⊥) → n ≡ 0
    none_counted zero n = refl
    none_counted (suc m) n = absurd (n (omega arith))

    not_known : (k : ℕ) → known f k ≡ false → known f k ≡ true → ⊥
    not_known k e t = true≢false (sym t ∙ e)

    not_held : (k : ℕ) → need f k ≡ false → held f k ≡ false
    not_held k n = false_from_ne_true (held f k) (λ e. true≢false (sym (h.held k e) ∙ n))

    forgotten : (k : ℕ) → known f k ≡ false → IsForgotten f k
    forgotten k e = record {
      phase = rw e refl;
      has = λ i. none_of (f.has i k) (λ t. not_known k e (h.has i k t));
      on = none_of (f.on k) (λ t. not_known k e (h.on k t));
      steal = none_of (f.steal k) (λ t. not_known k e (h.steal k t));
      bad = false_from_ne_true (f.bad k) (λ t. not_known k e (h.bad k t));
      losses = none_counted (f.losses k) (λ l. not_known k e (h.losses k l));
    }

    released : (k : ℕ) → known f k ≡ true → need f k ≡ false → IsLetGo f k
    released k e n = record { phase = either (erred f k) refl; held = not_held k n }
      where
        either : (b : Bool) → erred f k ≡ b → (phase f k ≡ Released) ⊎ (phase f k ≡ Erred)
        either true b = inr (rw (e, b) refl)
        either false b = inl (rw (e, b, n) refl)

pub let_go_after : (j : Job) → IsJob j → (es : List Event) → legal j es → AreLetGo (reached j es).sched
let_go_after j job es l = let_go (reached j es).sched (known_after j job es l)

pub agrees_after : (j : Job) → IsJob j → (es : List Event) → legal j es → (i : ℕ) → Drained (reached j es) i → Agrees (reached j es) i
agrees_after j job es l i d = drained_agrees j (reached j es) (joint_after j job es l) i d

pub safe : (j : Job) → IsJob j → (es : List Event) → legal j es → Safe j es
safe j job es l = record {
  attempts = one_attempt j job es l;
  known = λ fs gs e. known_after j job fs (first fs gs e);
  agrees = λ fs gs i e d. agrees_after j job fs (first fs gs e) i d;
  lively = λ fs gs e. lively_after j job fs (first fs gs e);
}
  where
    first : (fs gs : List Event) → es ≡ fs ++ gs → legal j fs
    first fs gs e = legal_first j (opening j) fs gs (subst (legal j) e l)

-- the job of facts that are sound
pub is_job : (j : Job) (f : Facts) → IsSound f → f.setting ≡ j.setting → IsJob j
is_job j f h e = record {
  shape = subst (λ (s : Setting). IsShape s.shape) e h.shape;
  clients = subst (λ (s : Setting). s.clients ≤ 16) e h.few_clients;
  some = subst (λ (s : Setting). 1 ≤ s.saturation) e h.saturation.0;
  most = subst (λ (s : Setting). s.saturation ≤ 1000) e h.saturation.1;
}

pub safe_of_sound : (j : Job) (f : Facts) → IsSound f → f.setting ≡ j.setting → (es : List Event) → legal j es → Safe j es
safe_of_sound j f h e = safe j (is_job j f h e)
