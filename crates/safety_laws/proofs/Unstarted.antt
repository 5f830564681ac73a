-- An attempt that was given up is never started, neither before nor after.
use Rattle.std.proofs.Common.{◌≡◌, ℕ, true, cond, ◌&&◌, ◌||◌, List, [], ◌∷◌, ◌++◌, refl, sym, ap, ◌∙◌, subst}
use Rattle.std.proofs.lemmas.Bool.{true≢false, eq-eqb, or_left}
use Rattle.std.proofs.Math.Bool.{or-true}
use Rattle.cluster_msgs.specs.declared.messages.Up.{Up}
use Rattle.cluster_msgs.specs.declared.events.Event.{Event}
use Rattle.cluster_msgs.specs.declared.events.Event.TheVariants.{Start, DeliverUp}
use Rattle.cluster_rules.specs.Worker.{would_start}
use Rattle.cluster_rules.specs.World.{Job, IsJob, World, opening}
use Rattle.cluster_rules.specs.WorldStep.{world_step}
use Rattle.cluster_rules.specs.Runs.{LegalFrom, legal, run_from, reached, Yielded, Started, OneAttempt}
use Rattle.pair_machine.specs.Pair.{is_at, Gave, Quiet}
use Rattle.pair_machine.specs.Story.{hears_yes}
use Rattle.pair_moves.specs.Projection.{reports}
use Rattle.safety_laws.specs.Past.{Past, is_it, past_after, no_past, past_from}
use Rattle.safety_laws.proofs.Joint.{IsJoint, joint_step, joint_opening}
use Rattle.safety_laws.proofs.Attempts.{attempt_ended}
use Rattle.safety_laws.proofs.PastWorld.{IsPast, past_step, past_opening}

past_walk : (j : Job) → IsJob j → (es : List Event) (w : World) (p : Past) → LegalFrom j w es → IsJoint j w → IsPast w p → IsPast (run_from j w es) (past_from j w es p)
past_walk j job [] w p l h k = k
past_walk j job (e ∷ es) w p l h k = past_walk j job es (world_step j w e) (past_after w e p) l.1 (joint_step j job w e l.0 h) (past_step j w h.inside h.settled h.numbered h.home p k e l.0)

-- ## What has happened stays so

one_started : (w : World) (e : Event) (p : Past) (i k a : ℕ) → p.started i k a ≡ true → (past_after w e p).started i k a ≡ true
one_started w (Start v) p i k a h = or_left (p.started i k a) _ h
one_started w _ p i k a h = h

one_yielded : (w : World) (e : Event) (p : Past) (i k a : ℕ) → p.yielded i k a ≡ true → (past_after w e p).yielded i k a ≡ true
one_yielded w (DeliverUp v) p i k a h = or_left (p.yielded i k a) _ h
one_yielded w _ p i k a h = h

stays_started : (j : Job) (es : List Event) (w : World) (p : Past) (i k a : ℕ) → p.started i k a ≡ true → (past_from j w es p).started i k a ≡ true
stays_started j [] w p i k a h = h
stays_started j (e ∷ es) w p i k a h = stays_started j es (world_step j w e) (past_after w e p) i k a (one_started w e p i k a h)

stays_yielded : (j : Job) (es : List Event) (w : World) (p : Past) (i k a : ℕ) → p.yielded i k a ≡ true → (past_from j w es p).yielded i k a ≡ true
stays_yielded j [] w p i k a h = h
stays_yielded j (e ∷ es) w p i k a h = stays_yielded j es (world_step j w e) (past_after w e p) i k a (one_yielded w e p i k a h)

past-append : (j : Job) (xs ys : List Event) (w : World) (p : Past) → past_from j w (xs ++ ys) p ≡ past_from j (run_from j w xs) ys (past_from j w xs p)
past-append j [] ys w p = refl
past-append j (x ∷ xs) ys w p = past-append j xs ys (world_step j w x) (past_after w x p)

was_started : (j : Job) (es : List Event) (i k a : ℕ) → Started j es i k a → (past_from j (opening j) es no_past).started i k a ≡ true
was_started j es i k a s = subst (λ l. (past_from j (opening j) l no_past).started i k a ≡ true) (sym s.whole)
    (subst (λ (x : Past). x.started i k a ≡ true) (sym (past-append j s.before (Start i ∷ s.later) (opening j) no_past))
    (stays_started j s.later (world_step j (reached j s.before) (Start i)) (past_after (reached j s.before) (Start i) p) i k a now))
  where
    p : Past
    p = past_from j (opening j) s.before no_past

    now : (past_after (reached j s.before) (Start i) p).started i k a ≡ true
    now = ap (λ b. p.started i k a || b) (ap (λ b. (b && is_it (would_start ((reached j s.before).workers i)) k) && is_at a (((reached j s.before).workers i).mine k)) (eq-eqb i i refl)
        ∙ ap (λ o. is_it o k && is_at a (((reached j s.before).workers i).mine k)) s.key ∙ ap (λ b. b && is_at a (((reached j s.before).workers i).mine k)) (eq-eqb k k refl)
        ∙ ap (λ o. is_at a o) s.attempt ∙ eq-eqb a a refl) ∙ or-true (p.started i k a)

was_yielded : (j : Job) (es : List Event) (i k a : ℕ) → Yielded j es i k a → (past_from j (opening j) es no_past).yielded i k a ≡ true
was_yielded j es i k a s = subst (λ l. (past_from j (opening j) l no_past).yielded i k a ≡ true) (sym s.whole)
    (subst (λ (x : Past). x.yielded i k a ≡ true) (sym (past-append j s.before (DeliverUp i ∷ s.later) (opening j) no_past))
    (stays_yielded j s.later (world_step j (reached j s.before) (DeliverUp i)) (past_after (reached j s.before) (DeliverUp i) p) i k a now))
  where
    p : Past
    p = past_from j (opening j) s.before no_past

    now : (past_after (reached j s.before) (DeliverUp i) p).yielded i k a ≡ true
    now = ap (λ b. p.yielded i k a || b) (ap (λ b. b && hears_yes (reports k ((reached j s.before).up i)) a) (eq-eqb i i refl)
        ∙ ap (λ (l : List Up). hears_yes (reports k l) a) s.message ∙ ap (λ b. hears_yes (cond b (Gave a) Quiet ∷ reports k s.rest) a) (eq-eqb k k refl) ∙ eq-eqb a a refl) ∙ or-true (p.yielded i k a)

pub never_started : (j : Job) → IsJob j → (es : List Event) → legal j es → (i k a : ℕ) → Yielded j es i k a → Started j es i k a → ⊥
never_started j job es l i k a y s =
    let h = past_walk j job es (opening j) no_past l (joint_opening j job) (past_opening j) in
    true≢false (sym (was_started j es i k a s) ∙ ((h.tales i k).gone a (was_yielded j es i k a y)).0)

-- ## Attempt discipline

pub one_attempt : (j : Job) → IsJob j → (es : List Event) → legal j es → OneAttempt j es
one_attempt j job es l = record {
  ended = λ before between later d e v w k a b whole first second. attempt_ended j job before between later d e v w k a b (subst (legal j) whole l) first second;
  unstarted = λ i k a y s. never_started j job es l i k a y s;
}
