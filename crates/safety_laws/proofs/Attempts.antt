-- A key gets another attempt only once the earlier one has ended.
use Rattle.std.proofs.Common.{◌≡◌, ℕ, ◌<◌, ◌≤◌, true, List, [], ◌∷◌, ◌++◌, Option, Some, None, refl, sym, ap, ◌∙◌, subst, arith, inl, inr, ◌⊎◌, ⊎_elim, append_assoc}
use Rattle.small_facts.proofs.Options.{same_second}
use Rattle.cluster_msgs.specs.Shape.{Shape}
use Rattle.cluster_msgs.specs.declared.cores.SchedEvent.{SchedEvent}
use Rattle.cluster_msgs.specs.declared.events.Event.{Event}
use Rattle.cluster_rules.specs.Inside.{IsInsideWorld}
use Rattle.cluster_rules.specs.Sched.{Facts, IsSound}
use Rattle.cluster_rules.specs.SchedTable.{sched_takes}
use Rattle.cluster_rules.specs.Worker.{has_any}
use Rattle.cluster_rules.specs.World.{Job, IsJob, World, opening, is_client}
use Rattle.cluster_rules.specs.WorldStep.{world_step}
use Rattle.cluster_rules.specs.Enabled.{enabled}
use Rattle.cluster_rules.specs.Runs.{LegalFrom, legal, run_from, reached, sched_event, ends_in, Gives, Ended}
use Rattle.cluster_laws.proofs.Attempts.{attempts_end}
use Rattle.safety_laws.specs.Attempts.{AttemptsEnd}
use Rattle.cluster_laws.proofs.SchedPart.{sched_after, sched_is}
use Rattle.safety_laws.proofs.Turns.{event_taken}
use Rattle.safety_laws.proofs.Homes.{letter_from}
use Rattle.safety_laws.proofs.Joint.{IsJoint, joint_step, joint_from, joint_after}

-- ## Lists of events in parts

pub run-append : (j : Job) (w : World) (xs ys : List Event) → run_from j w (xs ++ ys) ≡ run_from j (run_from j w xs) ys
run-append j w [] ys = refl
run-append j w (x ∷ xs) ys = run-append j (world_step j w x) xs ys

pub legal_first : (j : Job) (w : World) (xs ys : List Event) → LegalFrom j w (xs ++ ys) → LegalFrom j w xs
legal_first j w [] ys l = tt
legal_first j w (x ∷ xs) ys l = (l.0, legal_first j (world_step j w x) xs ys l.1)

pub legal_then : (j : Job) (w : World) (xs ys : List Event) → LegalFrom j w (xs ++ ys) → LegalFrom j (run_from j w xs) ys
legal_then j w [] ys l = l
legal_then j w (x ∷ xs) ys l = legal_then j (world_step j w x) xs ys l.1

-- ## One event

-- in a world that names nothing that isn't there: a legal list leads to such worlds alone
pub world_attempts_end : (g : Shape) (j : Job) (w : World) (e : Event) → IsInsideWorld g w → ((c : ℕ) → has_any (w.from_client c) ≡ true → is_client w c ≡ true) → IsSound w.sched → enabled w e ≡ true → AttemptsEnd w e (world_step j w e)
world_attempts_end g j w e inside letters sound t k i a q = pick (sched_event w e) (λ s z. event_taken g w inside letters e s t z) (sched_is j w e)
  where
    pick : (o : Option SchedEvent) → ((s : SchedEvent) → o ≡ Some s → sched_takes w.sched s ≡ true) → (world_step j w e).sched ≡ sched_after w.sched o → ((world_step j w e).sched.on k ≡ Some (i, a)) ⊎ (ends_in w i k a o ≡ true)
    pick None h r = inl (ap (λ (f : Facts). f.on k) r ∙ q)
    pick (Some s) h r = ⊎_elim (λ x. inl (ap (λ (f : Facts). f.on k) r ∙ x)) (λ x. inr x) (attempts_end w.sched s sound (h s refl) k i a q)

-- ## The walk

joint_ends : (j : Job) (w : World) → IsJoint j w → (e : Event) → enabled w e ≡ true → AttemptsEnd w e (world_step j w e)
joint_ends j w h e t = world_attempts_end j.setting.shape j w e h.inside (letter_from j w h.set h.inside h.sound h.home) h.sound t

pub attempts_end_after : (j : Job) → IsJob j → (es : List Event) → legal j es → (e : Event) → enabled (reached j es) e ≡ true → AttemptsEnd (reached j es) e (world_step j (reached j es) e)
attempts_end_after j job es l e t = joint_ends j (reached j es) (joint_after j job es l) e t

-- attempt a of key k, at worker i, ends at some event of the list
record EndsAmong (j : Job) (w : World) (es : List Event) (i k a : ℕ) : Type 0 where
  before : List Event
  ending : Event
  later : List Event
  whole : es ≡ before ++ ending ∷ later
  ends : ends_in (run_from j w before) i k a (sched_event (run_from j w before) ending) ≡ true

ends_later : (j : Job) (w : World) (e : Event) (es : List Event) (i k a : ℕ) → EndsAmong j (world_step j w e) es i k a → EndsAmong j w (e ∷ es) i k a
ends_later j w e es i k a r = record { before = e ∷ r.before; ending = r.ending; later = r.later; whole = ap (λ l. e ∷ l) r.whole; ends = r.ends }

module _ (j : Job) (job : IsJob j) (i k a : ℕ) where
  walk : (es : List Event) (w : World) → IsJoint j w → LegalFrom j w es → w.sched.on k ≡ Some (i, a) → ((run_from j w es).sched.on k ≡ Some (i, a)) ⊎ EndsAmong j w es i k a
  walk [] w h l q = inl q
  walk (e ∷ es) w h l q = pick (joint_ends j w h e l.0 k i a q) (walk es (world_step j w e) (joint_step j job w e l.0 h) l.1)
    where
      pick : ((world_step j w e).sched.on k ≡ Some (i, a)) ⊎ (ends_in w i k a (sched_event w e) ≡ true)
          → ((world_step j w e).sched.on k ≡ Some (i, a) → ((run_from j (world_step j w e) es).sched.on k ≡ Some (i, a)) ⊎ EndsAmong j (world_step j w e) es i k a)
          → ((run_from j (world_step j w e) es).sched.on k ≡ Some (i, a)) ⊎ EndsAmong j w (e ∷ es) i k a
      pick (inl s) rest = later (rest s)
        where
          later : ((run_from j (world_step j w e) es).sched.on k ≡ Some (i, a)) ⊎ EndsAmong j (world_step j w e) es i k a → ((run_from j (world_step j w e) es).sched.on k ≡ Some (i, a)) ⊎ EndsAmong j w (e ∷ es) i k a
          later (inl s) = inl s
          later (inr r) = inr (ends_later j w e es i k a r)
      pick (inr s) rest = inr (record { before = []; ending = e; later = es; whole = refl; ends = s })

-- where another attempt is given, the first has ended by then
pub attempt_ended : (j : Job) → IsJob j → (before between later : List Event) (d e : Event) (v w k a b : ℕ) → legal j (before ++ d ∷ (between ++ e ∷ later))
    → Gives j (reached j before) d v k a → Gives j (reached j (before ++ d ∷ between)) e w k b → Ended j (before ++ d ∷ (between ++ e ∷ [])) v k a
attempt_ended j job before between later d e v w k a b l first second =
    let l1 = legal_then j (opening j) before (d ∷ (between ++ e ∷ later)) l in
    let h0 = joint_after j job before (legal_first j (opening j) before (d ∷ (between ++ e ∷ later)) l) in
    let h1 = joint_step j job (reached j before) d l1.0 h0 in
    let l2 = legal_then j (world_step j (reached j before) d) between (e ∷ later) l1.1 in
    there h1 (legal_first j (world_step j (reached j before) d) between (e ∷ later) l1.1) l2.0
    (walk j job v k a (between ++ e ∷ []) (world_step j (reached j before) d) h1 (joined between (world_step j (reached j before) d) l1.1) first.given)
  where
    w0 : World
    w0 = world_step j (reached j before) d

    joined : (xs : List Event) (u : World) → LegalFrom j u (xs ++ e ∷ later) → LegalFrom j u (xs ++ e ∷ [])
    joined [] u m = (m.0, tt)
    joined (x ∷ xs) u m = (m.0, joined xs (world_step j u x) m.1)

    -- the world before the second attempt is given
    same : reached j (before ++ d ∷ between) ≡ run_from j w0 between
    same = run-append j (opening j) before (d ∷ between)

    ended : EndsAmong j w0 (between ++ e ∷ []) v k a → Ended j (before ++ d ∷ (between ++ e ∷ [])) v k a
    ended r = record {
      before = before;
      giving = d;
      between = r.before;
      ending = r.ending;
      later = r.later;
      whole = ap (λ l. before ++ d ∷ l) r.whole;
      gives = first;
      ends = subst (λ (x : World). ends_in x v k a (sched_event x r.ending) ≡ true) (sym (run-append j (opening j) before (d ∷ r.before))) r.ends;
    }

    there : IsJoint j w0 → LegalFrom j w0 between → enabled (run_from j w0 between) e ≡ true → ((run_from j w0 (between ++ e ∷ [])).sched.on k ≡ Some (v, a)) ⊎ EndsAmong j w0 (between ++ e ∷ []) v k a → Ended j (before ++ d ∷ (between ++ e ∷ [])) v k a
    there h m t (inr r) = ended r
    there h m t (inl s) = ended (early (walk j job v k a between w0 h m first.given))
      where
        early : ((run_from j w0 between).sched.on k ≡ Some (v, a)) ⊎ EndsAmong j w0 between v k a → EndsAmong j w0 (between ++ e ∷ []) v k a
        early (inr r) = record { before = r.before; ending = r.ending; later = r.later ++ e ∷ []; whole = ap (λ l. l ++ e ∷ []) r.whole ∙ append_assoc r.before (r.ending ∷ r.later) (e ∷ []); ends = r.ends }
        early (inl q) =
            let n : a < (run_from j w0 between).sched.counter = (joint_from j job w0 between m h).numbered.below k v a q in
            let c : (run_from j w0 between).sched.counter ≤ b = subst (λ (x : World). x.sched.counter ≤ b) same second.fresh in
            let g : (world_step j (run_from j w0 between) e).sched.on k ≡ Some (w, b) = subst (λ (x : World). (world_step j x e).sched.on k ≡ Some (w, b)) same second.given in
            let z : (world_step j (run_from j w0 between) e).sched.on k ≡ Some (v, a) = ap (λ (x : World). x.sched.on k) (sym (run-append j w0 between (e ∷ []))) ∙ s in
            let y : a ≡ b = same_second (v, a) (w, b) (sym z ∙ g) in
            absurd (omega (arith, n, c, y))
