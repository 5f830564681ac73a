-- What holds of the world after every legal list of events.
use Rattle.std.proofs.Common.{◌≡◌, ℕ, ◌<◌, ◌≤◌, Bool, true, false, cond, ◌&&◌, List, [], ◌∷◌, Option, Some, None, refl, sym, ap, ◌∙◌, subst, arith, is_some, ⊎_elim}
use Rattle.std.specs.Prelude.{◌↔◌}
use Rattle.std.proofs.lemmas.Bool.{true≢false, false≢true, eqb-true, ltb-true, cases_lt, eq-eqb}
use Rattle.std.proofs.Math.Dec.{eqb}
use Rattle.std.proofs.lemmas.Option.{none-some, same_Some}
use Rattle.small_facts.proofs.Truth.{and_first}
use Rattle.cluster_msgs.specs.Shape.{Shape, key_count}
use Rattle.cluster_msgs.specs.declared.cores.SchedEvent.{SchedEvent}
use Rattle.cluster_msgs.specs.declared.events.Event.{Event}
use Rattle.cluster_rules.specs.Sched.{Facts, IsSound, holds, known, need, ready, open_key, fed}
use Rattle.cluster_rules.specs.SchedTable.{sched_takes}
use Rattle.cluster_rules.specs.World.{Job, IsJob, World, opening, shape_of, Drained}
use Rattle.cluster_rules.specs.WorldStep.{world_step}
use Rattle.cluster_rules.specs.Enabled.{enabled}
use Rattle.cluster_rules.specs.Inside.{IsInsideWorld}
use Rattle.cluster_rules.specs.Runs.{LegalFrom, legal, run_from, reached, sched_event, OnlyKnown, Agrees}
use Rattle.cluster_laws.proofs.InsideWorld.{in_world_step, in_after}
use Rattle.cluster_rules.proofs.SoundStep.{sound_step, sound_opening}
use Rattle.cluster_laws.specs.Settled.{IsSettled}
use Rattle.cluster_laws.proofs.SettledLemmas.{settled_step, settled_opening}
use Rattle.cluster_laws.proofs.Errors.{holder_of}
use Rattle.pair_machine.proofs.PairKept.{at_rest}
use Rattle.pair_moves.specs.Projection.{notes, reports, at_worker, IsNumbered}
use Rattle.pair_moves.proofs.Events.{numbered_step, numbered_opening}
use Rattle.safety_laws.specs.Joint.{pair_at, IsPaired}
use Rattle.cluster_laws.proofs.SchedPart.{sched_after, sched_is}
use Rattle.safety_laws.proofs.Turns.{same_setting, event_taken}
use Rattle.safety_laws.proofs.Homes.{IsHome, home_step, home_opening, letter_from}
use Rattle.safety_laws.proofs.Paired.{IsUnsent, unsent_after, paired_step}

-- ## The joint invariant

pub record IsJoint (j : Job) (w : World) : Type 0 where
  pub set : w.sched.setting ≡ j.setting
  pub inside : IsInsideWorld j.setting.shape w
  pub sound : IsSound w.sched
  pub settled : IsSettled w.sched
  pub numbered : IsNumbered w.sched
  pub unsent : IsUnsent w.sched
  pub home : IsHome j.setting.shape j.setting.clients w.sched.last_worker w
  pub paired : IsPaired w

-- the scheduler's facts after an event that is taken, or after none
after_sound : (f : Facts) (o : Option SchedEvent) → ((s : SchedEvent) → o ≡ Some s → sched_takes f s ≡ true) → IsSound f → IsSound (sched_after f o)
after_sound f None t h = h
after_sound f (Some s) t h = sound_step f h s (t s refl)

after_settled : (f : Facts) (o : Option SchedEvent) → ((s : SchedEvent) → o ≡ Some s → sched_takes f s ≡ true) → IsSound f → IsSettled f → IsSettled (sched_after f o)
after_settled f None t h g = g
after_settled f (Some s) t h g = settled_step f h g s (t s refl)

after_numbered : (f : Facts) (o : Option SchedEvent) → IsSettled f → IsNumbered f → IsNumbered (sched_after f o)
after_numbered f None g n = n
after_numbered f (Some s) g n = numbered_step f s g n

module _ (j : Job) (job : IsJob j) where
  pub takes : (w : World) (e : Event) → enabled w e ≡ true → IsJoint j w → (s : SchedEvent) → sched_event w e ≡ Some s → sched_takes w.sched s ≡ true
  takes w e t h s q = event_taken j.setting.shape w h.inside (letter_from j w h.set h.inside h.sound h.home) e s t q

  pub joint_step : (w : World) (e : Event) → enabled w e ≡ true → IsJoint j w → IsJoint j (world_step j w e)
  joint_step w e t h =
      let inside = in_world_step j job.shape w e t h.inside in
      record {
        set = same_setting j w e ∙ h.set;
        inside = inside;
        sound = subst IsSound (sym (sched_is j w e)) (after_sound w.sched (sched_event w e) (takes w e t h) h.sound);
        settled = subst IsSettled (sym (sched_is j w e)) (after_settled w.sched (sched_event w e) (takes w e t h) h.sound h.settled);
        numbered = subst IsNumbered (sym (sched_is j w e)) (after_numbered w.sched (sched_event w e) h.settled h.numbered);
        unsent = subst IsUnsent (sym (sched_is j w e)) (unsent_after w.sched (sched_event w e) h.sound (takes w e t h) h.unsent);
        home = home_step j w h.set h.inside h.sound h.home e t;
        paired = λ i k l. paired_step j w h.inside h.sound h.settled h.numbered h.unsent h.home (letter_from j w h.set h.inside h.sound h.home) h.paired i k
            (subst (λ (g : Shape). k < key_count g) (inside.shape ∙ sym h.inside.shape) l) e t;
      }

  pub joint_opening : IsJoint j (opening j)
  joint_opening = record {
    set = refl;
    inside = in_after j job.shape [] tt;
    sound = sound_opening j.setting job.shape job.clients (job.some, job.most);
    settled = settled_opening j.setting;
    numbered = numbered_opening j.setting;
    unsent = record { sent = λ i l. refl; fence = λ i k l. refl };
    home = home_opening j;
    paired = λ i k l a c. absurd (false≢true a);
  }

  pub joint_from : (w : World) (es : List Event) → LegalFrom j w es → IsJoint j w → IsJoint j (run_from j w es)
  joint_from w [] l h = h
  joint_from w (e ∷ es) l h = joint_from (world_step j w e) es l.1 (joint_step w e l.0 h)

  pub joint_after : (es : List Event) → legal j es → IsJoint j (reached j es)
  joint_after es l = joint_from (opening j) es l joint_opening

-- ## Only known keys have facts

pub only_known : (f : Facts) → IsSettled f → OnlyKnown f
unfolding ready
only_known f t = record {
  has = λ i k e. t.needed_are_known k (t.held_are_needed i k e);
  on = λ k e. t.needed_are_known k (needed k (t.placed_are_ready k e));
  steal = λ k e. t.needed_are_known k (needed k (t.placed_are_ready k (t.stolen_are_placed k e)));
  bad = t.errors_are_known;
  losses = λ k l. counted k l (known f k) refl;
  held = λ k e. there k (holder_of f k e);
}
  where
    needed : (k : ℕ) → ready f k ≡ true → need f k ≡ true
    needed k e = and_first (need f k) (open_key f k) (and_first (need f k && open_key f k) (fed f k) e)

    counted : (k : ℕ) → 1 ≤ f.losses k → (b : Bool) → known f k ≡ b → b ≡ true
    counted k l true e = refl
    counted k l false e = absurd (omega (arith, l, t.losses_are_known k e))

    there : (k : ℕ) → (w : ℕ) × (holds f w k ≡ true) → need f k ≡ true
    there k (w, e) = t.held_are_needed w k e

-- ## A worker with no message under way agrees

pub drained_agrees : (j : Job) (w : World) → IsJoint j w → (i : ℕ) → Drained w i → Agrees w i
drained_agrees j w h i d = record { mem = λ k. (at k).0; mine = λ k a. (at k).1 a }
  where
    -- the attempt of a place at a worker
    place_is : (o : Option (ℕ × ℕ)) (m : Option ℕ) → at_worker i o ≡ m → (a : ℕ) → (m ≡ Some a) ↔ (o ≡ Some (i, a))
    place_is None m e a = (λ q. absurd (none-some a (e ∙ q)), λ q. absurd (none-some (i, a) q))
    place_is (Some p) m e a = by (eqb p.0 i) refl
      where
        parts : (x y : ℕ × ℕ) → Some x ≡ Some y → (x.0 ≡ y.0) × (x.1 ≡ y.1)
        parts x y q = let z : x ≡ y = cc in (ap (λ (r : ℕ × ℕ). r.0) z, ap (λ (r : ℕ × ℕ). r.1) z)

        by : (b : Bool) → eqb p.0 i ≡ b → (m ≡ Some a) ↔ (Some p ≡ Some (i, a))
        by true c = (
          λ q. ap Some (λ y. (eqb-true p.0 i c y, same_Some p.1 a (sym (ap (λ b. cond b (Some p.1) None) c) ∙ e ∙ q) y)),
          λ q. sym e ∙ ap (λ b. cond b (Some p.1) None) c ∙ ap Some (parts p (i, a) q).1,
        )
        by false c = (
          λ q. absurd (none-some a (sym (ap (λ b. cond b (Some p.1) None) c) ∙ e ∙ q)),
          λ q. absurd (true≢false (sym (eq-eqb p.0 i (parts p (i, a) q).0) ∙ c)),
        )

    at : (k : ℕ) → ((w.workers i).mem k ≡ holds w.sched i k) × ((a : ℕ) → ((w.workers i).mine k ≡ Some a) ↔ (w.sched.on k ≡ Some (i, a)))
    at k = ⊎_elim (λ l. here l) (λ l. past l) (cases_lt k (key_count (shape_of w)))
      where
        here : k < key_count (shape_of w) → ((w.workers i).mem k ≡ holds w.sched i k) × ((a : ℕ) → ((w.workers i).mine k ≡ Some a) ↔ (w.sched.on k ≡ Some (i, a)))
        here l = let r = at_rest (pair_at w i k) (h.paired i k l d.alive d.connected) (ap (notes k) d.down) (ap (reports k) d.up) in
            (sym r.0, λ a. place_is (w.sched.on k) ((w.workers i).mine k) r.1 a)

        past : key_count (shape_of w) ≤ k → ((w.workers i).mem k ≡ holds w.sched i k) × ((a : ℕ) → ((w.workers i).mine k ≡ Some a) ↔ (w.sched.on k ≡ Some (i, a)))
        past l = (
          no_block ((w.workers i).mem k) refl ∙ sym (ap is_some (h.sound.has i k l)),
          λ a. (
            λ q. absurd (none-some a (sym (h.home.mine i k (subst (λ (g : Shape). key_count g ≤ k) h.inside.shape l)) ∙ q)),
            λ q. absurd (none-some (i, a) (sym (h.sound.on k l) ∙ q)),
          ),
        )
          where
            no_block : (b : Bool) → (w.workers i).mem k ≡ b → b ≡ false
            no_block true e = let m : k < key_count j.setting.shape = ltb-true k (key_count j.setting.shape) ((h.inside.workers i).mem k e) in
                absurd (omega (arith, m, subst (λ (g : Shape). key_count g ≤ k) h.inside.shape l))
            no_block false e = refl
