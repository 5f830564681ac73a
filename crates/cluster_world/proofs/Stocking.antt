-- Each event that is enabled keeps blocks where they are counted, and each one that its key may have.
use Rattle.std.proofs.Common.{◌≡◌, ℕ, Bool, true, false, ◌&&◌, ◌||◌, List, [], ◌∷◌, Option, Some, None, refl, sym, ap, ◌∙◌, subst, cond, is_some, is_none, filter}
use Rattle.std.specs.Prelude.{◌==◌}
use Rattle.std.specs.Option.{option_map}
use Rattle.std.specs.List.{list_all, list_any, filter_map, cons_option, AllByRecursion}
use Rattle.std.proofs.lemmas.Bool.{false≢true, eqb-true, and_parts, eq-eqb, or_right, or_left, and_from}
use Rattle.std.proofs.lemmas.Option.{none-some, same_Some}
use Rattle.small_facts.proofs.Options.{some_from_is_none}
use Rattle.small_facts.proofs.Truth.{or_without}
use Rattle.cluster_msgs.specs.Shape.{Shape, deps_of}
use Rattle.cluster_msgs.specs.declared.events.Asker.{Asker}
use Rattle.cluster_msgs.specs.declared.events.Asker.TheVariants.{Worker, Client}
use Rattle.cluster_msgs.specs.declared.events.Event.{Event}
use Rattle.cluster_msgs.specs.declared.events.Event.TheVariants.{Start, Finish, ServeGather, ArriveGather}
use Rattle.cluster_rules.specs.Worker.{would_start}
use Rattle.cluster_rules.specs.World.{Job, World, Parcel, shape_of, same_asker, is_parcel, parcel_of}
use Rattle.cluster_rules.specs.WorldStep.{world_step}
use Rattle.cluster_laws.specs.Blocks.{Delivery, Blocks, Cluster}
use Rattle.cluster_laws.specs.Moves.{block_among, delivery_of, delivered, brought, meets_zero, either, keeps, is_it, starts, served, taken, carried_after}
use Rattle.cluster_laws.proofs.WithinWorld.{IsWorldWithin, PassAt, WorldBrings, within_world}
use Rattle.cluster_laws.proofs.Deliveries.{all_present, parcel_found, all_with, all_filter, all_found}
use Rattle.cluster_laws.proofs.Moving.{answers_after, starts_fed}
use Rattle.cluster_world.specs.Kept.{IsFilled, AreFor, IsStocked}
use Rattle.cluster_world.specs.Outcomes.{stepped}
use Rattle.cluster_laws.proofs.BlockValues.{old_there, new_there}

parcel_there : {A : Type 0} (o : Option (Delivery A)) (q : Parcel) → option_map (λ (d : Delivery A). d.parcel) o ≡ Some q → (d : Delivery A) × (o ≡ Some d) × (d.parcel ≡ q)
parcel_there None q e = absurd (none-some q e)
parcel_there (Some d) q e = (d, refl, same_Some d.parcel q e)

module _ {B : Type 0} (Fits : ℕ → B → Type 0) where
  filled_keeps : (k : ℕ) (counted : Bool) (old new : Option B) → ((b : B) → old ≡ Some b → Fits k b) → ((b : B) → new ≡ Some b → Fits k b) → (counted ≡ true → is_some (either old new) ≡ true) → IsFilled (Fits k) counted (keeps counted old new)
  filled_keeps k false old new o n t = record { fits = λ b e. absurd (none-some b e); present = λ e. absurd (false≢true e); missing = λ e. refl }
  filled_keeps k true None new o n t = record { fits = n; present = λ e. t refl; missing = λ e. absurd (false≢true (sym e)) }
  filled_keeps k true (Some x) new o n t = record { fits = o; present = λ e. refl; missing = λ e. absurd (false≢true (sym e)) }

  among_fits : (ks : List ℕ) (bs : List B) → AreFor Fits ks bs → (q : ℕ) (b : B) → block_among ks bs q ≡ Some b → Fits q b
  among_fits [] bs h q b e = absurd (none-some b e)
  among_fits (k ∷ ks) [] h q b e = absurd h
  among_fits (k ∷ ks) (x ∷ bs) h q b e = pick (k == q) refl e (λ i. among_fits ks bs h.1 q b i)
    where
      pick : (c : Bool) → (k == q) ≡ c → cond c (Some x) (block_among ks bs q) ≡ Some b → (block_among ks bs q ≡ Some b → Fits q b) → Fits q b
      pick true i e r = subst (λ z. Fits z b) (eqb-true k q i) (subst (λ y. Fits k y) (same_Some x b e) h.0)
      pick false i e r = r e

  among_there : (ks : List ℕ) (bs : List B) → AreFor Fits ks bs → (q : ℕ) → list_any (λ k. k == q) ks ≡ true → is_some (block_among ks bs q) ≡ true
  among_there [] bs h q e = absurd (false≢true e)
  among_there (k ∷ ks) [] h q e = absurd h
  among_there (k ∷ ks) (x ∷ bs) h q e = pick (k == q) e (λ i. among_there ks bs h.1 q i)
    where
      pick : (c : Bool) → (c || list_any (λ j. j == q) ks) ≡ true → (list_any (λ j. j == q) ks ≡ true → is_some (block_among ks bs q) ≡ true) → is_some (cond c (Some x) (block_among ks bs q)) ≡ true
      pick true e r = refl
      pick false e r = r e

  gathered_for : (counted : ℕ → Bool) (block : ℕ → Option B) → ((k : ℕ) → IsFilled (Fits k) (counted k) (block k)) → (ks : List ℕ) → list_all counted ks ≡ true → AreFor Fits ks (filter_map block ks)
  gathered_for counted block h [] e = tt
  gathered_for counted block h (k ∷ ks) e =
      let p = and_parts (counted k) (list_all counted ks) e in
      by (block k) refl ((h k).present p.0) (gathered_for counted block h ks p.1)
    where
      by : (o : Option B) → block k ≡ o → is_some (block k) ≡ true → AreFor Fits ks (filter_map block ks) → AreFor Fits (k ∷ ks) (cons_option o (filter_map block ks))
      by None s i r = absurd (false≢true (sym (ap is_some s) ∙ i))
      by (Some b) s i r = ((h k).fits b s, r)

  counted_all : (counted : ℕ → Bool) (ks : List ℕ) → list_all counted (filter counted ks) ≡ true
  counted_all counted [] = refl
  counted_all counted (k ∷ ks) = pick (counted k) refl (counted_all counted ks)
    where
      pick : (c : Bool) → counted k ≡ c → list_all counted (filter counted ks) ≡ true → list_all counted (cond c (k ∷ filter counted ks) (filter counted ks)) ≡ true
      pick true e r = ap (λ x. x && list_all counted (filter counted ks)) e ∙ r
      pick false e r = r

  served_for : (counted : ℕ → Bool) (block : ℕ → Option B) → ((k : ℕ) → IsFilled (Fits k) (counted k) (block k)) → (ks : List ℕ) → AreFor Fits (filter counted ks) (filter_map block (filter counted ks))
  served_for counted block h ks = gathered_for counted block h (filter counted ks) (counted_all counted ks)

  abbrev IsFor : Delivery B → Type 0
  IsFor d = AreFor Fits d.parcel.keys d.blocks

  carried_for : (w : World) (b : Blocks B) (e : Event) → ((i k : ℕ) → IsFilled (Fits k) ((w.workers i).mem k) (b.held i k)) → AllByRecursion IsFor b.carried → AllByRecursion IsFor (carried_after w b e)
  unfolding carried_after
  carried_for w b (ServeGather p a n) h all = by (parcel_of a p n w.requests)
    where
      by : (o : Option Parcel) → AllByRecursion IsFor (served w b p o)
      by None = all
      by (Some q) = all_with IsFor _ b.carried (served_for (w.workers p).mem (b.held p) (h p) q.keys) all
  carried_for w b (ArriveGather a p n) h all = by (delivery_of a p n b.carried)
    where
      by : (o : Option (Delivery B)) → AllByRecursion IsFor (taken o b.carried)
      by None = all
      by (Some d) = all_filter IsFor _ b.carried all
  carried_for w b _ h all = all

  module _ (deps : ℕ → List ℕ) (o : Option B) where
    abbrev op : ℕ → List B → Option B
    op k bs = o

    finish_zero : (c : Cluster B) (e : Event) → Job
    finish_zero c e = record { setting = c.world.sched.setting; zero = λ k. meets_zero op c.blocks e }

    -- what is brought may stand there
    brought_fits : (c : Cluster B) (e : Event) → IsStocked Fits deps c → ((i k : ℕ) (b : B) → e ≡ Finish i k → o ≡ Some b → Fits k b) → (a : Asker) (q : ℕ) (b : B) → brought op c.blocks e a q ≡ Some b → Fits q b
    unfolding brought
    brought_fits c (Finish i k) h f a q b e = pick (same_asker (Worker i) a && k == q) refl e
      where
        pick : (x : Bool) → (same_asker (Worker i) a && k == q) ≡ x → cond x o None ≡ Some b → Fits q b
        pick true y e = subst (λ z. Fits z b) (eqb-true k q (and_parts (same_asker (Worker i) a) (k == q) y).1) (f i k b refl e)
        pick false y e = absurd (none-some b e)
    brought_fits c (ArriveGather x p n) h f a q b e = by (delivery_of x p n c.blocks.carried) refl e
      where
        by : (d : Option (Delivery B)) → delivery_of x p n c.blocks.carried ≡ d → delivered d a q ≡ Some b → Fits q b
        by None y e = absurd (none-some b e)
        by (Some d) y e = pick (same_asker d.parcel.asker a) e
          where
            pick : (z : Bool) → cond z (block_among d.parcel.keys d.blocks q) None ≡ Some b → Fits q b
            pick true e = among_fits d.parcel.keys d.blocks (all_found IsFor (λ d. is_parcel x p n d.parcel) c.blocks.carried d y h.carried) q b e
            pick false e = absurd (none-some b e)
    brought_fits c _ h f a q b e = absurd (none-some b e)

    abbrev may_hold : Cluster B → Event → ℕ → ℕ → Bool
    may_hold c e i q = is_some (either (c.blocks.held i q) (brought op c.blocks e (Worker i) q))

    abbrev may_run : Cluster B → Event → ℕ → ℕ → Bool
    may_run c e i q = (c.world.workers i).running q || starts c.world e i q

    abbrev may_get : Cluster B → Event → ℕ → ℕ → Bool
    may_get c e x q = is_some (either (c.blocks.got x q) (brought op c.blocks e (Client x) q))

    comes : (c : Cluster B) → IsStocked Fits deps c → (a : Asker) (p n : ℕ) (d : Delivery B) → delivery_of a p n c.blocks.carried ≡ Some d → (x : Asker) → d.parcel.asker ≡ x → same_asker x x ≡ true
        → (q : ℕ) → list_any (λ k. k == q) d.parcel.keys ≡ true → is_some (brought op c.blocks (ArriveGather a p n) x q) ≡ true
    unfolding brought
    comes c h a p n d y x z same q l =
        ap (λ (v : Option (Delivery B)). is_some (delivered v x q)) y
        ∙ ap (λ v. is_some (cond v (block_among d.parcel.keys d.blocks q) None)) (ap (λ v. same_asker v x) z ∙ same)
        ∙ among_there d.parcel.keys d.blocks (all_found IsFor (λ d. is_parcel a p n d.parcel) c.blocks.carried d y h.carried) q l

    arrival : (c : Cluster B) → IsStocked Fits deps c → (a : Asker) (p n : ℕ) (d : Delivery B) → delivery_of a p n c.blocks.carried ≡ Some d → (x : Asker) → d.parcel.asker ≡ x
        → PassAt (may_hold c (ArriveGather a p n)) (may_get c (ArriveGather a p n)) x d.parcel.keys
    arrival c h a p n d y (Worker v) z = all_present {B = B} (λ q. None) d.parcel.keys (may_hold c (ArriveGather a p n) v) (λ q l. new_there (c.blocks.held v q) _ (comes c h a p n d y (Worker v) z (eq-eqb v v refl) q l))
    arrival c h a p n d y (Client v) z = all_present {B = B} (λ q. None) d.parcel.keys (may_get c (ArriveGather a p n) v) (λ q l. new_there (c.blocks.got v q) _ (comes c h a p n d y (Client v) z (eq-eqb v v refl) q l))

    finished : (c : Cluster B) (i k : ℕ) → is_none o ≡ false → is_some (brought op c.blocks (Finish i k) (Worker i) k) ≡ true
    unfolding brought
    finished c i k z = ap (λ v. is_some (cond v o None)) (and_from (i == i) (k == k) (eq-eqb i i refl) (eq-eqb k k refl)) ∙ some_from_is_none o z

    zero_is : (c : Cluster B) (i k : ℕ) → meets_zero op c.blocks (Finish i k) ≡ is_none o
    unfolding meets_zero
    zero_is c i k = refl

    started : (w : World) (i k : ℕ) → would_start (w.workers i) ≡ Some k → starts w (Start i) i k ≡ true
    unfolding starts
    started w i k e = and_from (i == i) (is_it (would_start (w.workers i)) k) (eq-eqb i i refl) (ap (λ s. is_it s k) e ∙ eq-eqb k k refl)

    brings : (c : Cluster B) (e : Event) → IsStocked Fits deps c → WorldBrings (finish_zero c e) (may_hold c e) (may_run c e) (may_get c e) c.world e
    unfolding finish_zero
    brings c e h = record {
      starts = λ i k y z. subst (λ x. may_run c x i k ≡ true) (sym y) (or_right ((c.world.workers i).running k) _ (started c.world i k z));
      finishes = λ i k y z. subst (λ x. may_hold c x i k ≡ true) (sym y) (new_there (c.blocks.held i k) _ (finished c i k (sym (zero_is c i k) ∙ ap (λ x. meets_zero op c.blocks x) (sym y) ∙ z)));
      arrives = λ a p n q y z. subst (λ x. PassAt (may_hold c x) (may_get c x) q.asker q.keys) (sym y)
          (let r = parcel_there (delivery_of a p n c.blocks.carried) q (sym (parcel_found a p n c.blocks.carried) ∙ ap (λ l. parcel_of a p n l) h.answers ∙ z) in
          subst (λ (v : Parcel). PassAt (may_hold c (ArriveGather a p n)) (may_get c (ArriveGather a p n)) v.asker v.keys) r.2 (arrival c h a p n r.0 r.1 r.0.parcel.asker refl));
    }

    within : (c : Cluster B) (e : Event) → IsStocked Fits deps c → IsWorldWithin (may_hold c e) (may_run c e) (may_get c e) c.world
    within c e h = record {
      workers = λ i. record { mem = λ k m. old_there (c.blocks.held i k) _ ((h.held i k).present m); running = λ k m. or_left ((c.world.workers i).running k) _ m };
      clients = λ x k m. old_there (c.blocks.got x k) _ ((h.got x k).present m);
    }

    new_inputs : (c : Cluster B) (e : Event) → IsStocked Fits deps c → deps ≡ deps_of (shape_of c.world) → ((i : ℕ) → (c.world.workers i).shape ≡ shape_of c.world) → (i k : ℕ) → may_run c e i k ≡ true
        → AreFor Fits (deps k) (cond (starts c.world e i k) (filter_map (c.blocks.held i) (deps_of (shape_of c.world) k)) (c.blocks.inputs i k))
    new_inputs c e h g s i k m = pick (starts c.world e i k) refl
      where
        pick : (b : Bool) → starts c.world e i k ≡ b → AreFor Fits (deps k) (cond b (filter_map (c.blocks.held i) (deps_of (shape_of c.world) k)) (c.blocks.inputs i k))
        pick true y = subst (λ (f : ℕ → List ℕ). AreFor Fits (f k) (filter_map (c.blocks.held i) (deps_of (shape_of c.world) k))) (sym g)
            (gathered_for (c.world.workers i).mem (c.blocks.held i) (h.held i) (deps_of (shape_of c.world) k)
            (subst (λ (x : Shape). list_all (c.world.workers i).mem (deps_of x k) ≡ true) (s i) (starts_fed c.world e i k y)))
        pick false y = h.inputs i k (or_without ((c.world.workers i).running k) (starts c.world e i k) m y)

    pub stocked_after : (c : Cluster B) (e : Event) → IsStocked Fits deps c → deps ≡ deps_of (shape_of c.world) → ((i : ℕ) → (c.world.workers i).shape ≡ shape_of c.world)
        → ((i k : ℕ) (b : B) → e ≡ Finish i k → o ≡ Some b → Fits k b) → IsStocked Fits deps (stepped o c e)
    unfolding finish_zero
    stocked_after c e h g s f =
        let j = finish_zero c e in
        let v : IsWorldWithin (may_hold c e) (may_run c e) (may_get c e) (world_step j c.world e) = within_world j (may_hold c e) (may_run c e) (may_get c e) c.world e (brings c e h) (within c e h) in
        record {
          held = λ i k. filled_keeps k _ (c.blocks.held i k) _ (h.held i k).fits (brought_fits c e h f (Worker i) k) ((v.workers i).mem k);
          got = λ x k. filled_keeps k _ (c.blocks.got x k) _ (h.got x k).fits (brought_fits c e h f (Client x) k) (v.clients x k);
          inputs = λ i k m. new_inputs c e h g s i k ((v.workers i).running k m);
          answers = answers_after j c.world c.blocks e h.answers;
          carried = carried_for c.world c.blocks e h.held h.carried;
        }

    -- what the step of a node needs
    pub no_stray : (c : Cluster B) → IsStocked Fits deps c → ((i k : ℕ) → (c.world.workers i).mem k ≡ false → c.blocks.held i k ≡ None) × ((x k : ℕ) → (c.world.clients x).got k ≡ false → c.blocks.got x k ≡ None)
    no_stray c h = (λ i k. (h.held i k).missing, λ x k. (h.got x k).missing)
