-- Each legal event keeps each block the value of its key.
use Rattle.std.proofs.Common.{◌≡◌, inl, inr, ⊎_elim, ℕ, Bool, true, false, not, ◌&&◌, ◌||◌, List, [], ◌∷◌, Option, Some, None, refl, sym, ap, ◌∙◌, subst, cond, is_some, is_none}
use Rattle.std.specs.Prelude.{◌==◌}
use Rattle.std.specs.Option.{option_map}
use Rattle.std.specs.List.{list_all, list_any, filter_map}
use Rattle.std.proofs.lemmas.Bool.{false≢true, eqb-true, and_parts, eq-eqb, or_right, or_left, and_from}
use Rattle.std.proofs.lemmas.Option.{none-some, same_Some}
use Rattle.small_facts.proofs.Options.{some_from_is_none}
use Rattle.small_facts.proofs.Truth.{or_without}
use Rattle.cluster_msgs.specs.Shape.{Shape, IsShape, deps_of}
use Rattle.cluster_msgs.specs.Values.{val, faulty}
use Rattle.cluster_msgs.proofs.ValueLemmas.{val-values}
use Rattle.cluster_msgs.specs.declared.cores.WorkerEvent.TheVariants.{Done}
use Rattle.cluster_msgs.specs.declared.events.Asker.{Asker}
use Rattle.cluster_msgs.specs.declared.events.Asker.TheVariants.{Worker, Client}
use Rattle.cluster_msgs.specs.declared.events.Event.{Event}
use Rattle.cluster_msgs.specs.declared.events.Event.TheVariants.{Start, Finish, ArriveGather}
use Rattle.cluster_rules.specs.Sched.{Setting}
use Rattle.cluster_rules.specs.Worker.{would_start}
use Rattle.cluster_rules.specs.World.{Job, World, Parcel, shape_of, same_asker, is_parcel, parcel_of}
use Rattle.cluster_rules.specs.WorldStep.{at_worker, world_step}
use Rattle.cluster_rules.specs.Enabled.{enabled}
use Rattle.cluster_rules.specs.Runs.{LegalFrom, legal, run_from, reached}
use Rattle.cluster_laws.specs.Truth.{anything, faulty_key, has_inputs, IsTrueWorld, IsBlame}
use Rattle.cluster_laws.proofs.TruthWorld.{true_world_step, true_opening}
use Rattle.cluster_laws.specs.Blocks.{Delivery, Cluster, job_of, opening_cluster}
use Rattle.cluster_laws.specs.Moves.{block_among, delivery_of, delivered, brought, meets_zero, world_after, either, keeps, is_it, starts, blocks_after, cluster_step, LegalWithBlocks, cluster_run}
use Rattle.cluster_laws.specs.AreValues.{IsPlace, AreOf, AreValues, IsBlamed}
use Rattle.cluster_laws.proofs.WithinWorld.{IsWorldWithin, PassAt, WorldBrings, within_world}
use Rattle.cluster_laws.proofs.Deliveries.{among_right, among_present, all_present, gathered_right, parcel_found, all_found}
use Rattle.cluster_laws.proofs.Moving.{answers_after, carried_right, starts_fed}

-- a place that keeps its block, or takes one that was brought
pub old_there : {A : Type 0} (old new : Option A) → is_some old ≡ true → is_some (either old new) ≡ true
old_there None new e = absurd (false≢true e)
old_there (Some b) new e = refl

pub new_there : {A : Type 0} (old new : Option A) → is_some new ≡ true → is_some (either old new) ≡ true
new_there None new e = e
new_there (Some b) new e = refl

place_keeps : {A : Type 0} (v : Option A) (counted : Bool) (old new : Option A) → ((b : A) → old ≡ Some b → v ≡ Some b) → ((b : A) → new ≡ Some b → v ≡ Some b)
    → (counted ≡ true → is_some (either old new) ≡ true) → IsPlace v counted (keeps counted old new)
place_keeps v false old new o n t = record { right = λ b e. absurd (none-some b e); present = λ e. absurd (false≢true e); missing = λ e. refl }
place_keeps v true None new o n t = record { right = n; present = λ e. t refl; missing = λ e. absurd (false≢true (sym e)) }
place_keeps v true (Some x) new o n t = record { right = o; present = λ e. refl; missing = λ e. absurd (false≢true (sym e)) }

parcel_there : {A : Type 0} (o : Option (Delivery A)) (q : Parcel) → option_map (λ (d : Delivery A). d.parcel) o ≡ Some q → (d : Delivery A) × (o ≡ Some d) × (d.parcel ≡ q)
parcel_there None q e = absurd (none-some q e)
parcel_there (Some d) q e = (d, refl, same_Some d.parcel q e)

module _ {B : Type 0} (s : Setting) (op : ℕ → List B → Option B) (g : IsShape s.shape) where
  abbrev value : ℕ → Option B
  value = val (deps_of s.shape) op

  abbrev j : Job
  j = job_of s op

  record Holds (c : Cluster B) : Type 0 where
    truth : IsTrueWorld anything j c.world
    values : AreValues (deps_of s.shape) value c

  -- a running key's operation makes its value
  made : (c : Cluster B) → Holds c → (i k : ℕ) → (c.world.workers i).running k ≡ true → value k ≡ op k (c.blocks.inputs i k)
  made c h i k e = val-values (deps_of s.shape) op (record { below = g.below }) k (c.blocks.inputs i k) (h.values.inputs i k e)

  finish_runs : (w : World) (i k : ℕ) → enabled w (Finish i k) ≡ true → (w.workers i).running k ≡ true
  unfolding enabled
  finish_runs w i k t = (and_parts (w.alive i) ((w.workers i).running k) t).1

  -- so the world goes by the values
  same_world : (c : Cluster B) (e : Event) → enabled c.world e ≡ true → Holds c → world_after (meets_zero op c.blocks e) c.world e ≡ world_step j c.world e
  unfolding world_step meets_zero
  same_world c (Finish i k) t h = ap (λ z. at_worker c.world i (Done k z)) (ap is_none (sym (made c h i k (finish_runs c.world i k t))))
  same_world c _ t h = refl

  -- what is brought is the key's value
  brought_right : (c : Cluster B) (e : Event) → enabled c.world e ≡ true → Holds c → (a : Asker) (q : ℕ) (b : B) → brought op c.blocks e a q ≡ Some b → value q ≡ Some b
  unfolding brought
  brought_right c (Finish i k) t h a q b e = pick (same_asker (Worker i) a && k == q) refl e
    where
      pick : (x : Bool) → (same_asker (Worker i) a && k == q) ≡ x → cond x (op k (c.blocks.inputs i k)) None ≡ Some b → value q ≡ Some b
      pick true y e = subst (λ z. value z ≡ Some b) (eqb-true k q (and_parts (same_asker (Worker i) a) (k == q) y).1) (made c h i k (finish_runs c.world i k t) ∙ e)
      pick false y e = absurd (none-some b e)
  brought_right c (ArriveGather x p n) t h a q b e = by (delivery_of x p n c.blocks.carried) refl e
    where
      by : (o : Option (Delivery B)) → delivery_of x p n c.blocks.carried ≡ o → delivered o a q ≡ Some b → value q ≡ Some b
      by None y e = absurd (none-some b e)
      by (Some d) y e = pick (same_asker d.parcel.asker a) e
        where
          pick : (z : Bool) → cond z (block_among d.parcel.keys d.blocks q) None ≡ Some b → value q ≡ Some b
          pick true e = among_right value d.parcel.keys d.blocks (all_found (λ (d : Delivery B). AreOf value d.parcel.keys d.blocks) (λ d. is_parcel x p n d.parcel) c.blocks.carried d y h.values.carried) q b e
          pick false e = absurd (none-some b e)
  brought_right c _ t h a q b e = absurd (none-some b e)

  -- what may be held, may run and may be got after an event
  abbrev may_hold : Cluster B → Event → ℕ → ℕ → Bool
  may_hold c e i q = is_some (either (c.blocks.held i q) (brought op c.blocks e (Worker i) q))

  abbrev may_run : Cluster B → Event → ℕ → ℕ → Bool
  may_run c e i q = (c.world.workers i).running q || starts c.world e i q

  abbrev may_get : Cluster B → Event → ℕ → ℕ → Bool
  may_get c e x q = is_some (either (c.blocks.got x q) (brought op c.blocks e (Client x) q))

  -- what a delivery brings
  comes : (c : Cluster B) → Holds c → (a : Asker) (p n : ℕ) (d : Delivery B) → delivery_of a p n c.blocks.carried ≡ Some d → (x : Asker) → d.parcel.asker ≡ x → same_asker x x ≡ true
      → (q : ℕ) → list_any (λ k. k == q) d.parcel.keys ≡ true → is_some (brought op c.blocks (ArriveGather a p n) x q) ≡ true
  unfolding brought
  comes c h a p n d y x z same q l =
      ap (λ (o : Option (Delivery B)). is_some (delivered o x q)) y
      ∙ ap (λ v. is_some (cond v (block_among d.parcel.keys d.blocks q) None)) (ap (λ v. same_asker v x) z ∙ same)
      ∙ among_present value d.parcel.keys d.blocks (all_found (λ (d : Delivery B). AreOf value d.parcel.keys d.blocks) (λ d. is_parcel a p n d.parcel) c.blocks.carried d y h.values.carried) q l

  arrival : (c : Cluster B) → Holds c → (a : Asker) (p n : ℕ) (d : Delivery B) → delivery_of a p n c.blocks.carried ≡ Some d → (x : Asker) → d.parcel.asker ≡ x
      → PassAt (may_hold c (ArriveGather a p n)) (may_get c (ArriveGather a p n)) x d.parcel.keys
  arrival c h a p n d y (Worker v) z = all_present value d.parcel.keys (may_hold c (ArriveGather a p n) v) (λ q l. new_there (c.blocks.held v q) _ (comes c h a p n d y (Worker v) z (eq-eqb v v refl) q l))
  arrival c h a p n d y (Client v) z = all_present value d.parcel.keys (may_get c (ArriveGather a p n) v) (λ q l. new_there (c.blocks.got v q) _ (comes c h a p n d y (Client v) z (eq-eqb v v refl) q l))

  finished : (c : Cluster B) → Holds c → (i k : ℕ) → enabled c.world (Finish i k) ≡ true → is_none (value k) ≡ false → is_some (brought op c.blocks (Finish i k) (Worker i) k) ≡ true
  unfolding brought
  finished c h i k t z =
      ap (λ v. is_some (cond v (op k (c.blocks.inputs i k)) None)) (and_from (i == i) (k == k) (eq-eqb i i refl) (eq-eqb k k refl))
      ∙ ap is_some (sym (made c h i k (finish_runs c.world i k t))) ∙ some_from_is_none (value k) z

  started : (w : World) (i k : ℕ) → would_start (w.workers i) ≡ Some k → starts w (Start i) i k ≡ true
  unfolding starts
  started w i k e = and_from (i == i) (is_it (would_start (w.workers i)) k) (eq-eqb i i refl) (ap (λ o. is_it o k) e ∙ eq-eqb k k refl)

  brings : (c : Cluster B) (e : Event) → enabled c.world e ≡ true → Holds c → WorldBrings j (may_hold c e) (may_run c e) (may_get c e) c.world e
  brings c e t h = record {
    starts = λ i k y z. subst (λ x. may_run c x i k ≡ true) (sym y) (or_right ((c.world.workers i).running k) _ (started c.world i k z));
    finishes = λ i k y z. subst (λ x. may_hold c x i k ≡ true) (sym y) (new_there (c.blocks.held i k) _ (finished c h i k (subst (λ x. enabled c.world x ≡ true) y t) z));
    arrives = λ a p n q y z. subst (λ x. PassAt (may_hold c x) (may_get c x) q.asker q.keys) (sym y)
        (let r = parcel_there (delivery_of a p n c.blocks.carried) q (sym (parcel_found a p n c.blocks.carried) ∙ ap (λ l. parcel_of a p n l) h.values.answers ∙ z) in
        subst (λ (v : Parcel). PassAt (may_hold c (ArriveGather a p n)) (may_get c (ArriveGather a p n)) v.asker v.keys) r.2 (arrival c h a p n r.0 r.1 r.0.parcel.asker refl));
  }

  within : (c : Cluster B) (e : Event) → Holds c → IsWorldWithin (may_hold c e) (may_run c e) (may_get c e) c.world
  within c e h = record {
    workers = λ i. record { mem = λ k m. old_there (c.blocks.held i k) _ ((h.values.held i k).present m); running = λ k m. or_left ((c.world.workers i).running k) _ m };
    clients = λ x k m. old_there (c.blocks.got x k) _ ((h.values.got x k).present m);
  }

  new_inputs : (c : Cluster B) (e : Event) → Holds c → (i k : ℕ) → may_run c e i k ≡ true
      → AreOf value (deps_of s.shape k) (cond (starts c.world e i k) (filter_map (c.blocks.held i) (deps_of (shape_of c.world) k)) (c.blocks.inputs i k))
  new_inputs c e h i k m = pick (starts c.world e i k) refl
    where
      pick : (b : Bool) → starts c.world e i k ≡ b → AreOf value (deps_of s.shape k) (cond b (filter_map (c.blocks.held i) (deps_of (shape_of c.world) k)) (c.blocks.inputs i k))
      pick true y = subst (λ (x : Setting). AreOf value (deps_of s.shape k) (filter_map (c.blocks.held i) (deps_of x.shape k))) (sym h.truth.sched.setting)
          (gathered_right value (c.world.workers i).mem (c.blocks.held i) (h.values.held i) (deps_of s.shape k)
          (subst (λ (x : Shape). list_all (c.world.workers i).mem (deps_of x k) ≡ true) (h.truth.workers i).shape (starts_fed c.world e i k y)))
      pick false y = h.values.inputs i k (or_without ((c.world.workers i).running k) (starts c.world e i k) m y)

  values_after : (c : Cluster B) (e : Event) → enabled c.world e ≡ true → Holds c
      → AreValues (deps_of s.shape) value (record { world = world_step j c.world e; blocks = blocks_after op c.world (world_step j c.world e) c.blocks e })
  values_after c e t h =
      let v : IsWorldWithin (may_hold c e) (may_run c e) (may_get c e) (world_step j c.world e) = within_world j (may_hold c e) (may_run c e) (may_get c e) c.world e (brings c e t h) (within c e h) in
      record {
        held = λ i k. place_keeps (value k) _ (c.blocks.held i k) (brought op c.blocks e (Worker i) k) (h.values.held i k).right (brought_right c e t h (Worker i) k) ((v.workers i).mem k);
        got = λ x k. place_keeps (value k) _ (c.blocks.got x k) (brought op c.blocks e (Client x) k) (h.values.got x k).right (brought_right c e t h (Client x) k) (v.clients x k);
        inputs = λ i k m. new_inputs c e h i k ((v.workers i).running k m);
        answers = answers_after j c.world c.blocks e h.values.answers;
        carried = carried_right value c.world c.blocks e h.values.held h.values.carried;
      }

  holds_step : (c : Cluster B) (e : Event) → enabled c.world e ≡ true → Holds c → Holds (cluster_step op c e)
  holds_step c e t h =
      subst (λ (v : World). Holds (record { world = v; blocks = blocks_after op c.world v c.blocks e })) (sym (same_world c e t h))
      (record { truth = true_world_step anything j g c.world e (λ s p i k q z. tt) t h.truth; values = values_after c e t h })

  holds_opening : Holds (opening_cluster s op)
  holds_opening = record {
    truth = true_opening anything j g;
    values = record {
      held = λ i k. record { right = λ b e. absurd (none-some b e); present = λ e. absurd (false≢true e); missing = λ e. refl };
      got = λ x k. record { right = λ b e. absurd (none-some b e); present = λ e. absurd (false≢true e); missing = λ e. refl };
      inputs = λ i k e. absurd (false≢true e);
      answers = refl;
      carried = tt;
    };
  }

  holds_run : (c : Cluster B) (es : List Event) → LegalFrom j c.world es → Holds c → Holds (cluster_run op c es) × ((cluster_run op c es).world ≡ run_from j c.world es)
  holds_run c [] l h = (h, refl)
  holds_run c (e ∷ es) l h =
      let same = same_world c e l.0 h in
      let r = holds_run (cluster_step op c e) es (subst (λ (v : World). LegalFrom j v es) (sym same) l.1) (holds_step c e l.0 h) in
      (r.0, r.1 ∙ ap (λ (v : World). run_from j v es) same)

  legal_from : (c : Cluster B) (es : List Event) → Holds c → LegalWithBlocks op c es → LegalFrom j c.world es
  legal_from c [] h l = tt
  legal_from c (e ∷ es) h l = (l.0, subst (λ (v : World). LegalFrom j v es) (same_world c e l.0 h) (legal_from (cluster_step op c e) es (holds_step c e l.0 h) l.1))

  legal_to : (c : Cluster B) (es : List Event) → Holds c → LegalFrom j c.world es → LegalWithBlocks op c es
  legal_to c [] h l = tt
  legal_to c (e ∷ es) h l = (l.0, legal_to (cluster_step op c e) es (holds_step c e l.0 h) (subst (λ (v : World). LegalFrom j v es) (sym (same_world c e l.0 h)) l.1))

  pub values_of : (es : List Event) → legal j es → AreValues (deps_of s.shape) value (cluster_run op (opening_cluster s op) es)
  values_of es l = (holds_run (opening_cluster s op) es l holds_opening).0.values

  pub world_of : (es : List Event) → legal j es → (cluster_run op (opening_cluster s op) es).world ≡ reached j es
  world_of es l = (holds_run (opening_cluster s op) es l holds_opening).1

  pub legal_is : (es : List Event) → (LegalWithBlocks op (opening_cluster s op) es → legal j es) × (legal j es → LegalWithBlocks op (opening_cluster s op) es)
  legal_is es = (legal_from (opening_cluster s op) es holds_opening, legal_to (opening_cluster s op) es holds_opening)

  -- a client has a block of each key that it counts as got
  pub got_block : (es : List Event) → legal j es → (x k : ℕ) → ((reached j es).clients x).got k ≡ true → is_some ((cluster_run op (opening_cluster s op) es).blocks.got x k) ≡ true
  got_block es l x k e = ((values_of es l).got x k).present (subst (λ (v : World). (v.clients x).got k ≡ true) (sym (world_of es l)) e)

  -- blame
  all_have : (ds : List ℕ) → list_all (λ d. not (is_none (value d))) ds ≡ true → list_all (λ d. is_some (value d)) ds ≡ true
  all_have [] e = refl
  all_have (d ∷ ds) e = let p = and_parts (not (is_none (value d))) (list_all (λ d. not (is_none (value d))) ds) e in and_from _ _ (has (value d) p.0) (all_have ds p.1)
    where
      has : (o : Option B) → not (is_none o) ≡ true → is_some o ≡ true
      has None e = e
      has (Some b) e = refl

  pub blamed : (excused : ℕ → Type 0) (k b : ℕ) → IsBlame excused j k b → IsBlamed excused (deps_of s.shape) value k b
  blamed excused k b h = record { fault = ⊎_elim (λ z. inl (zero_divides z)) (λ x. inr x) h.fault; within = h.within }
    where
      zero_divides : faulty_key j b ≡ true → faulty (deps_of s.shape) value b ≡ true
      zero_divides z = let p = and_parts (has_inputs j b) (j.zero b) z in and_from _ _ (all_have (deps_of s.shape b) p.0) p.1
