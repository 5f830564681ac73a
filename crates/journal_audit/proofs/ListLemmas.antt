-- Two jobs of one graph of which the same keys meet a zero divisor: the same lists are legal.
use Rattle.std.proofs.Common.{◌≡◌, ℕ, ◌<◌, ◌≤◌, true, false, List, [], ◌∷◌, Option, Some, None, refl, sym, ap, subst, ◌∙◌, arith}
use Rattle.std.specs.Prelude.{◌↔◌, is_none}
use Rattle.std.proofs.lemmas.Bool.{false≢true, false_from_ne_true, and_parts, ltb-true}
use Rattle.cluster_msgs.specs.Shape.{IsShape, deps_of, key_count}
use Rattle.cluster_msgs.specs.Values.{val}
use Rattle.small_facts.proofs.Options.{some_not_none}
use Rattle.cluster_msgs.proofs.ShapeLemmas.{earlier}
use Rattle.cluster_msgs.proofs.ValueLemmas.{bad-fault, cone-below, faulty-operation}
use Rattle.cluster_msgs.specs.declared.events.Entry.{Entry}
use Rattle.cluster_msgs.specs.declared.events.Event.{Event}
use Rattle.cluster_msgs.specs.declared.events.Event.TheVariants.{Want, Release, Join, Lose, SeeLoss, Suspect, DeliverDown, DeliverUp, DeliverToClient, DeliverFromClient, Start, Finish, SendGather, ServeGather, ArriveGather, FailGather, Balance, Evict, Replicate, Spill, LoseSpilled}
use Rattle.cluster_msgs.specs.declared.cores.WorkerEvent.TheVariants.{Done}
use Rattle.cluster_rules.specs.Enabled.{enabled, message}
use Rattle.cluster_rules.specs.Inside.{IsInsideWorld}
use Rattle.cluster_rules.specs.Report.{taken}
use Rattle.cluster_rules.specs.Runs.{LegalFrom, legal, reached, run_from}
use Rattle.cluster_rules.specs.Sched.{Setting}
use Rattle.cluster_rules.specs.World.{Job, World, opening}
use Rattle.cluster_rules.specs.WorldStep.{at_worker, world_step}
use Rattle.cluster_laws.proofs.InsideWorld.{in_after, in_world_step}
use Rattle.cluster_laws.specs.Blocks.{job_of}
use Rattle.journal_audit.specs.Audits.{IsLegalJournal, events_of}
use Rattle.journal_audit.specs.Shapes.{HasNoFault, shape_job}

-- ## Events

module _ (j i : Job) (setting : i.setting ≡ j.setting) (low : IsShape j.setting.shape) (zeros : (k : ℕ) → k < key_count j.setting.shape → j.zero k ≡ i.zero k) where
  -- an event that is enabled does the same by both
  same_step : (w : World) (e : Event) → enabled w e ≡ true → IsInsideWorld j.setting.shape w → world_step j w e ≡ world_step i w e
  unfolding world_step enabled
  same_step w (Want c ks) on h = refl
  same_step w (Release c ks) on h = refl
  same_step w (Join threads) on h = refl
  same_step w (Lose v) on h = refl
  same_step w (SeeLoss v) on h = refl
  same_step w (Suspect v) on h = refl
  same_step w (DeliverDown v) on h = refl
  same_step w (DeliverUp v) on h = refl
  same_step w (DeliverToClient c) on h = refl
  same_step w (DeliverFromClient c) on h = refl
  same_step w (Start v) on h = refl
  same_step w (Finish v k) on h = ap (λ z. at_worker w v (Done k z)) (zeros k (ltb-true k _ ((h.workers v).running k (and_parts (w.alive v) _ on).1)))
  same_step w (SendGather a p) on h = refl
  same_step w (ServeGather p a n) on h = refl
  same_step w (ArriveGather a p n) on h = refl
  same_step w (FailGather a p) on h = refl
  same_step w Balance on h = refl
  same_step w Evict on h = refl
  same_step w (Replicate k v) on h = refl
  same_step w (Spill v k) on h = refl
  same_step w (LoseSpilled v k) on h = refl

  -- events from a world on: legal by both, to the same world and with the same messages
  record Same (w : World) (es : List Event) : Type 0 where
    legal : LegalFrom i w es
    reached : run_from j w es ≡ run_from i w es
    taken : taken j w es ≡ taken i w es

  same_from : (w : World) (es : List Event) → IsInsideWorld j.setting.shape w → LegalFrom j w es → Same w es
  same_from w [] h l = record { legal = tt; reached = refl; taken = refl }
  same_from w (e ∷ es) h l =
      let step : world_step j w e ≡ world_step i w e = same_step w e l.0 h in
      let s : Same (world_step j w e) es = same_from (world_step j w e) es (in_world_step j low w e l.0 h) l.1 in
      record {
        legal = (l.0, subst (λ v. LegalFrom i v es) step s.legal);
        reached = s.reached ∙ ap (λ v. run_from i v es) step;
        taken = ap (λ ts. (e, message w e) ∷ ts) (s.taken ∙ ap (λ v. taken i v es) step);
      }

  begins : opening j ≡ opening i
  begins = ap (λ s. opening (record { setting = s; zero = λ k. false })) (sym setting)

  same_opening : (es : List Event) → legal j es → Same (opening j) es
  same_opening es l = same_from (opening j) es (in_after j low [] tt) l

  pub same_legal : (es : List Event) → legal j es → legal i es
  same_legal es l = subst (λ w. LegalFrom i w es) begins (same_opening es l).legal

  pub same_reached : (es : List Event) → legal j es → reached j es ≡ reached i es
  same_reached es l = (same_opening es l).reached ∙ ap (λ w. run_from i w es) begins

  pub same_journal : (es : List Entry) → IsLegalJournal j es → IsLegalJournal i es
  same_journal es l = record {
    legal = same_legal (events_of es) l.legal;
    messages = l.messages ∙ (same_opening (events_of es) l.legal).taken ∙ ap (λ w. taken i w (events_of es)) begins;
  }

-- ## Where no key is at fault

module _ {B : Type 0} (s : Setting) (op : ℕ → List B → Option B) (low : IsShape s.shape) where
  -- each has a value
  each_has : HasNoFault s.shape op → (k : ℕ) → k < key_count s.shape → (o : Option B) → val (deps_of s.shape) op k ≡ o → is_none o ≡ false
  each_has none k lt (Some b) is = refl
  each_has none k lt None is =
      let f = bad-fault (deps_of s.shape) op (earlier s.shape low) k is in
      absurd (false≢true (sym (none f.0 (at_most f.0 (cone-below (deps_of s.shape) (earlier s.shape low) k f.0 f.1))) ∙ f.2))
    where
      at_most : (j : ℕ) → j ≤ k → j < key_count s.shape
      at_most j le = omega (arith, le, lt)

  pub valued : HasNoFault s.shape op → (k : ℕ) → k < key_count s.shape → (job_of s op).zero k ≡ false
  valued none k lt = each_has none k lt (val (deps_of s.shape) op k) refl

-- by the job of a graph alone none is
shape_sound : (s : Setting) → IsShape s.shape → HasNoFault {B = Unit {0}} s.shape (λ k inputs. Some tt)
shape_sound s low k lt = false_from_ne_true _ (λ t. let f = faulty-operation (deps_of s.shape) (λ k inputs. Some tt) (earlier s.shape low) k t in absurd (some_not_none tt f.2))

module _ {B : Type 0} (s : Setting) (op : ℕ → List B → Option B) (low : IsShape s.shape) (none : HasNoFault s.shape op) where
  zeros_are : (k : ℕ) → k < key_count s.shape → (job_of s op).zero k ≡ (shape_job s).zero k
  zeros_are k lt = valued s op low none k lt ∙ sym (valued s (λ k inputs. Some tt) low (shape_sound s low) k lt)

  pub lists_are : (es : List Event) → legal (job_of s op) es ↔ legal (shape_job s) es
  lists_are es = (same_legal (job_of s op) (shape_job s) refl low zeros_are es, same_legal (shape_job s) (job_of s op) refl low (λ k lt. sym (zeros_are k lt)) es)

  pub worlds_are : (es : List Event) → legal (job_of s op) es → reached (job_of s op) es ≡ reached (shape_job s) es
  worlds_are es l = same_reached (job_of s op) (shape_job s) refl low zeros_are es l

  pub journals_are : (es : List Entry) → IsLegalJournal (job_of s op) es ↔ IsLegalJournal (shape_job s) es
  journals_are es = (same_journal (job_of s op) (shape_job s) refl low zeros_are es, same_journal (shape_job s) (job_of s op) refl low (λ k lt. sym (zeros_are k lt)) es)
