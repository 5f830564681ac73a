-- The scheduler's bad keys stay faulty, and give only blames that are faulty and in the cone of the key that failed.
use Rattle.std.proofs.Common.{◌≡◌, ◌⊎◌, inl, inr, ℕ, ◌+◌, ◌≤◌, Bool, true, false, not, ◌&&◌, cond, List, [], ◌∷◌, ◌++◌, Option, Some, None, is_some, is_none, refl, sym, ap, ◌∙◌, subst, arith, ⊎_elim}
use Rattle.std.specs.List.{list_all, AllByRecursion}
use Rattle.std.specs.Prelude.{IsTrue}
use Rattle.std.proofs.lemmas.List.Elements.{All-from_recursion}
use Rattle.std.proofs.lemmas.Bool.{false≢true, ltb-true, lt-ltb, and_parts, not-true}
use Rattle.cluster_msgs.specs.Shape.{IsShape, deps_of}
use Rattle.cluster_msgs.specs.Values.{cone, faulty}
use Rattle.cluster_msgs.specs.Labels.{LabelFacts, ErrorFits, BlameFits, ToClientFits}
use Rattle.cluster_msgs.specs.declared.messages.Up.TheVariants.{TaskFinished, TaskErred, AddKeys, ReleaseWorkerData, MissingData, RequestRefreshWhoHas, StealResponse}
use Rattle.cluster_msgs.specs.declared.messages.ToClient.{ToClient}
use Rattle.cluster_msgs.specs.declared.messages.ToClient.TheVariants.{KeyInMemory, LostData, ClientTaskErred}
use Rattle.cluster_msgs.specs.declared.cores.Outbox.{Outbox}
use Rattle.cluster_msgs.specs.declared.cores.SchedEvent.{SchedEvent}
use Rattle.cluster_msgs.specs.declared.cores.SchedEvent.TheVariants.{Join, Leave, FromWorker, FromClient, Balance, Evict, Replicate}
use Rattle.cluster_rules.specs.Sched.{Facts, is_above, known}
use Rattle.cluster_rules.specs.SchedStep.{sched_step}
use Rattle.cluster_rules.specs.Runs.{loses}
use Rattle.cluster_rules.proofs.SchedFrame.{step_settles}
use Rattle.cluster_rules.specs.World.{Job}
use Rattle.cluster_laws.specs.Truth.{faulty_key, MayErr, IsBlame, IsTrueNews, IsTrueSched, IsTrueSchedEvent}
use Rattle.cluster_laws.proofs.Losses.{step_known, step_losses}
use Rattle.cluster_laws.proofs.TruthSched.{IsExcusing, true_sched_step, true_news}
use Rattle.scheduler_core.specs.Sent.{appended, sent_by}
use Rattle.node_states.specs.Opening.{IsOpening}
use Rattle.node_states.specs.Fitting.{SchedFits, SchedEventFits, LettersFit}

-- more losses are above what is allowed where fewer are
above_more : (o : Option ℕ) (m n : ℕ) → m ≤ n → is_above o m ≡ true → is_above o n ≡ true
above_more None m n l e = e
above_more (Some a) m n l e = lt-ltb a n (let p = ltb-true a m e in omega (arith, l, p))

module _ {B : Type 0} (facts : LabelFacts B) (f : Facts) (e : SchedEvent) where
  -- the job whose faulty keys are those of the label
  abbrev job : Job
  job = record { setting = f.setting; zero = λ k. is_none (facts.value k) }

  -- what excuses an error beside: more losses than are allowed, before the event or after it
  abbrev excused : ℕ → Type 0
  excused k = (is_above f.setting.allowed (f.losses k) ≡ true) ⊎ (is_above f.setting.allowed ((sched_step f e).facts.losses k) ≡ true)

  some_is_not_none : (o : Option B) → not (is_none o) ≡ is_some o
  some_is_not_none None = refl
  some_is_not_none (Some b) = refl

  same_faults : SchedFits facts f → (k : ℕ) → faulty_key job k ≡ faulty facts.deps facts.value k
  same_faults h k = ap (λ (t : (ℕ → Bool) × (ℕ → List ℕ)). list_all t.0 (t.1 k) && is_none (facts.value k)) (λ i. ((λ d. some_is_not_none (facts.value d) i), sym h.graph i))

  true_event : IsTrue facts.told → SchedFits facts f → (s : SchedEvent) → SchedEventFits facts s → IsTrueSchedEvent job s
  true_event t h (FromWorker w (TaskErred seen k a)) fit = same_faults h k ∙ fit t
  true_event t h (FromWorker w (TaskFinished seen k a)) fit = tt
  true_event t h (FromWorker w (AddKeys seen ks)) fit = tt
  true_event t h (FromWorker w (ReleaseWorkerData seen k)) fit = tt
  true_event t h (FromWorker w (MissingData seen k x c)) fit = tt
  true_event t h (FromWorker w (RequestRefreshWhoHas seen k)) fit = tt
  true_event t h (FromWorker w (StealResponse seen k a agreed)) fit = tt
  true_event t h (Join threads) fit = tt
  true_event t h (Leave w) fit = tt
  true_event t h (FromClient c msg) fit = tt
  true_event t h Balance fit = tt
  true_event t h Evict fit = tt
  true_event t h (Replicate k w) fit = tt

  true_sched : IsTrue facts.told → SchedFits facts f → IsTrueSched excused job f
  true_sched t h = record { setting = refl; bad = λ k b. pick k b (is_above f.setting.allowed (f.losses k)) refl }
    where
      pick : (k : ℕ) → f.bad k ≡ true → (a : Bool) → is_above f.setting.allowed (f.losses k) ≡ a → MayErr excused job k
      pick k b true q = inr (inl q)
      pick k b false q = inl (same_faults h k ∙ h.bad k b q t)

  -- a key that a worker's leaving kills has more losses than are allowed afterwards
  excusing : IsExcusing excused job f e
  excusing i k is h = inr (subst (λ (s : SchedEvent). is_above f.setting.allowed ((sched_step f s).facts.losses k) ≡ true) (sym is) after)
    where
      after : is_above f.setting.allowed ((sched_step f (Leave i)).facts.losses k) ≡ true
      after = ap (is_above f.setting.allowed) (step_losses f (Leave i) k
          ∙ ap (λ b. cond b (cond (loses f k (Some (Leave i))) (f.losses k + 1) (f.losses k)) 0) (ap (λ (x : ℕ → Bool). x k) (step_known f (Leave i)) ∙ h.known)
          ∙ ap (λ b. cond b (f.losses k + 1) (f.losses k)) h.on) ∙ h.above

  -- a key that stays bad has lost no loss
  still_above : (k : ℕ) → (sched_step f e).facts.bad k ≡ true → is_above f.setting.allowed (f.losses k) ≡ true → is_above f.setting.allowed ((sched_step f e).facts.losses k) ≡ true
  still_above k b q = above_more f.setting.allowed (f.losses k) _ more q
    where
      pick : (x : Bool) → f.losses k ≤ cond x (f.losses k + 1) (f.losses k)
      pick true = omega arith
      pick false = omega arith

      here : known (sched_step f e).facts k ≡ true
      here = ap (λ (x : ℕ → Bool). x k) (step_known f e) ∙ ((step_settles f e).bad k b).0

      more : f.losses k ≤ (sched_step f e).facts.losses k
      more = subst (λ n. f.losses k ≤ n) (sym (step_losses f e k)) (subst (λ x. f.losses k ≤ cond x (cond (loses f k (Some e)) (f.losses k + 1) (f.losses k)) 0) (sym here) (pick (loses f k (Some e))))

  bad_fits : SchedFits facts f → SchedEventFits facts e → (k : ℕ) → (sched_step f e).facts.bad k ≡ true → is_above f.setting.allowed ((sched_step f e).facts.losses k) ≡ false → ErrorFits facts k
  bad_fits h fit k b q t =
      ⊎_elim (λ z. sym (same_faults h k) ∙ z)
      (λ x. absurd (false≢true (sym q ∙ ⊎_elim (λ u. still_above k b u) (λ u. u) x)))
      ((true_sched_step excused job f e excusing (true_event t h e fit) (true_sched t h)).bad k b)

  none_above : is_none f.setting.allowed ≡ true → (n : ℕ) → is_above f.setting.allowed n ≡ true → ⊥
  none_above e n q = by f.setting.allowed e q
    where
      by : (o : Option ℕ) → is_none o ≡ true → is_above o n ≡ true → ⊥
      by None e q = false≢true q
      by (Some a) e q = false≢true e

  blame_fits : SchedFits facts f → (k b : ℕ) → (IsTrue facts.told → IsBlame excused job k b) → BlameFits facts k b
  blame_fits h k b is = record {
    fault = λ u t. let n : is_none f.setting.allowed ≡ true = ap is_none (sym h.allowed ∙ u) in ⊎_elim (λ z. sym (same_faults h b) ∙ z) (λ x. absurd (⊎_elim (λ q. none_above n (f.losses b) q) (λ q. none_above n ((sched_step f e).facts.losses b) q) x)) (is t).fault;
    below = λ t. ap (λ (d : ℕ → List ℕ). cone d k b) h.graph ∙ (is t).within;
  }

  letter_fits : SchedFits facts f → (m : ToClient) → (IsTrue facts.told → IsTrueNews excused job m) → ToClientFits facts m
  letter_fits h (ClientTaskErred k b) is = blame_fits h k b is
  letter_fits h (KeyInMemory k hs) is = tt
  letter_fits h (LostData k) is = tt

  letters : SchedFits facts f → (ms : List (ℕ × ToClient)) → (IsTrue facts.told → AllByRecursion (λ (m : ℕ × ToClient). IsTrueNews excused job m.1) ms) → AllByRecursion (λ (m : ℕ × ToClient). ToClientFits facts m.1) ms
  letters h [] is = tt
  letters h (m ∷ ms) is = (letter_fits h m.1 (λ t. (is t).0), letters h ms (λ t. (is t).1))

-- the laws: an event that fits keeps the bad keys faulty or killed, and what clients are told fits
pub sched_fits : {B : Type 0} (facts : LabelFacts B) (f g : Facts) (e : SchedEvent) → SchedEventFits facts e → SchedFits facts f → g ≡ (sched_step f e).facts → g.setting ≡ f.setting → SchedFits facts g
sched_fits facts f g e fit h is same = record {
  graph = h.graph ∙ ap (λ s. deps_of s.shape) (sym same);
  allowed = h.allowed ∙ ap (λ s. s.allowed) (sym same);
  bad = λ k b q. bad_fits facts f e h fit k (subst (λ (x : Facts). x.bad k ≡ true) is b)
      (subst (λ (x : Facts). is_above f.setting.allowed (x.losses k) ≡ false) is (ap (λ s. is_above s.allowed (g.losses k)) (sym same) ∙ q));
}

pub letters_fit : {B : Type 0} (facts : LabelFacts B) (f : Facts) (e : SchedEvent) (out : List (ℕ × ToClient)) → IsShape f.setting.shape → SchedEventFits facts e → SchedFits facts f → out ≡ (sched_step f e).clients → LettersFit facts out
letters_fit facts f e out shape fit h is = record {
  each = All-from_recursion (λ (m : ℕ × ToClient). ToClientFits facts m.1) out (subst (AllByRecursion (λ (m : ℕ × ToClient). ToClientFits facts m.1)) (sym is)
      (letters facts f e h (sched_step f e).clients (λ t. true_news (excused facts f e) (job facts f e) f e shape (excusing facts f e) (true_event facts f e t h e fit) (true_sched facts f e t h))));
}

pub no_letters : {B : Type 0} (facts : LabelFacts B) (out : List (ℕ × ToClient)) → out ≡ [] → LettersFit facts out
no_letters facts out is = record { each = All-from_recursion (λ (m : ℕ × ToClient). ToClientFits facts m.1) out (subst (AllByRecursion (λ (m : ℕ × ToClient). ToClientFits facts m.1)) (sym is) tt) }

-- a scheduler that starts counts no key as bad
pub opening_fits : {B : Type 0} (facts : LabelFacts B) (f : Facts) → IsOpening f → facts.deps ≡ deps_of f.setting.shape → facts.allowed ≡ f.setting.allowed → SchedFits facts f
opening_fits facts f h graph allowed = record { graph = graph; allowed = allowed; bad = λ k b q. absurd (false≢true (ap (λ (x : Facts). x.bad k) (sym h.is) ∙ b)) }

-- a key with an error of its own that isn't of its losses is faulty
pub at_fault : {B : Type 0} (facts : LabelFacts B) (f : Facts) (k : ℕ) (torn bad above : Bool) → (torn ≡ false → SchedFits facts f) → bad ≡ f.bad k → above ≡ is_above f.setting.allowed (f.losses k)
    → ((not torn && bad) && not above) ≡ true → ErrorFits facts k
at_fault facts f k torn bad above fits b a h =
    let p = and_parts (not torn && bad) (not above) h in
    let q = and_parts (not torn) bad p.0 in
    (fits (not-true torn q.0)).bad k (sym b ∙ q.1) (sym a ∙ not-true above p.1)

-- what one step left in an empty outbox
pub made_fits : {B : Type 0} (facts : LabelFacts B) (f : Facts) (e : SchedEvent) (o made : Outbox) → IsShape f.setting.shape → SchedEventFits facts e → SchedFits facts f → o.clients ≡ [] → made ≡ appended o (sent_by (sched_step f e)) → LettersFit facts made.clients
made_fits facts f e o made shape fit h none is =
    letters_fit facts f e made.clients shape fit h (ap (λ (x : Outbox). x.clients) is ∙ ap (λ (xs : List (ℕ × ToClient)). xs ++ (sched_step f e).clients) none)
