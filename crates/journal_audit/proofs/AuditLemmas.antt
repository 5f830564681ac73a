-- Journals, entry by entry: what a legal one is with one entry more, and where one isn't legal.
use Rattle.std.proofs.Common.{◌≡◌, ℕ, ◌+◌, suc, ◌<◌, true, List, [], ◌∷◌, ◌++◌, length, map, take, drop, get_or, Option, Result, Ok, Err, IfErr, refl, sym, ap, ap₂, subst, ◌∙◌, append-nil, append_assoc, inl, inr, ◌⊎◌, ⊎_elim}
use Rattle.std.proofs.lemmas.List.{map-append, same_from_push, take_more, take-append-drop}
use Rattle.std.proofs.Math.Seq.{drop-cons}
use Rattle.cluster_msgs.specs.declared.events.Entry.{Entry}
use Rattle.cluster_msgs.specs.declared.events.Event.{Event}
use Rattle.cluster_rules.specs.World.{Job, World, opening}
use Rattle.cluster_rules.specs.WorldStep.{world_step}
use Rattle.cluster_rules.specs.Enabled.{enabled, message}
use Rattle.cluster_rules.specs.Runs.{LegalFrom, run_from, reached}
use Rattle.cluster_msgs.specs.Shape.{Shape}
use Rattle.cluster_msgs.specs.declared.events.Report.{Report}
use Rattle.cluster_rules.specs.Report.{report, taken}
use Rattle.cluster_laws.specs.Blocks.{job_of}
use Rattle.safety_laws.proofs.Attempts.{legal_first}
use Rattle.cluster_world.specs.declared.errors.StepError.{StepError}
use Rattle.cluster_world.specs.declared.errors.StepError.TheVariants.{NotEnabled, Stopped, Feed, Spent, OutOfMemory}
use Rattle.cluster_world.specs.declared.state.State.{State}
use Rattle.cluster_world.specs.Worlds.{world, running, setting, IsMadeBy}
use Rattle.journal_audit.specs.Audits.{events_of, IsLegalJournal, DiffersAt, IsAuditOf}
use Rattle.journal_audit.specs.declared.verdict.Audit.{Audit}
use Rattle.journal_audit.specs.declared.verdict.Audit.TheVariants.{Agrees}
use Rattle.journal_audit.specs.Reports.{taken_of}
use Rattle.journal_audit.specs.Replays.{FailsBy, GoesOn, HasReplayed}

-- ## Lists of events in parts

legal_last : (j : Job) (w : World) (xs : List Event) (e : Event) → LegalFrom j w (xs ++ e ∷ []) → enabled (run_from j w xs) e ≡ true
legal_last j w [] e l = l.0
legal_last j w (x ∷ xs) e l = legal_last j (world_step j w x) xs e l.1

taken_more : (j : Job) (w : World) (es : List Event) (e : Event) → taken j w (es ++ e ∷ []) ≡ taken j w es ++ (e, message (run_from j w es) e) ∷ []
taken_more j w [] e = refl
taken_more j w (x ∷ xs) e = ap (λ ts. (x, message w x) ∷ ts) (taken_more j (world_step j w x) xs e)

events_more : (es : List Entry) (e : Entry) → events_of (es ++ e ∷ []) ≡ events_of es ++ e.event ∷ []
events_more es e = map-append (λ (x : Entry). x.event) es (e ∷ [])

taken_of_more : (es : List Entry) (e : Entry) → map taken_of (es ++ e ∷ []) ≡ map taken_of es ++ taken_of e ∷ []
taken_of_more es e = map-append taken_of es (e ∷ [])

-- the messages of a journal with one entry more
messages_more : (j : Job) (es : List Entry) (e : Entry) → taken j (opening j) (events_of (es ++ e ∷ [])) ≡ taken j (opening j) (events_of es) ++ (e.event, message (reached j (events_of es)) e.event) ∷ []
messages_more j es e = ap (taken j (opening j)) (events_more es e) ∙ taken_more j (opening j) (events_of es) e.event

-- ## A legal journal

pub legal_start : (j : Job) → IsLegalJournal j []
legal_start j = record { legal = tt; messages = refl }

-- without its last entry it is legal still, and that one is enabled and has the message that it takes
module _ (j : Job) (es : List Entry) (e : Entry) (l : IsLegalJournal j (es ++ e ∷ [])) where
  both : (map taken_of es ≡ taken j (opening j) (events_of es)) × (taken_of e ≡ (e.event, message (reached j (events_of es)) e.event))
  both = same_from_push (map taken_of es) (taken j (opening j) (events_of es)) (taken_of e) (e.event, message (reached j (events_of es)) e.event) (sym (taken_of_more es e) ∙ l.messages ∙ messages_more j es e)

  pub legal_before : IsLegalJournal j es
  legal_before = record { legal = legal_first j (opening j) (events_of es) (e.event ∷ []) (subst (LegalFrom j (opening j)) (events_more es e) l.legal); messages = both.0 }

  pub last_enabled : enabled (reached j (events_of es)) e.event ≡ true
  last_enabled = legal_last j (opening j) (events_of es) e.event (subst (LegalFrom j (opening j)) (events_more es e) l.legal)

  pub last_message : e.message ≡ message (reached j (events_of es)) e.event
  last_message = ap (λ t. t.1) both.1

-- each front of a legal journal is legal
pub legal_front : (j : Job) (es fs : List Entry) → IsLegalJournal j (es ++ fs) → IsLegalJournal j es
legal_front j es [] l = subst (IsLegalJournal j) (append-nil es) l
legal_front j es (f ∷ fs) l = legal_before j es f (legal_front j (es ++ f ∷ []) fs (subst (IsLegalJournal j) (sym (append_assoc es (f ∷ []) fs)) l))

-- no legal journal differs
pub legal_or_differs : (j : Job) (es : List Entry) (stamp : ℕ) → IsLegalJournal j es → DiffersAt j es stamp → ⊥
legal_or_differs j es stamp l d =
    d.illegal (legal_front j (d.before ++ d.entry ∷ []) d.after (subst (IsLegalJournal j) (d.whole ∙ sym (append_assoc d.before (d.entry ∷ []) d.after)) l))

-- of two places in one list, the members are the same, or one is before the other
record IsFront {X : Type 0} (xs : List X) (x : X) (ys : List X) : Type 0 where
  later : List X
  whole : ys ≡ xs ++ x ∷ later

module _ {X : Type 0} where
  abbrev head_or : X → List X → X
  head_or d [] = d
  head_or d (x ∷ xs) = x

  abbrev rest : List X → List X
  rest [] = []
  rest (x ∷ xs) = xs

  in_front : (v : X) (xs ys : List X) (x : X) → IsFront xs x ys → (w : X) → v ≡ w → IsFront (v ∷ xs) x (w ∷ ys)
  in_front v xs ys x f w e = record { later = f.later; whole = ap₂ ◌∷◌ (sym e) f.whole }

  places : (xs ys : List X) (x y : X) (us bs : List X) → xs ++ x ∷ us ≡ ys ++ y ∷ bs → (x ≡ y) ⊎ (IsFront xs x ys ⊎ IsFront ys y xs)
  places [] [] x y us bs e = inl (ap (head_or x) e)
  places [] (w ∷ ys) x y us bs e = inr (inl (record { later = ys; whole = ap (λ h. h ∷ ys) (sym (ap (head_or x) e)) }))
  places (v ∷ xs) [] x y us bs e = inr (inr (record { later = xs; whole = ap (λ h. h ∷ xs) (ap (head_or v) e) }))
  places (v ∷ xs) (w ∷ ys) x y us bs e =
      let h : v ≡ w = ap (head_or v) e in
      ⊎_elim (λ s. inl s) (λ o. inr (⊎_elim (λ f. inl (in_front v xs ys x f w h)) (λ f. inr (in_front w ys xs y f v (sym h))) o)) (places xs ys x y us bs (ap rest e))

-- what differs at one stamp differs at no other
pub first_alone : (j : Job) (es : List Entry) (s t : ℕ) → DiffersAt j es s → DiffersAt j es t → s ≡ t
first_alone j es s t c d =
    ⊎_elim (λ e. sym c.stamp_is ∙ ap (λ (x : Entry). x.stamp) e ∙ d.stamp_is)
    (λ o. absurd (⊎_elim (λ f. c.illegal (shorter c.before c.entry d.before d.legal f)) (λ f. d.illegal (shorter d.before d.entry c.before c.legal f)) o))
    (places c.before d.before c.entry d.entry c.after d.after (sym c.whole ∙ d.whole))
  where
    shorter : (bs : List Entry) (e : Entry) (xs : List Entry) → IsLegalJournal j xs → IsFront bs e xs → IsLegalJournal j (bs ++ e ∷ [])
    shorter bs e xs l f = legal_front j (bs ++ e ∷ []) f.later (subst (IsLegalJournal j) (f.whole ∙ sym (append_assoc bs (e ∷ []) f.later)) l)

-- ## A world that entries made

module _ {J B F : Type 0} (op : J → ℕ → List B → Option B) where
  pub replayed_legal : (es : List Entry) (s : State J B F) → HasReplayed op es s → IsLegalJournal (running op s) es
  replayed_legal es s h = record { legal = h.made.run.legal; messages = h.messages }

  pub replayed_start : (s : State J B F) → IsMadeBy op [] s → HasReplayed op [] s
  replayed_start s m = record { made = m; messages = refl }

  -- the next entry's message is the one that the world takes
  pub refused_message : (es : List Entry) (e : Entry) (s : State J B F) → HasReplayed op es s → IsLegalJournal (running op s) (es ++ e ∷ []) → e.message ≡ message (world s) e.event
  refused_message es e s h l = last_message (running op s) es e l ∙ ap (λ w. message w e.event) h.made.run.reached

  pub refused_event : (es : List Entry) (e : Entry) (s : State J B F) → HasReplayed op es s → IsLegalJournal (running op s) (es ++ e ∷ []) → enabled (world s) e.event ≡ true
  refused_event es e s h l = ap (λ w. enabled w e.event) (sym h.made.run.reached) ∙ last_enabled (running op s) es e l

  -- one entry more
  pub replayed_more : (es : List Entry) (e : Entry) (old new : State J B F) → new.job ≡ old.job → setting new ≡ setting old → e.message ≡ message (world old) e.event
      → IsMadeBy op (events_of es ++ e.event ∷ []) new → HasReplayed op es old → HasReplayed op (es ++ e ∷ []) new
  replayed_more es e old new job set kept made h =
      let same : running op old ≡ running op new = sym (ap₂ (λ t i. job_of t (op i)) set job) in
      let last : taken_of e ≡ (e.event, message (reached (running op old) (events_of es)) e.event) = ap (λ m. (e.event, m)) (kept ∙ ap (λ w. message w e.event) (sym h.made.run.reached)) in
      record {
        made = subst (λ xs. IsMadeBy op xs new) (sym (events_more es e)) made;
        messages = subst (λ (j : Job). map taken_of (es ++ e ∷ []) ≡ taken j (opening j) (events_of (es ++ e ∷ []))) same
            (taken_of_more es e ∙ ap₂ (λ ts t. ts ++ t ∷ []) h.messages last ∙ sym (messages_more (running op old) es e));
      }

-- ## A replay

module _ {J B F : Type 0} (tells : J → F → Type 0) where
  pub goes_both : (old mid new : State J B F) → GoesOn tells old mid → GoesOn tells mid new → GoesOn tells old new
  goes_both old mid new a b = record {
    job = b.job ∙ a.job;
    setting_is = b.setting_is ∙ a.setting_is;
    tells_is = (λ t. a.tells_is.0 (b.tells_is.0 t), λ t. b.tells_is.1 (a.tells_is.1 t));
    going = b.going;
  }

  module _ (op : J → ℕ → List B → Option B) (es : List Entry) (i : ℕ) (e : Entry) (old mid : State J B F) (on : GoesOn tells old mid) (there : i < length es) (is : e ≡ get_or es i e) (h : HasReplayed op (take i es) mid) where
    -- the entry at this place is the first that isn't taken
    pub differs_here : (IsLegalJournal (running op mid) (take i es ++ e ∷ []) → ⊥) → DiffersAt (running op old) es e.stamp
    differs_here refused =
        let same : running op mid ≡ running op old = ap₂ (λ t j. job_of t (op j)) on.setting_is on.job in
        record {
          before = take i es;
          entry = e;
          after = drop (suc i) es;
          whole = sym (take-append-drop i es) ∙ ap (λ ys. take i es ++ ys) (drop-cons es i e there ∙ ap (λ x. x ∷ drop (suc i) es) (sym is));
          legal = subst (λ j. IsLegalJournal j (take i es)) same (replayed_legal op (take i es) mid h);
          illegal = λ l. refused (subst (λ j. IsLegalJournal j (take i es ++ e ∷ [])) (sym same) l);
          stamp_is = refl;
        }

    -- or it is taken
    pub replayed_next : (new : State J B F) → HasReplayed op (take i es ++ e ∷ []) new → HasReplayed op (take (i + 1) es) new
    replayed_next new r = subst (λ xs. HasReplayed op xs new) (sym (take_more es i e there ∙ ap (λ x. take i es ++ x ∷ []) (sym is))) r

-- a legal journal agrees, with this report
pub agrees_here : (j : Job) (es : List Entry) (g : Shape) (r : Report) → j.setting.shape ≡ g → IsLegalJournal j es → r ≡ report g (map taken_of es) → IsAuditOf j es (Agrees r)
agrees_here j es g r shape l e = (l, e ∙ ap₂ (λ h ts. report h ts) (sym shape) l.messages)

-- ## How it fails

module _ {F : Type 0} (count : F → ℕ) (before : F) where
  moved : (e : StepError) → FailsBy {A = Option ℕ} count before (Err e) → FailsBy {A = Audit} count before (Err e)
  moved NotEnabled f = f
  moved Stopped f = f
  moved Feed f = f
  moved Spent f = f
  moved OutOfMemory f = tt

  -- as the replay does, or for want of memory
  pub fails_here : (wrong : Result (Option ℕ) StepError) (r : Result Audit StepError) → FailsBy count before wrong → IfErr r (λ e. (wrong ≡ Err e) ⊎ (e ≡ OutOfMemory)) → FailsBy count before r
  fails_here wrong (Ok a) f o = tt
  fails_here wrong (Err e) f o = ⊎_elim (λ w. moved e (subst (FailsBy count before) w f)) (λ m. subst (λ x. FailsBy {A = Audit} count before (Err x)) (sym m) tt) o
