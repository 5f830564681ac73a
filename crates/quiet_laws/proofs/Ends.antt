-- A list of events each of which lowers the measure ends.
use Rattle.std.proofs.Common.{◌≡◌, ℕ, ◌≤◌, ◌<◌, true, List, [], ◌∷◌, ◌++◌, length, sym, ap, ◌∙◌, subst, arith}
use Rattle.std.specs.List.{Contains}
use Rattle.std.proofs.lemmas.Bool.{false≢true}
use Rattle.cluster_msgs.specs.declared.events.Event.{Event}
use Rattle.cluster_rules.specs.World.{Job, IsJob, World, opening, is_connected, unfinished}
use Rattle.cluster_rules.specs.WorldStep.{world_step}
use Rattle.cluster_rules.specs.Enabled.{enabled, progress}
use Rattle.cluster_rules.specs.Worker.{has_any}
use Rattle.cluster_rules.specs.Runs.{LegalFrom, run_from, reached, legal}
use Rattle.cluster_rules.proofs.Members.{filter_from}
use Rattle.safety_laws.proofs.Attempts.{run-append}
use Rattle.safety_laws.proofs.Responsive.{lively_after}
use Rattle.quiet_measure.specs.Measure.{measure}
use Rattle.quiet_measure.specs.Bounded.{most_events}
use Rattle.quiet_laws.specs.Quiet.{IsQuiet, QuietlyEnds, ProgressFalls, IsWithin}

pub enabled_in : (w : World) (e : Event) → Contains (progress w) e → enabled w e ≡ true
unfolding progress
enabled_in w e m = (filter_from (enabled w) _ e m).1

legal_more : (j : Job) (w : World) (xs : List Event) (e : Event) → LegalFrom j w xs → enabled (run_from j w xs) e ≡ true → LegalFrom j w (xs ++ e ∷ [])
legal_more j w [] e l t = (t, tt)
legal_more j w (x ∷ xs) e l t = (l.0, legal_more j (world_step j w x) xs e l.1 t)

module _ (j : Job) (job : IsJob j) (falls : ProgressFalls j) where
  -- one event more
  more : (es : List Event) (e : Event) → legal j es → Contains (progress (reached j es)) e → legal j (es ++ e ∷ [])
  more es e l m = legal_more j (opening j) es e l (enabled_in (reached j es) e m)

  then : (es : List Event) (e : Event) → reached j (es ++ e ∷ []) ≡ world_step j (reached j es) e
  then es e = run-append j (opening j) es (e ∷ [])

  count : (es qs : List Event) → legal j es → IsQuiet j (reached j es) qs → length qs ≤ measure (reached j es)
  count es [] l q = omega arith
  count es (e ∷ qs) l q =
      let f : measure (world_step j (reached j es) e) < measure (reached j es) = (falls es l e q.0).measure in
      let r : length qs ≤ measure (reached j (es ++ e ∷ [])) = count (es ++ e ∷ []) qs (more es e l q.0) (subst (λ (w : World). IsQuiet j w qs) (sym (then es e)) q.1) in
      let s : measure (reached j (es ++ e ∷ [])) ≡ measure (world_step j (reached j es) e) = ap measure (then es e) in
      omega arith

  -- while a client waits some progress event is enabled
  lively_then : (es qs : List Event) → legal j es → IsQuiet j (reached j es) qs → (c k i : ℕ) → progress (run_from j (reached j es) qs) ≡ []
      → unfinished (run_from j (reached j es) qs) c k ≡ true → (run_from j (reached j es) qs).alive i ≡ true → is_connected (run_from j (reached j es) qs) i ≡ true → ⊥
  lively_then es [] l q c k i none u a n = false≢true (sym (ap has_any none) ∙ lively_after j job es l c k i u a n)
  lively_then es (e ∷ qs) l q c k i none u a n = again (λ w. (progress (run_from j w qs) ≡ []) × (unfinished (run_from j w qs) c k ≡ true) × ((run_from j w qs).alive i ≡ true) × (is_connected (run_from j w qs) i ≡ true)) (none, u, a, n)
      (λ h. lively_then (es ++ e ∷ []) qs (more es e l q.0) (subst (λ (w : World). IsQuiet j w qs) (sym (then es e)) q.1) c k i h.0 h.1 h.2 h.3)
    where
      again : (Q : World → Type 0) → Q (world_step j (reached j es) e) → (Q (reached j (es ++ e ∷ [])) → ⊥) → ⊥
      again Q h f = f (subst Q (sym (then es e)) h)

  pub quietly_ends : IsWithin j → (es : List Event) → legal j es → QuietlyEnds j (reached j es)
  quietly_ends within es l qs q = record {
    count = let a : length qs ≤ measure (reached j es) = count es qs l q in let b : measure (reached j es) ≤ most_events (reached j es) = within es l in omega arith;
    finished = λ none c k i u a n. lively_then es qs l q c k i none u a n;
  }
