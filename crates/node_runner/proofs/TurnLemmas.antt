-- Turns of nodes that were changed beside their history.
use Rattle.std.proofs.Common.{◌≡◌, ◌∙◌, List, [], ◌∷◌, ◌++◌, Bool, sym, ap, subst, inl, inr, ⊎_elim}
use Rattle.cluster_msgs.specs.declared.events.Entry.{Entry}
use Rattle.turn_cell.specs.Turns.{Went}

-- a turn from a state with the same history and the same core
pub went_from : {S C : Type 0} (entries : S → List Entry) (core : S → C) (cut : S → Bool) (steps : C → Entry → C → Type 0) (x w y : S)
    → entries w ≡ entries x → core w ≡ core x → cut w ≡ cut x → Went entries core cut steps w y → Went entries core cut steps x y
went_from entries core cut steps x w y e c k went = ⊎_elim
    (λ n. inl (record { entries_are = n.entries_are ∙ e; cut_is = n.cut_is ∙ k; core_is = n.core_is ∙ c }))
    (λ m. inr (⊎_elim
    (λ b. inl (
      b.0,
      record {
        entry = b.1.entry ∙ ap (λ es. es ++ b.0 ∷ []) e;
        was_open = sym k ∙ b.1.was_open;
        is_open = b.1.is_open;
        step = subst (λ d. steps d b.0 (core y)) c b.1.step;
        ascending = b.1.ascending;
      },
    ))
    (λ p. inr (record {
      entries_are = p.entries_are ∙ e;
      is_cut = p.is_cut;
      step = ⊎_elim (λ q. inl (q ∙ c)) (λ q. inr (q.0, subst (λ d. steps d q.0 (core y)) c q.1)) p.step;
    })) m))
    went
