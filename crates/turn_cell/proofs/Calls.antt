-- What the calls of a cell put together.
use Rattle.std.proofs.Common.{◌≡◌, ℕ, List, [], ◌∷◌, ◌++◌, length, drop, sym, ap, ◌∙◌, ⊎_elim, arith, length-append, Option, Some, None, Bool, true≢false}
use Rattle.std.proofs.Math.Seq.{drop-length}
use Rattle.std.proofs.lemmas.List.{append-nil}
use Rattle.atomic_table.specs.Table.{rest}
use Rattle.cluster_msgs.specs.declared.events.Entry.{Entry}
use Rattle.turn_cell.specs.declared.rule.View.{View}
use Rattle.turn_cell.specs.Turns.{with_turn, grown, held, left_with, Stayed, Went, WentBy, WentNowhere, WentPast}

module _ {S C : Type 0} (entries : S → List Entry) (core : S → C) (cut : S → Bool) (steps : C → Entry → C → Type 0) where
  pub stays_as : (v : View S) (x y : S) → v.seen ≡ entries x → Stayed entries core cut steps x y → with_turn v None ≡ left_with entries core cut steps v x y
  stays_as v x y seen same =
      let none_new : drop (length (entries x)) (entries y) ≡ [] = ap (drop (length (entries x))) same.0 ∙ drop-length (entries x) in
      λ i. record { start = v.start; total = v.total; seen = (seen ∙ sym same.0) i; mine = (sym (append-nil v.mine) ∙ ap (λ es. v.mine ++ es) (sym none_new)) i; parts = v.parts; out = None }

  no_entry : (x y : S) (e : Entry) → WentBy entries core cut steps x y e → ¬ (length (entries y) ≡ length (entries x))
  no_entry x y e t same = let a = ap length t.entry in let b = length-append (entries x) (e ∷ []) in omega arith

  -- by the count of the entries it is known which form it was
  pub went_on : (x y : S) → Went entries core cut steps x y → ¬ (length (entries y) ≡ length (entries x)) → (e : Entry) × WentBy entries core cut steps x y e
  went_on x y w n = ⊎_elim
      (λ (t : WentNowhere entries core cut steps x y). absurd (n (ap length t.entries_are)))
      (λ u. ⊎_elim (λ t. t) (λ (t : WentPast entries core cut steps x y). absurd (n (ap length t.entries_are))) u)
      w

  pub stayed : (x y : S) → Went entries core cut steps x y → length (entries y) ≡ length (entries x) → Stayed entries core cut steps x y
  stayed x y w same = ⊎_elim
      (λ (t : WentNowhere entries core cut steps x y). (t.entries_are, λ c. (sym t.cut_is ∙ c, t.core_is)))
      (λ u. ⊎_elim
      (λ (t : (e : Entry) × WentBy entries core cut steps x y e). absurd (no_entry x y t.0 t.1 same))
      (λ (t : WentPast entries core cut steps x y). (t.entries_are, λ c. absurd (true≢false (sym t.is_cut ∙ c)))) u)
      w

  -- what an exchange leaves the seat that holds the turn
  pub after_exchange : (v : View S) (y z : S) (me : View S × List (ℕ × Option S)) (old : List (ℕ × Option S)) → me ≡ (v, (0, Some z) ∷ rest old) → old ≡ (0, None) ∷ [] → z ≡ y → me ≡ (v, (0, Some y) ∷ [])
  after_exchange v y z me old e o is = e ∙ ap (λ (r : List (ℕ × Option S)). (v, (0, Some z) ∷ rest r)) o ∙ ap (λ (u : S). (v, (0, Some u) ∷ [])) is

  -- what a count leaves it
  pub after_count : (v : View S) (x y : S) (me next : View S × List (ℕ × Option S)) → me ≡ (v, (0, Some y) ∷ []) → v.out ≡ Some x → next ≡ (grown entries core cut steps me.0 me.0.out (held me.1), me.1)
      → next ≡ (grown entries core cut steps v (Some x) (Some y), (0, Some y) ∷ [])
  after_count v x y me next e o n = n ∙ (λ i. (grown entries core cut steps (e i).0 (e i).0.out (held (e i).1), (e i).1)) ∙ (λ i. (grown entries core cut steps v (o i) (Some y), (0, Some y) ∷ []))
