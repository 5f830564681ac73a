-- The last uses among one key more.
use Rattle.std.proofs.Common.{◌≡◌, ℕ, ◌+◌, ◌<◌, ◌≤◌, List, [], ◌∷◌, ◌++◌, length, get_or, refl, sym, ap, subst, ◌∙◌, inl, inr, ◌⊎◌, arith}
use Rattle.std.specs.Prelude.{Contains}
use Rattle.std.proofs.lemmas.Bool.{cases_eq}
use Rattle.std.proofs.lemmas.List.{length_push, get_or_append_left, get_or_push}
use Rattle.graph_run.specs.Uses.{IsLastUse, AreLastUses}
use Rattle.graph_run.specs.Writes.{IsWritten}

module _ (deps : ℕ → List ℕ) where
  pub uses-none : AreLastUses deps 0 []
  uses-none = record { counted = refl; each = λ d lt. absurd (omega arith) }

  -- a key below the new one
  use-below : (count d last now : ℕ) → IsLastUse deps count d last → (Contains (deps count) d → now ≡ count) → (now ≡ last) ⊎ (Contains (deps count) d × (now ≡ count)) → IsLastUse deps (count + 1) d now
  use-below count d last now u marked either = record {
    after_all = λ k lt m. elim (cases_eq k count) [
      | inl e ↦ let n : now ≡ count = marked (subst (λ i. Contains (deps i) d) e m) in omega arith
      | inr ne ↦ elim either [
        | inl same ↦ let h : k ≤ last = u.after_all k (omega arith) m in omega arith
        | inr h ↦ let n : now ≡ count = h.1 in omega arith
      ]
    ];
    is_one = elim either [
      | inl same ↦ elim u.is_one [
        | inl e ↦ inl (same ∙ e)
        | inr h ↦ inr (let lt : last < count = h.0 in omega arith, subst (λ i. Contains (deps i) d) (sym same) h.1)
      ]
      | inr h ↦ inr (let n : now ≡ count = h.1 in omega arith, subst (λ i. Contains (deps i) d) (sym h.1) h.0)
    ];
  }

  -- the new key itself
  use-new : (count : ℕ) → IsLastUse deps (count + 1) count count
  use-new count = record { after_all = λ k lt m. omega arith; is_one = inl refl }

  pub uses-more : (count : ℕ) (old new : List ℕ) → AreLastUses deps count old → IsWritten (λ d. Unit {0}) 0 count (deps count) old new → AreLastUses deps (count + 1) (new ++ count ∷ [])
  uses-more count old new u w =
      let many : length new ≡ count = w.same_length ∙ u.counted in
      record {
        counted = length_push new count ∙ ap (λ n. n + 1) many;
        each = λ d lt. elim (cases_eq d count) [
          | inl e ↦ subst (λ i. IsLastUse deps (count + 1) i (get_or (new ++ count ∷ []) i 0)) (sym e) (rw (get_or_push new count 0 count many) (use-new count))
          | inr ne ↦
              let room : d < length new = omega arith in
              rw (get_or_append_left new (count ∷ []) 0 d room) (use-below count d (get_or old d 0) (get_or new d 0) (u.each d (omega arith)) (λ m. w.written d m tt) (elim (w.others d) [ inl same ↦ inl same | inr h ↦ inr (h.0, h.2) ]))
        ];
      }
