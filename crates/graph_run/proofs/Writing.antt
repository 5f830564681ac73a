-- A loop that writes one value at places, one after another.
use Rattle.std.proofs.Common.{◌≡◌, ℕ, ◌+◌, ◌<◌, List, [], ◌∷◌, ◌++◌, length, take, get_or, set, refl, sym, subst, ◌∙◌, inl, inr, arith, get_or-set_same, get_or-set_other}
use Rattle.std.specs.Prelude.{Contains}
use Rattle.std.proofs.lemmas.Bool.{cases_eq}
use Rattle.std.proofs.lemmas.List.{length-set, take_more}
use Rattle.std.proofs.lemmas.List.Elements.{Contains-push, Contains-push_cases, Contains-append_left}
use Rattle.graph_run.specs.Writes.{IsWritten}

module _ {A : Type 0} (P : ℕ → Type 0) (default value : A) where
  pub written-none : (xs : List A) → IsWritten P default value [] xs xs
  written-none xs = record {
    same_length = refl;
    written = λ k m p. let at : ℕ = m.0 in let no : at < 0 = m.1 in absurd (omega arith);
    others = λ k. inl refl;
  }

  put-same : (new : List A) (j k : ℕ) → j < length new → j ≡ k → get_or (set new j value) k default ≡ value
  put-same new j k lt e = subst (λ i. get_or (set new j value) i default ≡ value) e (get_or-set_same new j value default lt)

  put-other : (new : List A) (j k : ℕ) → (j ≡ k → ⊥) → get_or (set new j value) k default ≡ get_or new k default
  put-other new j k ne = get_or-set_other new j k value default (λ e. ne (sym e))

  pub written-push : (places : List ℕ) (j : ℕ) (old new : List A) → j < length new → P j → IsWritten P default value places old new → IsWritten P default value (places ++ j ∷ []) old (set new j value)
  written-push places j old new lt p w = record {
    same_length = length-set new j value ∙ w.same_length;
    written = λ k m q. elim (cases_eq j k) [
      | inl e ↦ put-same new j k lt e
      | inr ne ↦ put-other new j k ne ∙ elim (Contains-push_cases places j k m) [ inl h ↦ w.written k h q | inr e ↦ absurd (ne e) ]
    ];
    others = λ k. elim (cases_eq j k) [
      | inl e ↦ inr (subst (Contains (places ++ j ∷ [])) e (Contains-push places j), subst P e p, put-same new j k lt e)
      | inr ne ↦ elim (w.others k) [
        | inl same ↦ inl (put-other new j k ne ∙ same)
        | inr h ↦ inr (Contains-append_left places (j ∷ []) k h.0, h.1, put-other new j k ne ∙ h.2)
      ]
    ];
  }

  pub unwritten-push : (places : List ℕ) (j : ℕ) (old new : List A) → (P j → ⊥) → IsWritten P default value places old new → IsWritten P default value (places ++ j ∷ []) old new
  unwritten-push places j old new never w = record {
    same_length = w.same_length;
    written = λ k m q. elim (Contains-push_cases places j k m) [ inl h ↦ w.written k h q | inr e ↦ absurd (never (subst P (sym e) q)) ];
    others = λ k. elim (w.others k) [
      | inl same ↦ inl same
      | inr h ↦ inr (Contains-append_left places (j ∷ []) k h.0, h.1, h.2)
    ];
  }

  -- the same at the next place of a list of places
  pub written-more : (places : List ℕ) (i : ℕ) (old new : List A) → i < length places → get_or places i 0 < length new → P (get_or places i 0)
      → IsWritten P default value (take i places) old new → IsWritten P default value (take (i + 1) places) old (set new (get_or places i 0) value)
  written-more places i old new lt room p w = rw (take_more places i 0 lt) (written-push (take i places) (get_or places i 0) old new room p w)

  pub unwritten-more : (places : List ℕ) (i : ℕ) (old new : List A) → i < length places → (P (get_or places i 0) → ⊥)
      → IsWritten P default value (take i places) old new → IsWritten P default value (take (i + 1) places) old new
  unwritten-more places i old new lt never w = rw (take_more places i 0 lt) (unwritten-push (take i places) (get_or places i 0) old new never w)
