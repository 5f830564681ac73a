-- The slices of all axes, one by one.
use Rattle.std.proofs.Common.{◌≡◌, ℕ, ◌+◌, ◌<◌, List, [], ◌∷◌, ◌++◌, length, get_or, ap, sym, subst, ◌∙◌, arith, inl, inr, pos, Some}
use Rattle.std.specs.Prelude.{slice_get}
use Rattle.std.proofs.lemmas.Option.{get_or_from_slice_get, slice_get_within, slice_get-get_or}
use Rattle.std.proofs.lemmas.List.{get_or_append_left, get_or_push, length_push}
use Rattle.std.proofs.lemmas.Bool.{cases_lt}
use Rattle.nd_shape.specs.declared.slice.Part.{Part}
use Rattle.nd_shape.specs.declared.slice.Part.TheVariants.{At, Range}
use Rattle.nd_shape.specs.declared.slice.Steps.{Steps}
use Rattle.nd_shape.specs.Slice.{Resolves, StepsFitAxis}
use Rattle.nd_shape.specs.Chunk.{total}
use Rattle.chunk_layout.specs.Slicing.{TakesOf}

-- what a range or an index takes of an axis
pub takes-resolved : (n : ℕ) (part : Part) (s : Steps) → Resolves n part s → StepsFitAxis s n → TakesOf n s
takes-resolved n (At i) s r f = record { fits = f; goes = λ e. one (sym r.step_is ∙ e) }
  where
    one : pos 1 ≡ pos 0 → ⊥
    one h = cc
takes-resolved n (Range start stop step) s r f = record { fits = f; goes = λ e. r.0 (sym r.1.step_is ∙ e) }

abbrev pub EachTakes : List (List ℕ) → List Steps → Type 0
EachTakes layout parts = (k : ℕ) (s : Steps) → slice_get parts k ≡ Some s → TakesOf (total (get_or layout k [])) s

pub takes-push : (layout : List (List ℕ)) (parts : List Steps) (k : ℕ) (s : Steps) → length parts ≡ k → TakesOf (total (get_or layout k [])) s → EachTakes layout parts → EachTakes layout (parts ++ s ∷ [])
takes-push layout parts k s n t each j q e =
    let g : get_or (parts ++ s ∷ []) j s ≡ q = get_or_from_slice_get (parts ++ s ∷ []) j q s e in
    let w : j < length (parts ++ s ∷ []) = slice_get_within (parts ++ s ∷ []) j q e in
    let m : length (parts ++ s ∷ []) ≡ length parts + 1 = length_push parts s in
    elim (cases_lt j (length parts)) [
      | inl lt ↦ each j q (slice_get-get_or parts j s lt ∙ ap (λ (x : Steps). Some x) (sym (get_or_append_left parts (s ∷ []) s j lt) ∙ g))
      | inr ge ↦ let same : length parts ≡ j = omega arith in
          let sq : s ≡ q = sym (get_or_push parts s s j same) ∙ g in
          let kj : k ≡ j = sym n ∙ same in
          subst (λ (x : ℕ). TakesOf (total (get_or layout x [])) q) kj (subst (TakesOf (total (get_or layout k []))) sq t)
    ]
