-- Parts of slices, one axis at a time.
use Rattle.std.proofs.Common.{◌≡◌, ℕ, ◌+◌, ◌<◌, ◌≤◌, List, [], ◌∷◌, ◌++◌, length, get_or, Some, sym, subst, ◌∙◌, arith, inl, inr, length-append}
use Rattle.std.specs.Prelude.{None, slice_get}
use Rattle.std.proofs.lemmas.Option.{slice_get_within}
use Rattle.std.proofs.lemmas.List.{get_or_past}
use Rattle.std.proofs.lemmas.Bool.{cases_lt}
use Rattle.nd_shape.specs.declared.slice.Part.{Part}
use Rattle.nd_shape.specs.declared.slice.Part.TheVariants.{At, Range}
use Rattle.nd_shape.specs.declared.slice.Steps.{Steps}
use Rattle.nd_shape.specs.declared.error.ShapeError.{ShapeError}
use Rattle.nd_shape.specs.declared.error.ShapeError.TheVariants.{Misfit, BadAxis, BadIndex, ZeroStep, EmptyReduce, TooManyParts, BadSplit, Elements, OutOfMemory}
use Rattle.nd_shape.specs.Slice.{Resolves, RefusesPart, StepsFitAxis}
use Rattle.array_expr.specs.Node.{part_on, TakesFirst}
use Rattle.array_expr.specs.Refusal.{RefusesParts, IsFirstBadPart}
use Rattle.array_expr.proofs.Growing.{slice_get-front, slice_get-end}

-- the whole of an axis is never refused
whole-fits : (n : ℕ) (e : ShapeError) → RefusesPart n (Range None None None) e → ⊥
whole-fits n (Misfit axis left right) h = h
whole-fits n (BadAxis axis) h = h
whole-fits n (BadIndex index len) h = h
whole-fits n ZeroStep h = cc
whole-fits n (EmptyReduce axis) h = h
whole-fits n (TooManyParts parts axes) h = h
whole-fits n (BadSplit split) h = h
whole-fits n Elements h = h
whole-fits n OutOfMemory h = h

given : (n : ℕ) (parts : List Part) (k : ℕ) (e : ShapeError) → RefusesPart n (part_on parts k) e → k < length parts
given n parts k e h = elim (cases_lt k (length parts)) [
  | inl b ↦ b
  | inr b ↦ absurd (whole-fits n e (subst (λ p. RefusesPart n p e) (get_or_past parts k (Range None None None) b) h))
]

no-count : (n : ℕ) (part : Part) (parts axes : ℕ) → RefusesPart n part (TooManyParts parts axes) → ⊥
no-count n (At i) parts axes h = h
no-count n (Range start stop step) parts axes h = h

pub part-refused : (dims : List ℕ) (parts : List Part) (taken : List Steps) (axis : ℕ) (e : ShapeError) → length taken ≡ axis → length parts ≤ length dims → TakesFirst dims parts taken → RefusesPart (get_or dims axis 0) (part_on parts axis) e → RefusesParts dims parts e
part-refused dims parts taken axis e at enough before here =
    cases e (record {
      taken = taken;
      enough = enough;
      inside = subst (λ k. k < length parts) (sym at) (given (get_or dims axis 0) parts axis e here);
      before = before;
      here = subst (λ k. RefusesPart (get_or dims k 0) (part_on parts k) e) (sym at) here;
    })
  where
    cases : (e : ShapeError) → IsFirstBadPart dims parts e → RefusesParts dims parts e
    cases (Misfit axis left right) h = h
    cases (BadAxis axis) h = h
    cases (BadIndex index len) h = h
    cases ZeroStep h = h
    cases (EmptyReduce axis) h = h
    cases (TooManyParts given axes) h = absurd (no-count _ _ _ _ h.here)
    cases (BadSplit split) h = h
    cases Elements h = h
    cases OutOfMemory h = h

-- what holds of each that was taken, and of one more
each-more : (P : ℕ → Steps → Type 0) (taken : List Steps) (axis : ℕ) (steps : Steps) → length taken ≡ axis → ((k : ℕ) (s : Steps) → slice_get taken k ≡ Some s → P k s) → P axis steps → (k : ℕ) (s : Steps) → slice_get (taken ++ steps ∷ []) k ≡ Some s → P k s
each-more P taken axis steps at before here k s is = elim (cases_lt k (length taken)) [
  | inl b ↦ before k s (sym (slice_get-front taken (steps ∷ []) k b) ∙ is)
  | inr b ↦
      let w : k < length (taken ++ steps ∷ []) = slice_get_within (taken ++ steps ∷ []) k s is in
      let last : k ≡ length taken = omega (arith, length-append taken (steps ∷ [])) in
      let same : steps ≡ s = cc (slice_get-end taken steps, is, last) in
      subst (λ j. P j s) (sym (last ∙ at)) (subst (P axis) same here)
]

pub takes-more : (dims : List ℕ) (parts : List Part) (taken : List Steps) (axis : ℕ) (steps : Steps) → length taken ≡ axis → TakesFirst dims parts taken → Resolves (get_or dims axis 0) (part_on parts axis) steps → StepsFitAxis steps (get_or dims axis 0) → TakesFirst dims parts (taken ++ steps ∷ [])
takes-more dims parts taken axis steps at before here inside = record {
  each = each-more (λ k s. Resolves (get_or dims k 0) (part_on parts k) s) taken axis steps at before.each here;
  inside = each-more (λ k s. StepsFitAxis s (get_or dims k 0)) taken axis steps at before.inside inside;
}
