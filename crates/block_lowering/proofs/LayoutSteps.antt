-- Lists of different lengths aren't the same.
use Rattle.std.proofs.Common.{◌≡◌, ℕ, suc, false, ◌&&◌, nat_eq, List, [], ◌∷◌, length, refl, ap, ◌∙◌}
use Rattle.std.proofs.Math.Bool.{and-false}
use Rattle.lowering_laws.specs.Sources.{same_sizes, same_layout}

pub same-sizes-apart : (a b : List ℕ) → (length a ≡ length b → ⊥) → same_sizes a b ≡ false
same-sizes-apart [] [] ne = absurd (ne refl)
same-sizes-apart [] (b ∷ bs) ne = refl
same-sizes-apart (a ∷ as') [] ne = refl
same-sizes-apart (a ∷ as') (b ∷ bs) ne = ap (λ r. nat_eq a b && r) (same-sizes-apart as' bs (λ e. ne (ap suc e))) ∙ and-false (nat_eq a b)

pub same-layout-apart : (a b : List (List ℕ)) → (length a ≡ length b → ⊥) → same_layout a b ≡ false
same-layout-apart [] [] ne = absurd (ne refl)
same-layout-apart [] (b ∷ bs) ne = refl
same-layout-apart (a ∷ as') [] ne = refl
same-layout-apart (a ∷ as') (b ∷ bs) ne = ap (λ r. same_sizes a b && r) (same-layout-apart as' bs (λ e. ne (ap suc e))) ∙ and-false (same_sizes a b)
