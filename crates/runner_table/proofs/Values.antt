-- A value that is put at its key's place.
use Rattle.std.proofs.Common.{◌≡◌, ℕ, ◌<◌, List, [], replicate, length, get_or, set, sym, ◌∙◌, ap, subst, Option, Some, None, inl, inr, zero, suc, refl, true, is_some}
use Rattle.std.proofs.lemmas.List.{get_or-set_other, get_or-set_same}
use Rattle.std.specs.Prelude.{IfSome}
use Rattle.std.proofs.lemmas.Bool.{cases_eq}
use Rattle.std.proofs.lemmas.Option.{same_Some}
use Rattle.cluster_msgs.specs.Labels.{BlockFits, LabelFacts}
use Rattle.runner_table.specs.Results.{AreValues, has_value}

-- each value still fits
pub put_fits : (facts : LabelFacts ℕ) (values : List (Option ℕ)) (k v : ℕ) → k < length values → BlockFits facts k v → AreValues facts values → AreValues facts (set values k (Some v))
put_fits facts values k v lt fit fits = record {
  each = λ j x e.
      elim (cases_eq j k) [
        | inl is ↦
            let at : get_or (set values k (Some v)) j None ≡ Some v = ap (λ i. get_or (set values k (Some v)) i None) is ∙ get_or-set_same values k (Some v) None lt in
            let P : ℕ → ℕ → Type 0 = λ i y. BlockFits facts i y in
            subst (P j) (same_Some v x (sym at ∙ e)) (subst (λ i. P i v) (sym is) fit)
        | inr not ↦ fits.each j x (sym (get_or-set_other values k j (Some v) None not) ∙ e)
      ];
}

pub put_there : (values : List (Option ℕ)) (k v : ℕ) → k < length values → has_value (set values k (Some v)) k ≡ true
put_there values k v lt = ap is_some (get_or-set_same values k (Some v) (Some 0) lt)

none_some : (v : ℕ) → ◌≡◌ {A = Option ℕ} None (Some v) → ⊥
none_some v e = cc

empty_at : (k : ℕ) → ◌≡◌ {A = Option ℕ} (get_or [] k None) None
empty_at zero = refl
empty_at (suc k) = refl

none_at : (n k : ℕ) → ◌≡◌ {A = Option ℕ} (get_or (replicate n None) k None) None
none_at zero k = empty_at k
none_at (suc n) zero = refl
none_at (suc n) (suc k) = none_at n k

-- where there is none, each fits
pub none_fits : (facts : LabelFacts ℕ) (values : List (Option ℕ)) (n : ℕ) → values ≡ replicate n None → AreValues facts values
none_fits facts values n is = record { each = λ k v e. absurd (none_some v (sym (none_at n k) ∙ sym (ap (λ vs. get_or vs k None) is) ∙ e)) }

-- what is at a key's place fits it
pub value_fits : (facts : LabelFacts ℕ) (values : List (Option ℕ)) (k : ℕ) (o : Option ℕ) → AreValues facts values → o ≡ get_or values k None → IfSome o (λ v. BlockFits facts k v)
value_fits facts values k None fits is = tt
value_fits facts values k (Some v) fits is = fits.each k v (sym is)
