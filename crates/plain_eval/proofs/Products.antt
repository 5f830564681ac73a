-- How many elements are kept and folded.
use Rattle.std.proofs.Common.{◌≡◌, ℕ, zero, suc, ◌*◌, ◌^◌, ◌<◌, ◌≤◌, cond, Bool, true, false, List, [], ◌∷◌, length, get_or, sym, subst, refl, arith, inl, inr}
use Rattle.std.specs.Prelude.{All, Any, ◌⊎◌}
use Rattle.std.proofs.Math.Nat.{mul_comm}
use Rattle.std.proofs.lemmas.List.Elements.{All-tail}
use Rattle.small_facts.proofs.Lists.{length_cond_cons, all_cond_cons}
use Rattle.small_facts.proofs.Numbers.{product_with_first, product_with_last}
use Rattle.nd_shape.specs.declared.shape.ShapeLimit.{ShapeLimit}
use Rattle.nd_shape.specs.declared.shape.ShapeLimit.TheVariants.{Axes, Elements}
use Rattle.nd_shape.specs.Shape.{elements, IsShape}
use Rattle.nd_shape.specs.Limits.{IsPassed}
use Rattle.nd_grid.specs.Grid.{is_among, kept_shape, folded_shape}

-- ---- what is kept and what is folded

parts-cons : (n e : ℕ) (kept folded : List ℕ) (b : Bool) → elements kept * elements folded ≡ e → elements (cond b kept (n ∷ kept)) * elements (cond b (n ∷ folded) folded) ≡ n * e
parts-cons n e kept folded true h = product_with_first (elements kept) (elements folded) n e h
parts-cons n e kept folded false h = product_with_last (elements kept) (elements folded) n e h

pub elements-parts : (k : ℕ) (ns axes : List ℕ) → elements (kept_shape k ns axes) * elements (folded_shape k ns axes) ≡ elements ns
elements-parts k [] axes = refl
elements-parts k (n ∷ ns) axes = parts-cons n (elements ns) (kept_shape (suc k) ns axes) (folded_shape (suc k) ns axes) (is_among k axes) (elements-parts (suc k) ns axes)

pub length-folded : (k : ℕ) (ns axes : List ℕ) → length (folded_shape k ns axes) ≤ length ns
length-folded k [] axes = omega arith
length-folded k (n ∷ ns) axes = length_cond_cons n (length ns) (folded_shape (suc k) ns axes) (is_among k axes) (length-folded (suc k) ns axes)

pub all-folded : (P : ℕ → Type 0) (k : ℕ) (ns axes : List ℕ) → All P ns → All P (folded_shape k ns axes)
all-folded P k [] axes a = a
all-folded P k (n ∷ ns) axes a = all_cond_cons P n (folded_shape (suc k) ns axes) (is_among k axes) (a 0 0 (omega arith)) (all-folded P (suc k) ns axes (All-tail P n ns a))

-- ---- where the folded axes are too large for a shape, nothing is kept

none_kept : (k f : ℕ) → k * f ≤ 2 ^ 31 → 2 ^ 31 < f → k ≡ 0
none_kept zero f h b = refl
none_kept (suc k) f h b = absurd (omega (arith, mul_comm (suc k) f))

pub passed_none : (ns fs : List ℕ) (kept : ℕ) (limit : ShapeLimit) → IsShape ns → length fs ≤ length ns → All (λ n. n ≤ 2 ^ 31) fs → kept * elements fs ≡ elements ns → IsPassed limit fs → kept ≡ 0
passed_none ns fs kept Axes s few small split p = absurd (omega (arith, s.axes))
passed_none ns fs kept Elements s few small split p = cases p.1
  where
    cases : Any (λ n. 2 ^ 31 < n) fs ⊎ (2 ^ 31 < elements fs) → kept ≡ 0
    cases (inl a) = absurd (let low : get_or fs a.0 a.1 ≤ 2 ^ 31 = small a.0 a.1 a.2 in omega (arith, low, a.3, a.4))
    cases (inr large) = none_kept kept (elements fs) (subst (λ e. e ≤ 2 ^ 31) (sym split) s.product) large

pub folded_passed : (ns axes : List ℕ) (limit : ShapeLimit) → IsShape ns → IsPassed limit (folded_shape 0 ns axes) → elements (kept_shape 0 ns axes) ≡ 0
folded_passed ns axes limit s p = passed_none ns (folded_shape 0 ns axes) (elements (kept_shape 0 ns axes)) limit s (length-folded 0 ns axes) (all-folded (λ n. n ≤ 2 ^ 31) 0 ns axes s.lengths) (elements-parts 0 ns axes) p
