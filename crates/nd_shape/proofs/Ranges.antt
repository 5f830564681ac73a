-- The ranges of slices, by how many steps begin within a distance.
use Rattle.std.proofs.Common.{◌≡◌, ℕ, suc, ◌+◌, ◌-◌, ◌*◌, ◌<◌, ◌≤◌, cond, refl, ap, sym, subst, ◌∙◌, arith, w64, to_z, of_z, ℤ, pos, negsuc, ◌+ℤ◌, ◌<ℤ◌}
use Rattle.std.specs.Prelude.{nat_eq, unsigned_abs}
use Rattle.std.proofs.lemmas.Int.{ints, to_z-of_z}
use mir.Val.{SFits}
use Rattle.nd_shape.specs.Slice.{IsRange}

started : (count f start : ℕ) → start ≡ cond (nat_eq count 0) 0 f → 0 < count → start ≡ f
started count f start e h = grind arith

unstarted : (count f start : ℕ) → start ≡ cond (nat_eq count 0) 0 f → count ≡ 0 → start ≡ 0
unstarted count f start e h = grind arith

range_forwards : (step : ℤ) (f e count start : ℕ) → pos 0 <ℤ step → ((t : ℕ) → t < count → unsigned_abs step * t < e - f) → e - f ≤ unsigned_abs step * count → start ≡ cond (nat_eq count 0) 0 f
    → IsRange (pos f) (pos e) step (record { start = start; step = step; count = count })
range_forwards (pos k) f e count start s taken ended hs = record {
  step_is = refl;
  taken = λ t h. let b : k * t < e - f = taken t h in omega (arith, ints, b);
  ended = λ h. omega (arith, ints, ended, h);
  start_is = λ h. ap pos (started count f start hs h);
  empty = λ h. unstarted count f start hs h;
}
range_forwards (negsuc k) f e count start s taken ended hs = absurd (omega (arith, ints, s))

-- first and end by one above
range_backwards : (first end step : ℤ) (f e count start : ℕ) → step <ℤ pos 0 → pos f ≡ first +ℤ pos 1 → pos e ≡ end +ℤ pos 1 → ((t : ℕ) → t < count → unsigned_abs step * t < f - e) → f - e ≤ unsigned_abs step * count
    → start ≡ cond (nat_eq count 0) 0 (f - 1) → IsRange first end step (record { start = start; step = step; count = count })
range_backwards first end (pos k) f e count start s hf he taken ended hs = absurd (omega (arith, ints, s))
range_backwards first end (negsuc k) f e count start s hf he taken ended hs = record {
  step_is = refl;
  taken = λ t h. let b : suc k * t < f - e = taken t h in omega (arith, ints, hf, he, b);
  ended = λ h. omega (arith, ints, hf, he, ended, h);
  start_is = λ h. let b : suc k * 0 < f - e = taken 0 h in let g : start ≡ f - 1 = started count (f - 1) start hs h in omega (arith, ints, hf, he, b, g);
  empty = λ h. unstarted count (f - 1) start hs h;
}

-- ---- the exits of `forwards` and `backwards`

pub exit_forwards : (first end : ℤ → ℤ) (step : ℤ) (f e u d count start : ℕ) → SFits w64 step → pos 0 <ℤ step → pos f ≡ first (to_z w64 (of_z w64 step)) → pos e ≡ end (to_z w64 (of_z w64 step)) → d ≡ e - f → u ≡ unsigned_abs (to_z w64 (of_z w64 step))
    → ((t : ℕ) → t < count → u * t < d) → d ≤ u * count → start ≡ cond (nat_eq count 0) 0 f → IsRange (first step) (end step) step (record { start = start; step = to_z w64 (of_z w64 step); count = count })
exit_forwards first end step f e u d count start fits s hf he hd hu taken ended hs =
    let z : to_z w64 (of_z w64 step) ≡ step = to_z-of_z w64 step fits in
    let hv : u ≡ unsigned_abs step = hu ∙ ap unsigned_abs z in
    let base : IsRange (pos f) (pos e) step (record { start = start; step = step; count = count }) = range_forwards step f e count start s (λ t h. rw (← hv, ← hd) (taken t h)) (rw (← hv, ← hd) ended) hs in
    subst (λ x. IsRange (first step) (end step) step (record { start = start; step = x; count = count })) (sym z)
    (subst (λ x. IsRange (first step) x step (record { start = start; step = step; count = count })) (he ∙ ap end z) (subst (λ x. IsRange x (pos e) step (record { start = start; step = step; count = count })) (hf ∙ ap first z) base))

pub exit_backwards : (first end : ℤ → ℤ) (step : ℤ) (f e u d count start : ℕ) → SFits w64 step → step <ℤ pos 0 → pos f ≡ first (to_z w64 (of_z w64 step)) +ℤ pos 1 → pos e ≡ end (to_z w64 (of_z w64 step)) +ℤ pos 1 → d ≡ f - e
    → u ≡ unsigned_abs (to_z w64 (of_z w64 step)) → ((t : ℕ) → t < count → u * t < d) → d ≤ u * count → start ≡ cond (nat_eq count 0) 0 (f - 1)
    → IsRange (first step) (end step) step (record { start = start; step = to_z w64 (of_z w64 step); count = count })
exit_backwards first end step f e u d count start fits s hf he hd hu taken ended hs =
    let z : to_z w64 (of_z w64 step) ≡ step = to_z-of_z w64 step fits in
    let hv : u ≡ unsigned_abs step = hu ∙ ap unsigned_abs z in
    subst (λ x. IsRange (first step) (end step) step (record { start = start; step = x; count = count })) (sym z)
    (range_backwards (first step) (end step) step f e count start s (hf ∙ ap (λ x. first x +ℤ pos 1) z) (he ∙ ap (λ x. end x +ℤ pos 1) z) (λ t h. rw (← hv, ← hd) (taken t h)) (rw (← hv, ← hd) ended) hs)
