-- `floor_div` and `floor_rem` by `int_div_euclid` and its remainder.
use Rattle.std.proofs.Common.{◌≡◌, ◌≢◌, ℕ, zero, suc, ◌+◌, ◌*◌, ◌/◌, ◌%◌, ◌<◌, add-one, refl, ap, sym, ◌∙◌, arith, ℤ, pos, negsuc, neg_ℤ, ◌+ℤ◌, ◌-ℤ◌, ◌<ℤ◌, ◌⊎◌, inl, inr, true, false, to_z, of_z, w64}
use Rattle.std.specs.Int.{int_div_euclid, int_rem_euclid, int_wrapping_neg}
use Rattle.std.proofs.lemmas.Nat.{div-mul-add, mod-mul-add, div-add-mod', mod_below}
use Rattle.std.proofs.lemmas.Int.{ints, to_z-of_z, int_wrap_fits, wrapping_neg_is}
use Rattle.std.proofs.lemmas.Bool.{cases_lt}
use Rattle.std.proofs.Math.Nat.{zero-lt-suc}
use mir.Val.{SFits}
use lib.Signed.{lt_z}
use Rattle.nd_grid.specs.Int64.{floor_div, floor_rem, wrap}

pub floor_div-pos : (a d : ℤ) → pos 0 <ℤ d → floor_div a d ≡ int_div_euclid a d
floor_div-pos a (pos d) h = refl
floor_div-pos a (negsuc d) h = absurd (omega (arith, ints))

-- the next number: in the same row, or first in the next one
next_within : (m s : ℕ) → m % s + 1 < s → (suc m / s ≡ m / s) × (suc m % s ≡ m % s + 1)
next_within m s h =
    let e : suc m ≡ m / s * s + (m % s + 1) = omega (arith, div-add-mod' m s) in
    (ap (λ k. k / s) e ∙ div-mul-add (m / s) s (m % s + 1) h, ap (λ k. k % s) e ∙ mod-mul-add (m / s) s (m % s + 1) h)

next_row : (m s : ℕ) → 0 < s → m % s + 1 ≡ s → (suc m / s ≡ m / s + 1) × (suc m % s ≡ 0)
next_row m s p h =
    let e : suc m ≡ (m / s + 1) * s + 0 = omega (arith, div-add-mod' m s) in
    (ap (λ k. k / s) e ∙ div-mul-add (m / s + 1) s 0 p, ap (λ k. k % s) e ∙ mod-mul-add (m / s + 1) s 0 p)

rows_of : (m s : ℕ) → 0 < s → (m % s + 1 < s) ⊎ (m % s + 1 ≡ s)
rows_of m s p =
    let b : m % s < s = mod_below m s p in
    elim (cases_lt (m % s + 1) s) [ inl h ↦ inl h | inr h ↦ inr (omega arith) ]

zero-div : (s : ℕ) → 0 < s → 0 / s ≡ 0
zero-div s p = ap (λ k. k / s) (omega arith) ∙ div-mul-add 0 s 0 p

-- below a divisor less than 0: the same quotient where nothing is left
pub floor_div-whole : (a : ℤ) (d : ℕ) → int_rem_euclid a (negsuc d) ≡ pos 0 → floor_div a (negsuc d) ≡ int_div_euclid a (negsuc d)
floor_div-whole (pos zero) d h = let z : 0 / suc d ≡ 0 = zero-div (suc d) (zero-lt-suc d) in rw z refl
floor_div-whole (pos (suc m)) d h =
    elim (rows_of m (suc d) (zero-lt-suc d)) [
      | inl w ↦ let e : (suc m / suc d ≡ m / suc d) × (suc m % suc d ≡ m % suc d + 1) = next_within m (suc d) w in
          absurd (omega (arith, ints, e.1, h))
      | inr w ↦ let e : (suc m / suc d ≡ m / suc d + 1) × (suc m % suc d ≡ 0) = next_row m (suc d) (zero-lt-suc d) w in
          rw (e.0, add-one) refl
    ]
floor_div-whole (negsuc m) d h =
    elim (rows_of m (suc d) (zero-lt-suc d)) [
      | inl w ↦ absurd (omega (arith, ints, h))
      | inr w ↦ let e : (suc m / suc d ≡ m / suc d + 1) × (suc m % suc d ≡ 0) = next_row m (suc d) (zero-lt-suc d) w in
          rw (e.0, add-one) refl
    ]

-- and one less where something is
pub floor_div-left : (a : ℤ) (d : ℕ) → int_rem_euclid a (negsuc d) ≢ pos 0 → floor_div a (negsuc d) ≡ int_div_euclid a (negsuc d) -ℤ pos 1
floor_div-left (pos zero) d h =
    absurd (h (ap pos (ap (λ k. k % suc d) (omega arith) ∙ mod-mul-add 0 (suc d) 0 (zero-lt-suc d))))
floor_div-left (pos (suc m)) d h =
    elim (rows_of m (suc d) (zero-lt-suc d)) [
      | inl w ↦ let e : (suc m / suc d ≡ m / suc d) × (suc m % suc d ≡ m % suc d + 1) = next_within m (suc d) w in
          rw e.0 (omega (arith, ints))
      | inr w ↦ let e : (suc m / suc d ≡ m / suc d + 1) × (suc m % suc d ≡ 0) = next_row m (suc d) (zero-lt-suc d) w in
          absurd (h (ap pos e.1))
    ]
floor_div-left (negsuc m) d h =
    elim (rows_of m (suc d) (zero-lt-suc d)) [
      | inl w ↦ let e : (suc m / suc d ≡ m / suc d) × (suc m % suc d ≡ m % suc d + 1) = next_within m (suc d) w in
          rw e.0 (omega (arith, ints))
      | inr w ↦ absurd (h (ap pos (omega arith)))
    ]

-- by -1
pub floor_div-minus_one : (a : ℤ) → floor_div a (negsuc 0) ≡ neg_ℤ a
floor_div-minus_one (pos zero) = omega (arith, ints)
floor_div-minus_one (pos (suc m)) = omega (arith, ints)
floor_div-minus_one (negsuc m) = omega (arith, ints)

-- ---- the exits of `floor_divide`
pub exit_minus_one : (a b r : ℤ) → SFits w64 a → SFits w64 b → SFits w64 r → of_z w64 b ≡ 18446744073709551615 → r ≡ int_wrapping_neg w64 (to_z w64 (of_z w64 a)) → to_z w64 (of_z w64 r) ≡ wrap (floor_div a b)
exit_minus_one a b r fa fb fr e h =
    let d : b ≡ negsuc 0 = omega (arith, ints) in
    to_z-of_z w64 r fr ∙ h ∙ ap (int_wrapping_neg w64) (to_z-of_z w64 a fa) ∙ wrapping_neg_is w64 a fa ∙ ap wrap (sym (ap (floor_div a) d ∙ floor_div-minus_one a))

-- what fits is left as it is
wrapped : (q x : ℤ) → SFits w64 q → q ≡ x → to_z w64 (of_z w64 q) ≡ wrap x
wrapped q x f e = to_z-of_z w64 q f ∙ sym (int_wrap_fits w64 q f) ∙ ap wrap e

same_args : (h : ℤ → ℤ → ℤ) (a b : ℤ) → SFits w64 a → SFits w64 b → h (to_z w64 (of_z w64 a)) (to_z w64 (of_z w64 b)) ≡ h a b
same_args h a b fa fb = ap (λ x. h x (to_z w64 (of_z w64 b))) (to_z-of_z w64 a fa) ∙ ap (h a) (to_z-of_z w64 b fb)

pub exit_pos : (a b q : ℤ) → SFits w64 a → SFits w64 b → SFits w64 q → b ≢ pos 0 → lt_z (to_z w64 (of_z w64 b)) (pos 0) ≡ false → q ≡ int_div_euclid (to_z w64 (of_z w64 a)) (to_z w64 (of_z w64 b)) → to_z w64 (of_z w64 q) ≡ wrap (floor_div a b)
exit_pos a b q fa fb fq ne h e =
    let p : pos 0 <ℤ b = grind (arith, ints) in
    wrapped q (floor_div a b) fq (e ∙ same_args int_div_euclid a b fa fb ∙ sym (floor_div-pos a b p))

below : (b : ℤ) → SFits w64 b → lt_z (to_z w64 (of_z w64 b)) (pos 0) ≡ true → (d : ℕ) × (b ≡ negsuc d)
below (pos n) f h = absurd (grind (arith, ints))
below (negsuc d) f h = (d, refl)

pub exit_whole : (a b q m : ℤ) → SFits w64 a → SFits w64 b → SFits w64 q → SFits w64 m → lt_z (to_z w64 (of_z w64 b)) (pos 0) ≡ true → q ≡ int_div_euclid (to_z w64 (of_z w64 a)) (to_z w64 (of_z w64 b))
    → m ≡ int_rem_euclid (to_z w64 (of_z w64 a)) (to_z w64 (of_z w64 b)) → of_z w64 m ≡ 0 → to_z w64 (of_z w64 q) ≡ wrap (floor_div a b)
exit_whole a b q m fa fb fq fm h e k z =
    let d = below b fb h in
    let mz : m ≡ pos 0 = omega (arith, ints) in
    let kz : int_rem_euclid a (negsuc d.0) ≡ pos 0 = sym (ap (int_rem_euclid a) d.1) ∙ sym (same_args int_rem_euclid a b fa fb) ∙ sym k ∙ mz in
    wrapped q (floor_div a b) fq (e ∙ same_args int_div_euclid a b fa fb ∙ ap (int_div_euclid a) d.1 ∙ sym (floor_div-whole a d.0 kz) ∙ sym (ap (floor_div a) d.1))

pub exit_left : (a b q m : ℤ) → SFits w64 a → SFits w64 b → SFits w64 q → SFits w64 (q -ℤ pos 1) → lt_z (to_z w64 (of_z w64 b)) (pos 0) ≡ true → q ≡ int_div_euclid (to_z w64 (of_z w64 a)) (to_z w64 (of_z w64 b))
    → m ≡ int_rem_euclid (to_z w64 (of_z w64 a)) (to_z w64 (of_z w64 b)) → of_z w64 m ≢ 0 → to_z w64 (of_z w64 (to_z w64 (of_z w64 q) -ℤ pos 1)) ≡ wrap (floor_div a b)
exit_left a b q m fa fb fq fr h e k z =
    let d = below b fb h in
    let kz : int_rem_euclid a (negsuc d.0) ≢ pos 0 = λ y. z (ap (of_z w64) (k ∙ same_args int_rem_euclid a b fa fb ∙ ap (int_rem_euclid a) d.1 ∙ y)) in
    ap (λ x. to_z w64 (of_z w64 (x -ℤ pos 1))) (to_z-of_z w64 q fq)
    ∙ wrapped (q -ℤ pos 1) (floor_div a b) fr (ap (λ x. x -ℤ pos 1) (e ∙ same_args int_div_euclid a b fa fb ∙ ap (int_div_euclid a) d.1) ∙ sym (floor_div-left a d.0 kz) ∙ sym (ap (floor_div a) d.1))

-- ---- what the quotient leaves

floor_rem-pos : (a d : ℤ) → pos 0 <ℤ d → floor_rem a d ≡ int_rem_euclid a d
floor_rem-pos (pos m) (pos d) h = omega (arith, ints, div-add-mod' m d)
floor_rem-pos (negsuc m) (pos d) h = let b : m % d < d = mod_below m d (omega (arith, ints)) in omega (arith, ints, div-add-mod' m d, b)
floor_rem-pos a (negsuc d) h = absurd (omega (arith, ints))

floor_rem-whole : (a : ℤ) (d : ℕ) → int_rem_euclid a (negsuc d) ≡ pos 0 → floor_rem a (negsuc d) ≡ pos 0
floor_rem-whole (pos zero) d h = let z : 0 / suc d ≡ 0 = zero-div (suc d) (zero-lt-suc d) in rw z (omega (arith, ints))
floor_rem-whole (pos (suc m)) d h =
    elim (rows_of m (suc d) (zero-lt-suc d)) [
      | inl w ↦ let e : (suc m / suc d ≡ m / suc d) × (suc m % suc d ≡ m % suc d + 1) = next_within m (suc d) w in
          absurd (omega (arith, ints, e.1, h))
      | inr w ↦ omega (arith, ints, div-add-mod' m (suc d), w)
    ]
floor_rem-whole (negsuc m) d h =
    elim (rows_of m (suc d) (zero-lt-suc d)) [
      | inl w ↦ absurd (omega (arith, ints, h))
      | inr w ↦ let e : (suc m / suc d ≡ m / suc d + 1) × (suc m % suc d ≡ 0) = next_row m (suc d) (zero-lt-suc d) w in
          omega (arith, ints, div-add-mod' (suc m) (suc d), e.1)
    ]

floor_rem-left : (a : ℤ) (d : ℕ) → int_rem_euclid a (negsuc d) ≢ pos 0 → floor_rem a (negsuc d) ≡ int_rem_euclid a (negsuc d) +ℤ negsuc d
floor_rem-left (pos zero) d h =
    absurd (h (ap pos (ap (λ k. k % suc d) (omega arith) ∙ mod-mul-add 0 (suc d) 0 (zero-lt-suc d))))
floor_rem-left (pos (suc m)) d h =
    elim (rows_of m (suc d) (zero-lt-suc d)) [
      | inl w ↦ let e : (suc m / suc d ≡ m / suc d) × (suc m % suc d ≡ m % suc d + 1) = next_within m (suc d) w in
          omega (arith, ints, div-add-mod' m (suc d), e.1)
      | inr w ↦ let e : (suc m / suc d ≡ m / suc d + 1) × (suc m % suc d ≡ 0) = next_row m (suc d) (zero-lt-suc d) w in
          absurd (h (ap pos e.1))
    ]
floor_rem-left (negsuc m) d h =
    elim (rows_of m (suc d) (zero-lt-suc d)) [
      | inl w ↦ let e : (suc m / suc d ≡ m / suc d) × (suc m % suc d ≡ m % suc d + 1) = next_within m (suc d) w in
          omega (arith, ints, div-add-mod' (suc m) (suc d), e.1, w)
      | inr w ↦ absurd (h (ap pos (omega arith)))
    ]

-- ---- the exits of `floor_remainder`

pub exit_rem_pos : (a b r : ℤ) → SFits w64 a → SFits w64 b → SFits w64 r → b ≢ pos 0 → lt_z (to_z w64 (of_z w64 b)) (pos 0) ≡ false → r ≡ int_rem_euclid (to_z w64 (of_z w64 a)) (to_z w64 (of_z w64 b)) → to_z w64 (of_z w64 r) ≡ wrap (floor_rem a b)
exit_rem_pos a b r fa fb fr ne h e =
    let p : pos 0 <ℤ b = grind (arith, ints) in
    wrapped r (floor_rem a b) fr (e ∙ same_args int_rem_euclid a b fa fb ∙ sym (floor_rem-pos a b p))

pub exit_rem_whole : (a b r : ℤ) → SFits w64 a → SFits w64 b → SFits w64 r → lt_z (to_z w64 (of_z w64 b)) (pos 0) ≡ true → r ≡ int_rem_euclid (to_z w64 (of_z w64 a)) (to_z w64 (of_z w64 b)) → of_z w64 r ≡ 0 → to_z w64 (of_z w64 r) ≡ wrap (floor_rem a b)
exit_rem_whole a b r fa fb fr h e z =
    let d = below b fb h in
    let rz : r ≡ pos 0 = omega (arith, ints) in
    let kz : int_rem_euclid a (negsuc d.0) ≡ pos 0 = sym (ap (int_rem_euclid a) d.1) ∙ sym (same_args int_rem_euclid a b fa fb) ∙ sym e ∙ rz in
    wrapped r (floor_rem a b) fr (rz ∙ sym (floor_rem-whole a d.0 kz) ∙ sym (ap (floor_rem a) d.1))

pub exit_rem_left : (a b r : ℤ) → SFits w64 a → SFits w64 b → SFits w64 r → SFits w64 (r +ℤ b) → lt_z (to_z w64 (of_z w64 b)) (pos 0) ≡ true → r ≡ int_rem_euclid (to_z w64 (of_z w64 a)) (to_z w64 (of_z w64 b)) → of_z w64 r ≢ 0
    → to_z w64 (of_z w64 (to_z w64 (of_z w64 r) +ℤ to_z w64 (of_z w64 b))) ≡ wrap (floor_rem a b)
exit_rem_left a b r fa fb fr fs h e z =
    let d = below b fb h in
    let kz : int_rem_euclid a (negsuc d.0) ≢ pos 0 = λ y. z (ap (of_z w64) (e ∙ same_args int_rem_euclid a b fa fb ∙ ap (int_rem_euclid a) d.1 ∙ y)) in
    let rest : r ≡ int_rem_euclid a (negsuc d.0) = e ∙ same_args int_rem_euclid a b fa fb ∙ ap (int_rem_euclid a) d.1 in
    ap (λ x. to_z w64 (of_z w64 x)) (ap (λ x. x +ℤ to_z w64 (of_z w64 b)) (to_z-of_z w64 r fr) ∙ ap (λ x. r +ℤ x) (to_z-of_z w64 b fb))
    ∙ wrapped (r +ℤ b) (floor_rem a b) fs (ap (λ x. x +ℤ b) rest ∙ ap (λ x. int_rem_euclid a (negsuc d.0) +ℤ x) d.1 ∙ sym (floor_rem-left a d.0 kz) ∙ sym (ap (floor_rem a) d.1))
