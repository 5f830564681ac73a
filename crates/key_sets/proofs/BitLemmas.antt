-- Bits of one word.
use Rattle.std.proofs.Common.{◌≡◌, ℕ, zero, suc, ◌+◌, ◌-◌, ◌*◌, ◌/◌, ◌%◌, ◌^◌, ◌<◌, ◌≤◌, Bool, true, false, cond, eqb, Some, None, refl, sym, subst, ap, ◌∙◌, arith, ⊎_elim, w64, bit_and, bit_or, one-mul, ◌⊎◌, inl, inr}
use Rattle.std.specs.Int.{bit_at, trailing_zeros, leading_zeros}
use Rattle.std.proofs.lemmas.Bool.Decides.{nat_tests}
use Rattle.std.proofs.lemmas.Bool.{cases_lt, eqb-true}
use Rattle.std.proofs.lemmas.Nat.{leading_top, le-div, div_below, pow-add, div-add-mod', pow_pos, mod_below}
use Rattle.std.proofs.Math.Nat.{div-div-eq-div-mul, div-le_self, mod-eq_of_lt, add-sub_of_le}
use Rattle.std.proofs.Math.Pow.{pow-lt}
use Rattle.std.proofs.lemmas.Nat.Bits.{bit_at-trailing_zeros, bit_at_above, bit_at-zero, bit_at_cat_low, bit_at_set_same, bit_at_set_other, bit_at_clear_same, bit_at_clear_other}
use Rattle.key_sets.specs.Sets.{bit, IsFirst, IsLast}

-- a bit of a word that was moved down
pub bit_at-shr : (n s i : ℕ) → bit_at (n / 2 ^ s) i ≡ bit_at n (s + i)
bit_at-shr n s i = ap (λ q. q % 2) (div-div-eq-div-mul n (2 ^ s) (2 ^ i) ∙ ap (λ m. n / m) (sym (pow-add 2 s i)))

-- a bit of the low part
pub bit_at-low : (n s i : ℕ) → i < s → bit_at (n % 2 ^ s) i ≡ bit_at n i
bit_at-low n s i l = sym (bit_at_cat_low (n / 2 ^ s) s (n % 2 ^ s) i l) ∙ ap (λ m. bit_at m i) (div-add-mod' n (2 ^ s))

-- the top bit of a number
pub bit_at-top : (n j : ℕ) → 2 ^ j ≤ n → n < 2 ^ suc j → bit_at n j ≡ 1
bit_at-top n j l h =
    let twice : 2 ^ (1 + j) ≡ 2 * 2 ^ j = pow-add 2 1 j in
    one (n / 2 ^ j) (le-div 1 n (2 ^ j) (pow_pos j) (omega arith)) (div_below n (2 ^ j) 2 (pow_pos j) (omega (arith, succ j, twice)))
  where
    one : (x : ℕ) → 1 ≤ x → x < 2 → x % 2 ≡ 1
    one x a b = let e : x ≡ 1 = omega arith in rw e refl

    succ : (j : ℕ) → 2 ^ suc j ≡ 2 ^ (1 + j)
    succ j = ap (λ m. 2 ^ m) (count j)
      where
        count : (j : ℕ) → suc j ≡ 1 + j
        count j = omega arith

pub set_bit : (n p i : ℕ) → p < 64 → bit (bit_or n (1 * 2 ^ p % 2 ^ 64)) i ≡ cond (eqb i p) true (bit n i)
set_bit n p i l = pick (eqb i p) refl
  where
    other : (i p : ℕ) → eqb i p ≡ false → i ≡ p → zero ≡ 1
    other i p e q = grind (arith, nat_tests)

    apart : (a : ℕ) → zero ≡ 1 → ⊥
    apart a e = omega arith

    pick : (b : Bool) → eqb i p ≡ b → bit (bit_or n (1 * 2 ^ p % 2 ^ 64)) i ≡ cond b true (bit n i)
    pick true e = let q : i ≡ p = eqb-true i p e in rw q (ap (λ b. eqb b 1) (bit_at_set_same w64 n p l))
    pick false e = ap (λ b. eqb b 1) (bit_at_set_other w64 n p l i (λ q. apart 0 (other i p e q)))

pub clear_bit : (n p i : ℕ) → p < 64 → i < 64 → bit (bit_and n (2 ^ 64 - 1 - 1 * 2 ^ p % 2 ^ 64)) i ≡ cond (eqb i p) false (bit n i)
clear_bit n p i l m = pick (eqb i p) refl
  where
    other : (i p : ℕ) → eqb i p ≡ false → i ≡ p → zero ≡ 1
    other i p e q = grind (arith, nat_tests)

    apart : (a : ℕ) → zero ≡ 1 → ⊥
    apart a e = omega arith

    pick : (b : Bool) → eqb i p ≡ b → bit (bit_and n (2 ^ 64 - 1 - 1 * 2 ^ p % 2 ^ 64)) i ≡ cond b false (bit n i)
    pick true e = let q : i ≡ p = eqb-true i p e in rw q (ap (λ b. eqb b 1) (bit_at_clear_same w64 n p l))
    pick false e = ap (λ b. eqb b 1) (bit_at_clear_other w64 n p l i m (λ q. apart 0 (other i p e q)))

is_one : (b : ℕ) → b ≡ 1 → eqb b 1 ≡ true
is_one b e = rw e refl

is_none : (b : ℕ) → b ≡ 0 → eqb b 1 ≡ false
is_none b e = rw e refl

shr_none : (n s k : ℕ) → n / 2 ^ s ≡ 0 → s ≤ k → bit_at n k ≡ 0
shr_none n s k e l = ap (bit_at n) (sym (add-sub_of_le l)) ∙ sym (bit_at-shr n s (k - s)) ∙ ap (λ m. bit_at m (k - s)) e ∙ bit_at-zero (k - s)

pub no_first : (n s : ℕ) → n / 2 ^ s ≡ 0 → IsFirst (bit n) s None
no_first n s e k l = is_none (bit_at n k) (shr_none n s k e l)

small_part : (n s : ℕ) → n < 2 ^ 64 → n / 2 ^ s < 2 ^ 64
small_part n s l = let m : n / 2 ^ s ≤ n = div-le_self n (2 ^ s) in omega arith

pub first_bit : (n s : ℕ) → n < 2 ^ 64 → 0 < n / 2 ^ s → IsFirst (bit n) s (Some (s + trailing_zeros w64 (n / 2 ^ s)))
first_bit n s l h =
    let t = bit_at-trailing_zeros w64 (n / 2 ^ s) h (small_part n s l) in (
      omega arith,
      is_one (bit_at n (s + trailing_zeros w64 (n / 2 ^ s))) (sym (bit_at-shr n s (trailing_zeros w64 (n / 2 ^ s))) ∙ t.1),
      λ k a b. is_none (bit_at n k) (ap (bit_at n) (sym (add-sub_of_le a)) ∙ sym (bit_at-shr n s (k - s)) ∙ t.2 (k - s) (omega arith)),
    )

pub first_within : (n s : ℕ) → n < 2 ^ 64 → 0 < n / 2 ^ s → s + trailing_zeros w64 (n / 2 ^ s) < 64
first_within n s l h =
    let t = bit_at-trailing_zeros w64 (n / 2 ^ s) h (small_part n s l) in
    ⊎_elim (λ i. i) (λ i. absurd (not_both (bit_at n (s + trailing_zeros w64 (n / 2 ^ s))) (sym (bit_at-shr n s (trailing_zeros w64 (n / 2 ^ s))) ∙ t.1) (bit_at_above n 64 (s + trailing_zeros w64 (n / 2 ^ s)) l i))) (cases_lt (s + trailing_zeros w64 (n / 2 ^ s)) 64)
  where
    not_both : (b : ℕ) → b ≡ 1 → b ≡ 0 → ⊥
    not_both b e f = omega arith

-- the greatest bit of a number that has at most so many
pub last_bit : (n : ℕ) → 0 < n → n < 2 ^ 64 → (63 - leading_zeros w64 n < 64) × (bit n (63 - leading_zeros w64 n) ≡ true) × ((k : ℕ) → 63 - leading_zeros w64 n < k → bit n k ≡ false)
last_bit n h l =
    let t = leading_top 64 n h l in
    let j = t.0 in
    let at : 63 - leading_zeros w64 n ≡ j = place (leading_zeros w64 n) j t.1 in
    (omega (arith, t.1), is_one (bit_at n (63 - leading_zeros w64 n)) (ap (bit_at n) at ∙ bit_at-top n j t.2 t.3), λ k m. is_none (bit_at n k) (bit_at_above n (suc j) k t.3 (omega (arith, at))))
  where
    place : (z j : ℕ) → z + suc j ≡ 64 → 63 - z ≡ j
    place z j e = omega arith

pub no_last : (n s : ℕ) → n % 2 ^ s ≡ 0 → IsLast (bit n) s None
no_last n s e k l = is_none (bit_at n k) (sym (bit_at-low n s k l) ∙ ap (λ m. bit_at m k) e ∙ bit_at-zero k)

pub last_low : (n s : ℕ) → s < 64 → 0 < n % 2 ^ s → n % 2 ^ s < 2 ^ 64 → IsLast (bit n) s (Some (63 - leading_zeros w64 (n % 2 ^ s)))
last_low n s l h m =
    let t = last_bit (n % 2 ^ s) h m in
    let r = 63 - leading_zeros w64 (n % 2 ^ s) in
    let low : r < s = below r t.1 (cases_lt r s) in
    (low, ap (λ b. eqb b 1) (sym (bit_at-low n s r low)) ∙ t.1, λ k a b. ap (λ b. eqb b 1) (sym (bit_at-low n s k b)) ∙ t.2 k a)
  where
    clash : (b : ℕ) → eqb b 1 ≡ true → b ≡ 0 → ⊥
    clash b e f = grind (arith, nat_tests)

    below : (r : ℕ) → bit (n % 2 ^ s) r ≡ true → (r < s) ⊎ (s ≤ r) → r < s
    below r e (inl i) = i
    below r e (inr i) = absurd (clash (bit_at (n % 2 ^ s) r) e (bit_at_above (n % 2 ^ s) s r (mod_below n (2 ^ s) (pow_pos s)) i))

-- 1 moved up within a word
pub one_shl : (s : ℕ) → s < 64 → 1 * 2 ^ s % 2 ^ 64 ≡ 2 ^ s
one_shl s l = ap (λ m. m % 2 ^ 64) (one-mul (2 ^ s)) ∙ mod-eq_of_lt (pow-lt l)

-- the lowest bit of a whole word
pub lowest_bit : (n : ℕ) → n < 2 ^ 64 → 0 < n → IsFirst (bit n) 0 (Some (trailing_zeros w64 n))
lowest_bit n l p =
    let e : n / 2 ^ 0 ≡ n = omega arith in
    let d = ap (trailing_zeros w64) e in
    let s : 0 + trailing_zeros w64 (n / 2 ^ 0) ≡ trailing_zeros w64 n = omega arith in
    subst (λ (m : ℕ). IsFirst (bit n) 0 (Some m)) s (first_bit n 0 l (omega arith))
