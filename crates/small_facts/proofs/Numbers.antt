-- Facts about numbers and tests on numbers that std lacks.
use Rattle.std.proofs.Common.{◌≡◌, ℕ, true, arith, eqb, false, ◌<◌, ◌≤◌, ◌+◌, suc, ltb, inl, inr, ◌⊎◌, ⊎_elim, zero, ◌*◌, ap, sym, ◌∙◌, ◌-◌, cond, pos}
use Rattle.std.proofs.Math.Nat.{mul_comm, mul_assoc, mul_left_comm}
use Rattle.std.proofs.lemmas.Bool.{cases_lt, eq-eqb}
use Rattle.std.proofs.lemmas.Bool.Decides.{nat_tests}
use Rattle.std.specs.Prelude.{min}

-- whether two numbers are equal
pub eqb_self : (k : ℕ) → eqb k k ≡ true
eqb_self k = grind (arith, nat_tests)

pub eqb_turned : (a b : ℕ) → eqb a b ≡ eqb b a
eqb_turned a b = grind (arith, nat_tests)

pub unequal_turned : (a b : ℕ) → eqb b a ≡ false → eqb a b ≡ false
unequal_turned a b e = grind (arith, nat_tests)

pub unequal_below : (a b : ℕ) → a < b → eqb a b ≡ false
unequal_below a b l = grind (arith, nat_tests)

pub unequal_over : (m a : ℕ) → a < m → eqb m a ≡ false
unequal_over m a h = grind (arith, nat_tests)

pub unequal_between : (x k j : ℕ) → x < j → j ≤ k → eqb x k ≡ false
unequal_between x k j a b = grind (arith, nat_tests)

pub unequal_past : (j k n : ℕ) → k < n → n ≤ j → eqb j k ≡ false
unequal_past j k n l m = grind (arith, nat_tests)

pub unequal_next : (a k : ℕ) → a + 1 ≤ k → eqb a k ≡ false
unequal_next a k l = grind (arith, nat_tests)

pub equal_turned : (k x : ℕ) → eqb k x ≡ true → x ≡ k
equal_turned k x e = grind (arith, nat_tests)

pub equal_below_next : (a b : ℕ) → eqb a b ≡ true → ltb a (b + 1) ≡ true
equal_below_next a b q = grind (arith, nat_tests)

pub unequal_below_next : (a b : ℕ) → eqb a b ≡ false → ltb a b ≡ ltb a (b + 1)
unequal_below_next a b q = grind (arith, nat_tests)

pub unequal_above : (k a : ℕ) → eqb k (k + suc a) ≡ false
unequal_above k a = unequal_below k (k + suc a) (omega arith)

pub equal_plus_none : (k : ℕ) → eqb k (k + 0) ≡ true
equal_plus_none k = eq-eqb k (k + 0) (omega arith)

-- whether a number is below another
pub none_below_zero : (i : ℕ) → ltb i 0 ≡ false
none_below_zero i = grind (arith, nat_tests)

pub not_below_self : (i : ℕ) → ltb i i ≡ false
not_below_self i = grind (arith, nat_tests)

pub below_below_next : (j i : ℕ) → ltb j i ≡ true → ltb j (i + 1) ≡ true
below_below_next j i e = grind (arith, nat_tests)

pub past_next : (j i : ℕ) → eqb j i ≡ false → ltb j i ≡ false → ltb j (i + 1) ≡ false
past_next j i e d = grind (arith, nat_tests)

pub next_positive : (n : ℕ) → ltb 0 (1 + n) ≡ true
next_positive n = grind (arith, nat_tests)

pub below_one_way : (x y : ℕ) → ltb y x ≡ true → ltb x y ≡ false
below_one_way x y h = grind (arith, nat_tests)

pub not_below_through : (x y z : ℕ) → ltb y x ≡ false → ltb z y ≡ false → ltb z x ≡ false
not_below_through x y z h i = grind (arith, nat_tests)

pub ends_at : (n m : ℕ) → n ≤ m → ltb n m ≡ false → m ≡ n
ends_at n m l h = grind (arith, nat_tests)

pub below_or_unequal : (a b : ℕ) → a < b + 1 → eqb a b ≡ false → a < b
below_or_unequal a b g i = grind (arith, nat_tests)

-- cases of order
pub equal_or_above : (a y : ℕ) → a ≤ y → (a ≡ y) ⊎ (a + 1 ≤ y)
equal_or_above a y l = ⊎_elim (λ g. inr (omega arith)) (λ g. inl (omega arith)) (cases_lt a y)

pub below_or_equal : (k place : ℕ) → k < place + 1 → (k < place) ⊎ (place ≡ k)
below_or_equal k place h = grind arith

pub equal_below_or_next : (m n : ℕ) → m ≡ n → m ≤ n + 1
equal_below_or_next m n e = omega arith

-- products
pub product_left : (m n : ℕ) → 0 < m * n → 0 < m
product_left zero n h = absurd (omega arith)
product_left (suc m) n h = omega arith

pub below_product_right : (n s p : ℕ) → p < n * s → 0 < s
below_product_right n zero p h = absurd (omega arith)
below_product_right n (suc s) p h = omega arith

pub factor_within : (a b : ℕ) → 0 < a * b → b ≤ a * b
factor_within zero b h = absurd (omega arith)
factor_within (suc a) b h = omega arith

pub product_regroup : (d X m E r : ℕ) → (d * X + m) * E + r ≡ d * (X * E) + (m * E + r)
product_regroup d X m E r = omega arith

pub product_turned : (k g b r : ℕ) → g * k ≡ r → k * (g * b) ≡ r * b
product_turned k g b r e = sym (mul_assoc k g b) ∙ ap (λ x. x * b) (mul_comm k g ∙ e)

pub product_with_first : (k f n e : ℕ) → k * f ≡ e → k * (n * f) ≡ n * e
product_with_first k f n e h = mul_left_comm k n f ∙ ap (λ x. n * x) h

pub product_with_last : (k f n e : ℕ) → k * f ≡ e → (n * k) * f ≡ n * e
product_with_last k f n e h = mul_assoc n k f ∙ ap (λ x. n * x) h

-- sums
pub none_plus : (n : ℕ) → n ≡ n + 0
none_plus n = omega arith

pub plus_none_one : (n : ℕ) → n + 0 + 1 ≡ n + 1
plus_none_one n = omega arith

pub whole_of_rest : (n m : ℕ) → n ≤ m → m ≡ n + (m - n)
whole_of_rest n m l = omega arith

pub capped_more : (t s n m : ℕ) → t ≡ min s m → min (t + n) m ≡ min (s + n) m
capped_more t s n m e = omega (arith, e)

-- numbers that a test picks
pub place_under : (m b : ℕ) → b < m → cond (eqb m 1) 0 b ≡ b
place_under m b h = grind (arith, nat_tests)

pub place_under_one : (n i : ℕ) → n ≡ 1 → cond (eqb n 1) 0 i ≡ 0
place_under_one n i e = grind (arith, nat_tests)

pub cond_below_zero : (k x : ℕ) → cond (ltb k 0) 1 x ≡ x
cond_below_zero k x = grind (arith, nat_tests)

pub same_pos : (n m : ℕ) → pos n ≡ pos m → n ≡ m
same_pos n m e = cc
