-- The formula is at least what all counts together come to.
use Rattle.std.proofs.Common.{◌≡◌, ℕ, zero, suc, ◌+◌, ◌*◌, ◌^◌, ◌≤◌, refl, sym, ap, ◌∙◌, subst, arith, mul-le-mul, le_refl}
use Rattle.std.proofs.Math.Nat.{pow-suc, pow-zero}
use Rattle.cluster_rules.specs.World.{quiet_bound}

first_power : (x : ℕ) → x ^ 1 ≡ x
first_power x = pow-suc x 0 ∙ ap (λ y. y * x) (pow-zero x) ∙ omega arith

square : (x : ℕ) → x ^ 2 ≡ x * x
square x = pow-suc x 1 ∙ ap (λ y. y * x) (first_power x)

cube : (x : ℕ) → x ^ 3 ≡ (x * x) * x
cube x = pow-suc x 2 ∙ ap (λ y. y * x) (square x)

-- what the counts come to, for one client
abbrev pub sum_by : ℕ → ℕ → ℕ → ℕ → ℕ → ℕ
sum_by b k e m w = (b * ((k * (28 * b + 99 + k) + e * (7 * b + 24)) + (7 * b + 23)) + (k * (35 * b + 121 + 2 * k) + e * (7 * b + 24))) + ((w * k) * (21 * b + 51) + (m * (k + 1)) * (7 * b + 25))

-- the same, by few numbers
abbrev few_by : ℕ → ℕ → ℕ
few_by n y = (y * (n * (28 * y + 99 + n) + (7 * y + 23)) + n * (35 * y + 121 + 2 * n)) + y * (21 * y + 51)

spread : (k e n x z u : ℕ) → k + e ≡ n → x ≤ u → z ≤ u → k * x + e * z ≤ n * u
spread k e n x z u s l m = subst (λ h. k * x + e * z ≤ h * u) s (together (k * x) (e * z) (k * u) (e * u) (mul-le-mul (le_refl k) l) (mul-le-mul (le_refl e) m) (omega arith))
  where
    together : (a b c d : ℕ) → a ≤ c → b ≤ d → (k + e) * u ≡ c + d → a + b ≤ (k + e) * u
    together a b c d p q r = omega (arith, p, q, r)

fewer : (b k e m w n y : ℕ) → k + e ≡ n → b ≤ y → y ≡ (n + 1) * (m + w) → sum_by b k e m w ≤ few_by n y
fewer b k e m w n y s l h = sums _ _ _ _ _ _
    (mul-le-mul l (sums_two _ _ _ _ (spread k e n (28 * b + 99 + k) (7 * b + 24) (28 * y + 99 + n) s (omega (arith, l, s)) (omega (arith, l, s))) (omega (arith, l))))
    (spread k e n (35 * b + 121 + 2 * k) (7 * b + 24) (35 * y + 121 + 2 * n) s (omega (arith, l, s)) (omega (arith, l, s)))
    last
  where
    sums_two : (x z u v : ℕ) → x ≤ u → z ≤ v → x + z ≤ u + v
    sums_two x z u v p q = omega arith

    sums : (x z v u t r : ℕ) → x ≤ u → z ≤ t → v ≤ r → (x + z) + v ≤ (u + t) + r
    sums x z v u t r p q o = omega arith

    most : k ≤ n
    most = omega (arith, s)

    last : (w * k) * (21 * b + 51) + (m * (k + 1)) * (7 * b + 25) ≤ y * (21 * y + 51)
    last = subst (λ x. (w * k) * (21 * b + 51) + (m * (k + 1)) * (7 * b + 25) ≤ x * (21 * y + 51)) (sym h)
        (together (21 * y + 51) _ _ (mul-le-mul (mul-le-mul (le_refl w) (omega (arith, most))) (omega (arith, l))) (mul-le-mul (mul-le-mul (le_refl m) (omega (arith, most))) (omega (arith, l))))
      where
        together : (v a c : ℕ) → a ≤ (w * (n + 1)) * v → c ≤ (m * (n + 1)) * v → a + c ≤ ((n + 1) * (m + w)) * v
        together v a c p q = omega (arith, p, q)

own_square : (k : ℕ) → k ≤ k * k
own_square zero = omega arith
own_square (suc k) = omega arith

ten_times : (y : ℕ) → 10 * y ≤ 4 * (y * y) + 32
ten_times zero = omega arith
ten_times (suc zero) = omega arith
ten_times (suc (suc y)) = omega arith

within_square : (n y : ℕ) → few_by n y ≤ 32 * ((n + 1) * ((y + (n + 1)) * (y + (n + 1))))
within_square n y = at (own_square n) (mul-le-mul (own_square n) (le_refl y)) (ten_times y)
  where
    at : n ≤ n * n → n * y ≤ (n * n) * y → 10 * y ≤ 4 * (y * y) + 32 → few_by n y ≤ 32 * ((n + 1) * ((y + (n + 1)) * (y + (n + 1))))
    at a b c = omega arith

wider : (n m w : ℕ) → (n + 1) * (m + w) + (n + 1) ≤ (n + 1) * ((m + 1) * (w + 1))
wider n m w = omega arith

is_formula : (c n p q : ℕ) → c * (32 * (n * ((n * (p * q)) * (n * (p * q))))) ≡ ((32 * c) * (p ^ 2)) * ((q ^ 2) * (n ^ 3))
is_formula c n p q = at (p ^ 2) (square p) (q ^ 2) (square q) (n ^ 3) (cube n)
  where
    at : (x : ℕ) → x ≡ p * p → (y : ℕ) → y ≡ q * q → (z : ℕ) → z ≡ (n * n) * n → c * (32 * (n * ((n * (p * q)) * (n * (p * q))))) ≡ ((32 * c) * x) * (y * z)
    at x a y b z d = ring ∙ sym (ap (λ h. ((32 * c) * h) * (y * z)) a ∙ ap (λ h. ((32 * c) * (p * p)) * (h * z)) b ∙ ap (λ h. ((32 * c) * (p * p)) * ((q * q) * h)) d)
      where
        ring : c * (32 * (n * ((n * (p * q)) * (n * (p * q))))) ≡ ((32 * c) * (p * p)) * ((q * q) * ((n * n) * n))
        ring = omega arith

pub within_formula : (c b k e m w : ℕ) → b ≤ (k + e + 1) * (m + w) → c * sum_by b k e m w ≤ quiet_bound c m w k e
within_formula c b k e m w l =
    subst (λ x. c * sum_by b k e m w ≤ x) (is_formula c (k + e + 1) (m + 1) (w + 1))
    (mul-le-mul (le_refl c) (chain _ _ _ _ (fewer b k e m w (k + e) ((k + e + 1) * (m + w)) refl l refl) (within_square (k + e) ((k + e + 1) * (m + w))) (mul-le-mul (le_refl 32) (mul-le-mul (le_refl (k + e + 1)) (mul-le-mul wide wide)))))
  where
    wide : (k + e + 1) * (m + w) + (k + e + 1) ≤ (k + e + 1) * ((m + 1) * (w + 1))
    wide = wider (k + e) m w

    chain : (x y z u : ℕ) → x ≤ y → y ≤ z → z ≤ u → x ≤ u
    chain x y z u p q r = omega arith
