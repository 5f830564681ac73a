-- Products of numbers that are held at a greatest one.
use Rattle.std.proofs.Math.Nat.{mul_comm, pow-suc, pow-zero, le-mul_of_pos_right, min-eq_left, min-eq_right, le-min, le_refl}
use Rattle.std.proofs.Common.{◌≡◌, ℕ, zero, suc, ◌*◌, ◌≤◌, ◌<◌, ◌^◌, min, sym, ap, ◌∙◌, arith, ⊎_elim}
use Rattle.std.proofs.lemmas.Bool.{cases_lt}

mul-pos : (a b : ℕ) → 1 ≤ a → 1 ≤ b → 1 ≤ a * b
mul-pos a b p q = grind arith

pow-pos : (a n : ℕ) → 1 ≤ a → 1 ≤ a ^ n
pow-pos a zero p = rw (pow-zero a) (omega arith)
pow-pos a (suc n) p = rw (pow-suc a n) (mul-pos (a ^ n) a (pow-pos a n p) p)

-- a number that is at least m stays so in a product
past : (a b m : ℕ) → m ≤ a → 1 ≤ b → m ≤ a * b
past a b m p q = let h : a ≤ a * b = le-mul_of_pos_right a q in omega (arith, h, p)

-- a product with one held factor, held, is the product, held
pub capped-left : (a b m : ℕ) → 1 ≤ b → min (min a m * b) m ≡ min (a * b) m
capped-left a b m q = ⊎_elim (λ h. small h) (λ h. large h) (cases_lt a m)
  where
    small : a < m → min (min a m * b) m ≡ min (a * b) m
    small h = ap (λ x. min (x * b) m) (min-eq_left (let e : a < m = h in omega (arith, e)))

    large : m ≤ a → min (min a m * b) m ≡ min (a * b) m
    large h = ap (λ x. min (x * b) m) (min-eq_right h) ∙ min-eq_right (past m b m (le_refl m) q) ∙ sym (min-eq_right (past a b m h q))

pub capped-right : (a b m : ℕ) → 1 ≤ a → min (a * min b m) m ≡ min (a * b) m
capped-right a b m p = ap (λ x. min x m) (mul_comm a (min b m)) ∙ capped-left b a m p ∙ ap (λ x. min x m) (mul_comm b a)

-- the same where both are held
pub capped-times : (a b m : ℕ) → 1 ≤ a → 1 ≤ b → 1 ≤ m → min (min a m * min b m) m ≡ min (a * b) m
capped-times a b m p q r = capped-left a (min b m) m (le-min q r) ∙ capped-right a b m p

pub cubed : (n : ℕ) → n ^ 2 * n ≡ n ^ 3
cubed n = sym (pow-suc n 2)

-- the whole formula, held at each step
pub bound-held : (c m w n top : ℕ) → 1 ≤ c → 1 ≤ m → 1 ≤ w → 1 ≤ n → 1 ≤ top
    → min (min ((32 * c) * min (m ^ 2) top) top * min (min (w ^ 2) top * min (n ^ 3) top) top) top ≡ min (((32 * c) * (m ^ 2)) * ((w ^ 2) * (n ^ 3))) top
bound-held c m w n top pc pm pw pn pt =
    ap (λ x. min (x * min (min (w ^ 2) top * min (n ^ 3) top) top) top) (capped-right (32 * c) (m ^ 2) top (omega (arith, pc)))
    ∙ ap (λ x. min (min ((32 * c) * (m ^ 2)) top * x) top) (capped-times (w ^ 2) (n ^ 3) top (pow-pos w 2 pw) (pow-pos n 3 pn) pt)
    ∙ capped-times ((32 * c) * (m ^ 2)) ((w ^ 2) * (n ^ 3)) top (mul-pos (32 * c) (m ^ 2) (omega (arith, pc)) (pow-pos m 2 pm)) (mul-pos (w ^ 2) (n ^ 3) (pow-pos w 2 pw) (pow-pos n 3 pn)) pt
