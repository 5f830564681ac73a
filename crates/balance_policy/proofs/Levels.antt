-- The level is the first power of two that is enough.
use Rattle.std.proofs.Common.{◌≡◌, ℕ, ◌+◌, ◌*◌, ◌^◌, ◌<◌, ◌≤◌, add-one, arith, ⊎_elim}
use Rattle.std.proofs.lemmas.Bool.{cases_lt}
use Rattle.std.proofs.Math.Nat.{pow-suc}
use Rattle.cluster_rules.specs.Policies.{level}
use Rattle.cluster_rules.proofs.PolicyLemmas.{level_enough, level_least}

-- no smaller power is above the bytes
abbrev pub AllBelow : ℕ → ℕ → ℕ → Type 0
AllBelow bytes work n = (m : ℕ) → m < n → 2 ^ m * (work + 1) ≤ bytes

pub level-is : (bytes work n : ℕ) → bytes ≤ 2 ^ 45 → bytes < 2 ^ n * (work + 1) → AllBelow bytes work n → n ≡ level bytes work
level-is bytes work n b e h = ⊎_elim
    (λ l. absurd (omega (arith, level_least bytes work n l)))
    (λ g. ⊎_elim
    (λ m. absurd (omega (arith, h (level bytes work) m, level_enough bytes work (omega arith))))
    (λ m. omega arith)
    (cases_lt (level bytes work) n))
    (cases_lt n (level bytes work))

pub twice : (n work moved : ℕ) → moved ≡ 2 ^ n * (work + 1) → moved * 2 ≡ 2 ^ (n + 1) * (work + 1)
twice n work moved e = let p : 2 ^ (n + 1) ≡ 2 ^ n * 2 = rw (add-one, pow-suc) in rw p (again (2 ^ n) (work + 1) moved e)
  where
    again : (p w m : ℕ) → m ≡ p * w → m * 2 ≡ p * 2 * w
    again p w m h = rw h (omega arith)

pub one_more : (bytes work n moved : ℕ) → moved ≡ 2 ^ n * (work + 1) → moved ≤ bytes → AllBelow bytes work n → AllBelow bytes work (n + 1)
one_more bytes work n moved e l h m g = ⊎_elim (λ i. h m i) (λ i. let q : m ≡ n = omega arith in rw q (omega (arith, e))) (cases_lt m n)

-- some power below the 64th is enough
pub never_all : (bytes work n : ℕ) → bytes ≤ 2 ^ 45 → 64 ≤ n → AllBelow bytes work n → ⊥
never_all bytes work n b l h = let p : 2 ^ 63 * (work + 1) ≤ bytes = h 63 (omega arith) in omega arith
