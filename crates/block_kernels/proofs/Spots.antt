-- Places at equal distances, upwards and downwards.
use Rattle.std.proofs.Common.{◌≡◌, ℕ, ◌+◌, ◌-◌, ◌*◌, ◌<◌, ◌≤◌, ap, sym, subst, ◌∙◌, arith}
use Rattle.block_kernels.specs.Gathers.{IsSpot, IsRow}

down-by : (first second k i p : ℕ) → second + k ≡ first → IsSpot first second i p → p + i * k ≡ first
down-by first second k i p e s = let m : i * (second + k) ≡ i * first = ap (λ x. i * x) e in omega (arith, m, s)

up-by : (first second k i p : ℕ) → first + k ≡ second → IsSpot first second i p → p ≡ first + i * k
up-by first second k i p e s = let m : i * (first + k) ≡ i * second = ap (λ x. i * x) e in omega (arith, m, s)

pub down-spot : (first second i p : ℕ) → second < first → IsSpot first second i p → p + i * (first - second) ≡ first
down-spot first second i p h s = down-by first second (first - second) i p (omega arith) s

pub up-spot : (first second i p : ℕ) → first ≤ second → IsSpot first second i p → p ≡ first + i * (second - first)
up-spot first second i p h s = up-by first second (second - first) i p (omega arith) s

minus-of : (a b c : ℕ) → a + b ≡ c → c - b ≡ a
minus-of a b c e = omega (arith, e)

pub down-place : (first second i p : ℕ) → second < first → IsSpot first second i p → first - i * (first - second) ≡ p
down-place first second i p h s = minus-of p (i * (first - second)) first (down-spot first second i p h s)

under-of : (a b c : ℕ) → a + b ≡ c → b ≤ c
under-of a b c e = omega (arith, e)

pub down-below : (first second i p : ℕ) → second < first → IsSpot first second i p → i * (first - second) ≤ first
down-below first second i p h s = under-of p (i * (first - second)) first (down-spot first second i p h s)

-- ---- from an element of the row on

pub down-shift : (first jump from i : ℕ) → (from + i) * jump ≤ first → i * jump ≤ first - from * jump
down-shift first jump from i h = omega (arith, h)

pub down-twice : (first jump from i : ℕ) → (first - from * jump) - i * jump ≡ first - (from + i) * jump
down-twice first jump from i = omega arith

pub up-twice : (first jump from i : ℕ) → (first + from * jump) + i * jump ≡ first + (from + i) * jump
up-twice first jump from i = omega arith

pub next-spot : (first second i p : ℕ) → second ≡ first + 1 → IsSpot first second i p → p ≡ first + i
next-spot first second i p e s = let u : p ≡ first + i * 1 = up-by first second 1 i p (sym e) s in omega (arith, u)

-- two of one number are the same
pub same-spot : (first second i p q : ℕ) → IsSpot first second i p → IsSpot first second i q → p ≡ q
same-spot first second i p q a b = omega (arith, a, b)

-- the first place of a row lies in the operand
pub first-below : (len first second n : ℕ) → IsRow len first second n → 0 < n → first < len
first-below len first second n row some = let s : row.place 0 + 0 * first ≡ first + 0 * second = row.spot 0 some in omega (arith, row.below 0 some, s)

-- the element i of those from one on, upwards
pub up-from : (len first second from i n : ℕ) → first ≤ second → IsRow len first second n → from + i < n → (first + from * (second - first)) + i * (second - first) < len
up-from len first second from i n h row b =
    let e : row.place (from + i) ≡ first + (from + i) * (second - first) = up-spot first second (from + i) (row.place (from + i)) h (row.spot (from + i) b) in
    subst (λ p. p < len) (e ∙ sym (up-twice first (second - first) from i)) (row.below (from + i) b)

-- where they begin
pub up-begin : (len first second from n : ℕ) → first ≤ second → IsRow len first second n → from < n → first + from * (second - first) < len
up-begin len first second from n h row b = subst (λ p. p < len) (up-spot first second from (row.place from) h (row.spot from b)) (row.below from b)

-- and downwards
pub down-from : (len first second from i n : ℕ) → second < first → IsRow len first second n → from + i < n → i * (first - second) ≤ first - from * (first - second)
down-from len first second from i n h row b = down-shift first (first - second) from i (down-below first second (from + i) (row.place (from + i)) h (row.spot (from + i) b))

pub down-begin : (len first second from n : ℕ) → second < first → IsRow len first second n → from < n → first - from * (first - second) < len
down-begin len first second from n h row b = subst (λ p. p < len) (sym (down-place first second from (row.place from) h (row.spot from b))) (row.below from b)
