-- A divisor of 0 leaves nothing, and any other something.
use Rattle.std.proofs.Common.{◌≡◌, ◌≢◌, ℕ, zero, suc, ◌<◌, cond, Bool, true, false, List, get_or, ap, refl, ◌∙◌, arith, ℤ, pos, negsuc, Some, None}
use Rattle.std.specs.Prelude.{Option, IfSome}
use Rattle.nd_grid.specs.Operation.{apply}
use Rattle.nd_grid.specs.declared.operation.Binary.TheVariants.{FloorDiv, Rem}
use Rattle.block_kernels.specs.Rows.{item, Refused}

quotient-some : (x y : ℤ) → y ≢ pos 0 → apply FloorDiv x y ≢ None
quotient-some x (pos zero) h = absurd (h refl)
quotient-some x (pos (suc n)) h = λ e. cc
quotient-some x (negsuc n) h = λ e. cc

remainder-some : (x y : ℤ) → y ≢ pos 0 → apply Rem x y ≢ None
remainder-some x (pos zero) h = absurd (h refl)
remainder-some x (pos (suc n)) h = λ e. cc
remainder-some x (negsuc n) h = λ e. cc

pub quotient-refused : (xs : List ℤ) (one : Bool) (ys : List ℤ) (one' : Bool) (n z : ℕ) → z < n → item ys one' z ≡ pos 0 → ((i : ℕ) → i < z → item ys one' i ≢ pos 0) → Refused FloorDiv xs one ys one' n z
quotient-refused xs one ys one' n z h e f = record {
  inside = h;
  here = ap (apply FloorDiv (item xs one z)) e;
  before = λ i b. quotient-some (item xs one i) (item ys one' i) (f i b);
}

pub remainder-refused : (xs : List ℤ) (one : Bool) (ys : List ℤ) (one' : Bool) (n z : ℕ) → z < n → item ys one' z ≡ pos 0 → ((i : ℕ) → i < z → item ys one' i ≢ pos 0) → Refused Rem xs one ys one' n z
remainder-refused xs one ys one' n z h e f = record {
  inside = h;
  here = ap (apply Rem (item xs one z)) e;
  before = λ i b. remainder-some (item xs one i) (item ys one' i) (f i b);
}

-- ---- a row of divisors, or one for all

pub some-both : {P Q S : ℕ → Type 0} → (r : Option ℕ) → IfSome r P → IfSome r Q → ((z : ℕ) → P z → Q z → S z) → IfSome r S
some-both None p q f = p
some-both (Some z) p q f = f z p q

pub none-zero : (xs : List ℤ) (one : Bool) (len count : ℕ) → count ≡ cond one 1 len → 0 < len → ((i : ℕ) → i < count → get_or xs i (pos 0) ≢ pos 0) → (i : ℕ) → i < len → item xs one i ≢ pos 0
none-zero xs true len count e some f i h = f 0 (omega (arith, e))
none-zero xs false len count e some f i h = f i (omega (arith, e))

pub count-inside : (one : Bool) (len count : ℕ) → count ≡ cond one 1 len → 0 < len → (z : ℕ) → z < count → z < len
count-inside true len count e some z h = omega (arith, e)
count-inside false len count e some z h = omega (arith, e)

pub count-zero : (xs : List ℤ) (one : Bool) (len count : ℕ) → count ≡ cond one 1 len → (z : ℕ) → z < count → get_or xs z (pos 0) ≡ pos 0 → item xs one z ≡ pos 0
count-zero xs true len count e z h q = let a : 0 ≡ z = omega (arith, e) in ap (λ k. get_or xs k (pos 0)) a ∙ q
count-zero xs false len count e z h q = q

pub count-first : (xs : List ℤ) (one : Bool) (len count : ℕ) → count ≡ cond one 1 len → (z : ℕ) → z < count → ((i : ℕ) → i < z → get_or xs i (pos 0) ≢ pos 0) → (i : ℕ) → i < z → item xs one i ≢ pos 0
count-first xs true len count e z h f i b = absurd (omega (arith, e))
count-first xs false len count e z h f i b = f i b
