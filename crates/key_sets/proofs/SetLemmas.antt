-- Sets of keys by their words.
use Rattle.std.proofs.Common.{◌≡◌, ℕ, zero, suc, ◌+◌, ◌-◌, ◌*◌, ◌/◌, ◌%◌, ◌<◌, ◌≤◌, Bool, true, false, cond, eqb, List, length, get_or, set, Option, Some, None, refl, sym, ap, ◌∙◌, arith, ⊎_elim, replicate, not}
use Rattle.std.proofs.lemmas.Bool.Decides.{nat_tests}
use Rattle.std.proofs.lemmas.Bool.{cases_lt, eqb-true}
use Rattle.std.proofs.lemmas.Grind.{elements}
use Rattle.std.proofs.lemmas.List.{get_or_past}
use Rattle.std.proofs.lemmas.Nat.{div-mul-add, mod-mul-add, div-add-mod', mod_below, le-div, div_below}
use Rattle.std.proofs.lemmas.Nat.Bits.{bit_at-zero}
use Rattle.key_sets.specs.Sets.{bit, has, IsFirst, IsLast}

-- the test of a key by its word and its place there
pub has-at : (ws : List ℕ) (w p : ℕ) → p < 64 → has ws (w * 64 + p) ≡ bit (get_or ws w 0) p
unfolding has
has-at ws w p l = ap (λ q. bit (get_or ws q 0) ((w * 64 + p) % 64)) (div-mul-add w 64 p l) ∙ ap (bit (get_or ws w 0)) (mod-mul-add w 64 p l)

apart_at : (w k : ℕ) → w * 64 ≤ k → w * 64 + (k - w * 64) ≡ k
apart_at w k l = omega arith

pub has-in : (ws : List ℕ) (w k : ℕ) → w * 64 ≤ k → k < w * 64 + 64 → has ws k ≡ bit (get_or ws w 0) (k - w * 64)
has-in ws w k l m = ap (has ws) (sym (apart_at w k l)) ∙ has-at ws w (k - w * 64) (omega arith)

pub bit_none : (i : ℕ) → bit 0 i ≡ false
bit_none i = ap (λ b. eqb b 1) (bit_at-zero i)

-- past the last word there is no key
pub has-past : (ws : List ℕ) (k : ℕ) → length ws * 64 ≤ k → has ws k ≡ false
unfolding has
has-past ws k l = ap (λ n. bit n (k % 64)) (get_or_past ws (k / 64) 0 (le-div (length ws) k 64 (omega arith) l)) ∙ bit_none (k % 64)

-- the first key in one word
pub first_there : (ws : List ℕ) (w p r : ℕ) → r < 64 → IsFirst (bit (get_or ws w 0)) p (Some r) → IsFirst (has ws) (w * 64 + p) (Some (w * 64 + r))
first_there ws w p r l h = (
  omega (arith, h.0),
  has-at ws w r l ∙ h.1,
  λ k a b. has-in ws w k (omega arith) (omega arith) ∙ h.2 (k - w * 64) (omega arith) (omega arith),
)

-- no key in one word, and then on from the next
pub first_later : (ws : List ℕ) (w p : ℕ) (o : Option ℕ) → p < 64 → IsFirst (bit (get_or ws w 0)) p None → IsFirst (has ws) ((w + 1) * 64) o → IsFirst (has ws) (w * 64 + p) o
first_later ws w p None l h i = λ k a. ⊎_elim (λ b. has-in ws w k (omega arith) (omega arith) ∙ h (k - w * 64) (omega arith)) (λ b. i k b) (cases_lt k ((w + 1) * 64))
first_later ws w p (Some r) l h i = (
  omega (arith, i.0),
  i.1,
  λ k a b. ⊎_elim (λ c. has-in ws w k (omega arith) (omega arith) ∙ h (k - w * 64) (omega arith)) (λ c. i.2 k c b) (cases_lt k ((w + 1) * 64)),
)

-- the key's own place
pub its_place : (k : ℕ) → k / 64 * 64 + k % 64 ≡ k
its_place k = div-add-mod' k 64

pub its_bit : (k : ℕ) → k % 64 < 64
its_bit k = mod_below k 64 (omega arith)

pub last_there : (ws : List ℕ) (w p r : ℕ) → p ≤ 64 → IsLast (bit (get_or ws w 0)) p (Some r) → IsLast (has ws) (w * 64 + p) (Some (w * 64 + r))
last_there ws w p r l h =
    let low : r < p = h.0 in (
      omega arith,
      has-at ws w r (omega arith) ∙ h.1,
      λ k a b. has-in ws w k (omega arith) (omega arith) ∙ h.2 (k - w * 64) (omega arith) (omega arith),
    )

pub last_sooner : (ws : List ℕ) (w p : ℕ) (o : Option ℕ) → p ≤ 64 → IsLast (bit (get_or ws w 0)) p None → IsLast (has ws) (w * 64) o → IsLast (has ws) (w * 64 + p) o
last_sooner ws w p None l h i = λ k a. ⊎_elim (λ b. i k b) (λ b. has-in ws w k b (omega arith) ∙ h (k - w * 64) (omega arith)) (cases_lt k (w * 64))
last_sooner ws w p (Some r) l h i =
    let low : r < w * 64 = i.0 in (
      omega arith,
      i.1,
      λ k a b. ⊎_elim (λ c. i.2 k a c) (λ c. has-in ws w k c (omega arith) ∙ h (k - w * 64) (omega arith)) (cases_lt k (w * 64)),
    )

-- numbers by their words and places
differ : (a b c d m n : ℕ) → a * 64 + b ≡ m → c * 64 + d ≡ n → b < 64 → d < 64 → eqb a c ≡ false → eqb m n ≡ false
differ a b c d m n e f g i q = grind (arith, nat_tests)

same : (a b c d m n : ℕ) → a * 64 + b ≡ m → c * 64 + d ≡ n → b < 64 → d < 64 → eqb a c ≡ true → eqb m n ≡ eqb b d
same a b c d m n e f g i q = grind (arith, nat_tests)

-- one word is another
pub has-set : (ws : List ℕ) (key n k : ℕ) (to : Bool) → key < length ws * 64 → ((i : ℕ) → i < 64 → bit n i ≡ cond (eqb i (key % 64)) to (bit (get_or ws (key / 64) 0) i)) → has (set ws (key / 64) n) k ≡ cond (eqb k key) to (has ws k)
unfolding has
has-set ws key n k to l h = pick (eqb (k / 64) (key / 64)) refl
  where
    there : (xs : List ℕ) (i j m : ℕ) → i < length xs → eqb j i ≡ true → get_or (set xs i m) j 0 ≡ m
    there xs i j m a e = grind (arith, nat_tests, elements)

    elsewhere : (xs : List ℕ) (i j m : ℕ) → i < length xs → eqb j i ≡ false → get_or (set xs i m) j 0 ≡ get_or xs j 0
    elsewhere xs i j m a e = grind (arith, nat_tests, elements)

    low : key / 64 < length ws
    low = div_below key 64 (length ws) (omega arith) l

    pick : (t : Bool) → eqb (k / 64) (key / 64) ≡ t → bit (get_or (set ws (key / 64) n) (k / 64) 0) (k % 64) ≡ cond (eqb k key) to (bit (get_or ws (k / 64) 0) (k % 64))
    pick true e = ap (λ m. bit m (k % 64)) (there ws (key / 64) (k / 64) n low e) ∙ h (k % 64) (its_bit k)
        ∙ ap (λ b. cond b to (bit (get_or ws (key / 64) 0) (k % 64))) (sym (same (k / 64) (k % 64) (key / 64) (key % 64) k key (its_place k) (its_place key) (its_bit k) (its_bit key) e))
        ∙ ap (λ q. cond (eqb k key) to (bit (get_or ws q 0) (k % 64))) (sym (eqb-true (k / 64) (key / 64) e))
    pick false e = ap (λ m. bit m (k % 64)) (elsewhere ws (key / 64) (k / 64) n low e)
        ∙ ap (λ b. cond b to (bit (get_or ws (k / 64) 0) (k % 64))) (sym (differ (k / 64) (k % 64) (key / 64) (key % 64) k key (its_place k) (its_place key) (its_bit k) (its_bit key) e))

-- the first key after some words without one
pub first_found : (ws : List ℕ) (a w r : ℕ) → a ≤ w → ((k : ℕ) → a * 64 ≤ k → k < w * 64 → has ws k ≡ false) → r < 64 → IsFirst (bit (get_or ws w 0)) 0 (Some r) → IsFirst (has ws) (a * 64) (Some (w * 64 + r))
first_found ws a w r l none m h =
    let t = first_there ws w 0 r m h in
    (omega arith, t.1, λ k b e. ⊎_elim (λ c. none k b c) (λ c. t.2 k (omega arith) e) (cases_lt k (w * 64)))

pub first_missed : (ws : List ℕ) (a w : ℕ) → ((k : ℕ) → a * 64 ≤ k → k < w * 64 → has ws k ≡ false) → IsFirst (bit (get_or ws w 0)) 0 None → (k : ℕ) → a * 64 ≤ k → k < (w + 1) * 64 → has ws k ≡ false
first_missed ws a w none h k b e = ⊎_elim (λ c. none k b c) (λ c. has-in ws w k c (omega arith) ∙ h (k - w * 64) (omega arith)) (cases_lt k (w * 64))

pub first_nowhere : (ws : List ℕ) (a w : ℕ) → ((k : ℕ) → a * 64 ≤ k → k < w * 64 → has ws k ≡ false) → (length ws ≤ w) → IsFirst (has ws) (a * 64) None
first_nowhere ws a w none l k b = ⊎_elim (λ c. none k b c) (λ c. has-past ws k (omega arith)) (cases_lt k (w * 64))

pub last_found : (ws : List ℕ) (e w d r : ℕ) → w + d + 1 ≡ e → ((k : ℕ) → (e - d) * 64 ≤ k → k < e * 64 → has ws k ≡ false) → IsLast (bit (get_or ws w 0)) 64 (Some r) → IsLast (has ws) (e * 64) (Some (w * 64 + r))
last_found ws e w d r q none h =
    let t = last_there ws w 64 r (omega arith) h in
    let low : r < 64 = h.0 in
    (omega arith, t.1, λ k b c. ⊎_elim (λ i. t.2 k b (omega arith)) (λ i. none k (omega arith) c) (cases_lt k ((w + 1) * 64)))

pub last_missed : (ws : List ℕ) (e w d : ℕ) → w + d + 1 ≡ e → ((k : ℕ) → (e - d) * 64 ≤ k → k < e * 64 → has ws k ≡ false) → IsLast (bit (get_or ws w 0)) 64 None → (k : ℕ) → (e - (d + 1)) * 64 ≤ k → k < e * 64 → has ws k ≡ false
last_missed ws e w d q none h k b c = ⊎_elim (λ i. has-in ws w k (omega arith) (omega arith) ∙ h (k - w * 64) (omega arith)) (λ i. none k (omega arith) c) (cases_lt k ((w + 1) * 64))

pub key_past : (ws : List ℕ) (k : ℕ) → length ws ≤ k / 64 → length ws * 64 ≤ k
key_past ws k l = let e = its_place k in omega arith

zeros : (n i : ℕ) → ◌≡◌ {A = ℕ} (get_or (replicate n 0) i 0) 0
zeros zero i = refl
zeros (suc n) zero = refl
zeros (suc n) (suc i) = zeros n i

pub has-zeros : (n k : ℕ) → has (replicate n 0) k ≡ false
unfolding has
has-zeros n k = ap (λ m. bit m (k % 64)) (zeros n (k / 64)) ∙ bit_none (k % 64)

-- past the last word the last key is the last of all
pub last_past : (ws : List ℕ) (key : ℕ) (o : Option ℕ) → length ws * 64 ≤ key → IsLast (has ws) (length ws * 64) o → IsLast (has ws) key o
last_past ws key None l h = λ k a. ⊎_elim (λ b. h k b) (λ b. has-past ws k b) (cases_lt k (length ws * 64))
last_past ws key (Some r) l h =
    let low : r < length ws * 64 = h.0 in
    (omega arith, h.1, λ k a b. ⊎_elim (λ c. h.2 k a c) (λ c. has-past ws k c) (cases_lt k (length ws * 64)))

-- a key that changes sides
pub toggled : (p q : ℕ → Bool) (key : ℕ) (b : Bool) → p key ≡ b → ((k : ℕ) → q k ≡ cond (eqb k key) (not b) (p k)) → (k : ℕ) → q k ≡ cond (eqb k key) (not (p k)) (p k)
toggled p q key b e h k = h k ∙ pick (eqb k key) refl
  where
    pick : (t : Bool) → eqb k key ≡ t → cond t (not b) (p k) ≡ cond t (not (p k)) (p k)
    pick true i = ap not (sym e ∙ ap p (sym (eqb-true k key i)))
    pick false i = refl

-- words of zeros have no key
pub has-none : (ws : List ℕ) (n k : ℕ) → length ws ≤ n → ((w : ℕ) → w < n → ◌≡◌ {A = ℕ} (get_or ws w 0) 0) → has ws k ≡ false
unfolding has
has-none ws n k l h = ap (λ m. bit m (k % 64)) (⊎_elim (λ a. h (k / 64) a) (λ a. get_or_past ws (k / 64) 0 (omega arith)) (cases_lt (k / 64) n)) ∙ bit_none (k % 64)

-- from a place past the last word back to its own word there is no key
pub last_beyond : (ws : List ℕ) (key : ℕ) (o : Option ℕ) → length ws ≤ key / 64 → IsLast (has ws) (key / 64 * 64) o → IsLast (has ws) key o
last_beyond ws key None l h = λ k a. ⊎_elim (λ b. h k b) (λ b. has-past ws k (omega arith)) (cases_lt k (key / 64 * 64))
last_beyond ws key (Some r) l h =
    let low : r < key / 64 * 64 = h.0 in
    let e = its_place key in
    (omega (arith, low, e), h.1, λ k a b. ⊎_elim (λ c. h.2 k a c) (λ c. has-past ws k (omega arith)) (cases_lt k (key / 64 * 64)))
