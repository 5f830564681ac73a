-- Words that are empty, and the keys in those that are not.
use Rattle.std.proofs.Common.{◌≡◌, ℕ, zero, suc, ◌+◌, ◌-◌, ◌*◌, ◌/◌, ◌%◌, ◌<◌, ◌≤◌, ◌^◌, Bool, true, false, cond, eqb, not, List, length, get_or, set, Option, Some, None, refl, sym, subst, ap, ◌∙◌, arith, ⊎_elim}
use Rattle.std.proofs.lemmas.Bool.Decides.{nat_tests}
use Rattle.std.proofs.lemmas.Bool.{cases_lt}
use Rattle.std.proofs.lemmas.Grind.{elements}
use Rattle.std.proofs.lemmas.List.{get_or_past}
use Rattle.std.proofs.lemmas.Nat.{le-div, div_below}
use Rattle.key_sets.specs.Sets.{bit, has, IsFirst, IsLast}
use Rattle.key_sets.specs.Marked.{is_full}
use Rattle.key_sets.proofs.SetLemmas.{bit_none, first_found, last_found}

-- a word that is not full is empty
empty_is : (n : ℕ) → not (eqb n 0) ≡ false → ◌≡◌ {A = ℕ} n 0
empty_is zero e = refl
empty_is (suc n) e = grind (arith, nat_tests)

pub has_in_empty : (ws : List ℕ) (k : ℕ) → is_full ws (k / 64) ≡ false → has ws k ≡ false
unfolding has
has_in_empty ws k e = ap (λ m. bit m (k % 64)) (empty_is (get_or ws (k / 64) 0) e) ∙ bit_none (k % 64)

-- a full word is one of the words, and more than 0
pub full_there : (ws : List ℕ) (w : ℕ) → is_full ws w ≡ true → w < length ws
full_there ws w e = ⊎_elim (λ a. a) (λ a. grind (arith, nat_tests, get_or_past ws w 0 a)) (cases_lt w (length ws))

pub full_some : (n : ℕ) → not (eqb n 0) ≡ true → 0 < n
full_some zero e = grind (arith, nat_tests)
full_some (suc n) e = omega arith

-- the first key in the first full word
pub first_by_word : (ws : List ℕ) (a w r : ℕ) → IsFirst (is_full ws) a (Some w) → r < 64 → IsFirst (bit (get_or ws w 0)) 0 (Some r) → IsFirst (has ws) (a * 64) (Some (w * 64 + r))
first_by_word ws a w r f l h = first_found ws a w r f.0 (λ k b c. has_in_empty ws k (f.2 (k / 64) (le-div a k 64 (omega arith) b) (div_below k 64 w (omega arith) c))) l h

pub none_by_word : (ws : List ℕ) (a : ℕ) → IsFirst (is_full ws) a None → IsFirst (has ws) (a * 64) None
none_by_word ws a f k b = has_in_empty ws k (f (k / 64) (le-div a k 64 (omega arith) b))

later : (w k : ℕ) → (w + 1) * 64 ≤ k → w < k / 64
later w k b = let e = le-div (w + 1) k 64 (omega arith) b in omega (arith, e)

-- the last key in the last full word
pub last_by_word : (ws : List ℕ) (e w r : ℕ) → IsLast (is_full ws) e (Some w) → IsLast (bit (get_or ws w 0)) 64 (Some r) → IsLast (has ws) (e * 64) (Some (w * 64 + r))
last_by_word ws e w r f h =
    let low : w < e = f.0 in
    last_found ws e w (e - 1 - w) r (omega (arith, low)) (λ k b c. has_in_empty ws k (f.2 (k / 64) (later w k (omega (arith, low, b))) (div_below k 64 e (omega arith) c))) h

pub none_last_by_word : (ws : List ℕ) (e : ℕ) → IsLast (is_full ws) e None → IsLast (has ws) (e * 64) None
none_last_by_word ws e f k b = has_in_empty ws k (f (k / 64) (div_below k 64 e (omega arith) b))

-- where no word is full there is no key
pub has_nowhere : (ws : List ℕ) → ((w : ℕ) → is_full ws w ≡ false) → (k : ℕ) → has ws k ≡ false
has_nowhere ws f k = has_in_empty ws k (f (k / 64))

-- the marks after one word is another
pub marks-set : (ws : List ℕ) (w n v : ℕ) → w < length ws → is_full (set ws w n) v ≡ cond (eqb v w) (not (eqb n 0)) (is_full ws v)
marks-set ws w n v l = pick (eqb v w) refl
  where
    pick : (t : Bool) → eqb v w ≡ t → is_full (set ws w n) v ≡ cond t (not (eqb n 0)) (is_full ws v)
    pick true e = ap (λ (m : ℕ). not (eqb m 0)) (there ws w v n l e)
      where
        there : (xs : List ℕ) (i j m : ℕ) → i < length xs → eqb j i ≡ true → get_or (set xs i m) j 0 ≡ m
        there xs i j m a q = grind (arith, nat_tests, elements)
    pick false e = ap (λ (m : ℕ). not (eqb m 0)) (elsewhere ws w v n l e)
      where
        elsewhere : (xs : List ℕ) (i j m : ℕ) → i < length xs → eqb j i ≡ false → get_or (set xs i m) j 0 ≡ get_or xs j 0
        elsewhere xs i j m a q = grind (arith, nat_tests, elements)

pub few_words : (ws full : List ℕ) (a w : ℕ) (o : Option ℕ) → length ws ≤ 2 ^ 20 → ((v : ℕ) → has full v ≡ is_full ws v) → IsFirst (has full) a o → o ≡ Some w → w < 2 ^ 20
few_words ws full a w o l m h e =
    let f : IsFirst (has full) a (Some w) = subst (λ (x : Option ℕ). IsFirst (has full) a x) e h in
    let low = full_there ws w (sym (m w) ∙ f.1) in
    omega (arith, low, l)

-- no word is full where the first is none and those before are empty
pub none_full : (p : ℕ → Bool) (a : ℕ) → ((k : ℕ) → a ≤ k → p k ≡ false) → ((k : ℕ) → k < a → p k ≡ false) → (k : ℕ) → p k ≡ false
none_full p a h d k = ⊎_elim (λ m. d k m) (λ m. h k m) (cases_lt k a)
