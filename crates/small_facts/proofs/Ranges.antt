-- Facts about lists of numbers in a row that std lacks.
use Rattle.std.proofs.Common.{⊎_elim, [], ◌≡◌, ℕ, zero, suc, ◌+◌, ◌∷◌, refl, ap, ◌∙◌, arith, zero-add, add-zero, suc-add, ◌++◌, sym, ◌<◌, map, ℤ, pos, Some, ◌≤◌, Bool, false, cond, None}
use Rattle.std.proofs.lemmas.Bool.{cases_eq}
use Rattle.std.proofs.lemmas.List.{map-id}
use Rattle.std.proofs.lemmas.List.FromFn.{map-range_with_len_more, fill_by_all, get_or-map-range_with_len, length-map-range_with_len}
use Rattle.std.specs.List.{range_with_len, AllByRecursion, find}
use Rattle.std.specs.Prelude.{Contains, Option}

pub range_parts : (a m n : ℕ) → range_with_len a (m + n) ≡ range_with_len a m ++ range_with_len (a + m) n
range_parts a zero n = rw (zero-add, add-zero) refl
range_parts a (suc m) n = rw suc-add (ap (λ xs. a ∷ xs) (range_parts (a + 1) m n ∙ ap (λ b. range_with_len (a + 1) m ++ range_with_len b n) (regroup a m)))
  where
    regroup : (a m : ℕ) → (a + 1) + m ≡ a + suc m
    regroup a m = omega arith

pub range_push : (a n : ℕ) → range_with_len a (n + 1) ≡ range_with_len a n ++ (a + n) ∷ []
range_push a n =
    sym (map-id (range_with_len a (n + 1))) ∙ map-range_with_len_more (λ k. k) a n (a + n) refl ∙ ap (λ ks. ks ++ (a + n) ∷ []) (map-id (range_with_len a n))

pub range_suc : (a n : ℕ) → range_with_len a (suc n) ≡ range_with_len a n ++ (a + n) ∷ []
range_suc a zero = ap (λ k. k ∷ []) (sym (add-zero a))
range_suc a (suc n) =
    let q : (a + 1) + n ≡ a + suc n = omega arith in
    ap (λ xs. a ∷ xs) (range_suc (a + 1) n ∙ ap (λ k. range_with_len (a + 1) n ++ k ∷ []) q)

pub map_range_same : (f g : ℕ → Option ℤ) (n : ℕ) → ((k : ℕ) → k < n → f k ≡ g k) → map f (range_with_len 0 n) ≡ map g (range_with_len 0 n)
map_range_same f g n e =
    fill_by_all g (map f (range_with_len 0 n)) n (Some (pos 0)) (length-map-range_with_len f 0 n) (λ k h. get_or-map-range_with_len f 0 n k k (Some (pos 0)) h (omega arith) ∙ e k h)

pub range_all_below : (a n m : ℕ) → a + n ≤ m → AllByRecursion (λ k. k < m) (range_with_len a n)
range_all_below a zero m h = tt
range_all_below a (suc n) m h = (omega arith, range_all_below (a + 1) n m (omega arith))

pub find_range_none : (p : ℕ → Bool) (a n : ℕ) → ((j : ℕ) → a ≤ j → j < a + n → p j ≡ false) → find p (range_with_len a n) ≡ None
find_range_none p a zero h = refl
find_range_none p a (suc n) h = ap (λ b. cond b (Some a) (find p (range_with_len (a + 1) n))) (h a (omega arith) (omega arith)) ∙ find_range_none p (a + 1) n (λ j i o. h j (omega arith) (omega arith))

pub range_upto : (n : ℕ) → range_with_len 0 (n + 1) ≡ range_with_len 0 n ++ n ∷ []
range_upto n = let z : 0 + n ≡ n = omega arith in range_push 0 n ∙ ap (λ m. range_with_len 0 n ++ m ∷ []) z

pub range_has : (a n k : ℕ) → a ≤ k → k < a + n → Contains (range_with_len a n) k
range_has a zero k h l = absurd (omega arith)
range_has a (suc n) k h l = ⊎_elim (λ e. (0, omega arith, e)) (λ d. later (range_has (a + 1) n k (omega arith) (omega arith))) (cases_eq a k)
  where
    later : Contains (range_with_len (a + 1) n) k → Contains (range_with_len a (suc n)) k
    later c = (suc c.0, omega (arith, c.1), c.2)
