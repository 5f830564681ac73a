-- The number of elements, one length after another, and held to a limit.
use Rattle.std.proofs.Common.{◌≡◌, ℕ, zero, suc, ◌+◌, ◌<◌, ◌≤◌, ◌*◌, min, List, [], ◌∷◌, ◌++◌, length, get_or, take, refl, ap, sym, ◌∙◌, arith, inl, inr}
use Rattle.std.proofs.lemmas.List.{take_more}
use Rattle.std.proofs.lemmas.Bool.{cases_lt}
use Rattle.nd_shape.specs.Shape.{elements}

pub elements-push : (xs : List ℕ) (x : ℕ) → elements (xs ++ x ∷ []) ≡ elements xs * x
elements-push [] x = omega arith
elements-push (n ∷ xs) x = ap (λ k. n * k) (elements-push xs x) ∙ omega arith

times-ge : (m p k : ℕ) → 1 ≤ k → m ≤ p → m ≤ p * k
times-ge m p zero h b = absurd (omega arith)
times-ge m p (suc k) h b = omega arith

pub both_held : (m p q : ℕ) → m ≤ p → m ≤ q → min p m ≡ min q m
both_held m p q h b = omega arith

-- the right factor is held
held_right : (m a x : ℕ) → m ≤ x → min (a * m) m ≡ min (a * x) m
held_right m zero x h = omega arith
held_right m (suc a) x h = both_held m (suc a * m) (suc a * x) (omega arith) (times-ge-left m x a h)
  where
    times-ge-left : (m x a : ℕ) → m ≤ x → m ≤ suc a * x
    times-ge-left m x a h = omega arith

-- the left factor is held
held_left : (m a x : ℕ) → 1 ≤ m → m ≤ a → min (m * min x m) m ≡ min (a * x) m
held_left m a zero h b = let z : min 0 m ≡ 0 = omega arith in rw z (omega arith)
held_left m a (suc x) h b =
    let one : 1 ≤ min (suc x) m = omega arith in
    both_held m (m * min (suc x) m) (a * suc x) (times-ge m m (min (suc x) m) one (omega arith)) (times-ge m a (suc x) (omega arith) b)

-- a product of numbers that are held to a limit, held to it
held_product : (m a x : ℕ) → 1 ≤ m → min (min a m * min x m) m ≡ min (a * x) m
held_product m a x h = elim (cases_lt a m) [
  | inl b ↦ let ea : min a m ≡ a = omega arith in
      elim (cases_lt x m) [
        | inl d ↦ let ex : min x m ≡ x = omega arith in rw (ea, ex) refl
        | inr d ↦ let ex : min x m ≡ m = omega arith in rw (ea, ex) (held_right m a x d)
      ]
  | inr b ↦ let ea : min a m ≡ m = omega arith in rw ea (held_left m a x h b)
]

pub elements-more : (m : ℕ) (xs : List ℕ) (i : ℕ) → 1 ≤ m → i < length xs → min (min (elements (take i xs)) m * min (get_or xs i 0) m) m ≡ min (elements (take (i + 1) xs)) m
elements-more m xs i h b =
    held_product m (elements (take i xs)) (get_or xs i 0) h
    ∙ ap (λ k. min k m) (sym (ap elements (take_more xs i 0 b) ∙ elements-push (take i xs) (get_or xs i 0)))
