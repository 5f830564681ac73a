-- What a write to a part of a list leaves, and one more element of a row.
use Rattle.std.proofs.Common.{◌≡◌, ℕ, ◌+◌, ◌<◌, ◌≤◌, List, ◌++◌, length, get_or, set, take, ap, sym, ◌∙◌, arith, ℤ, pos, Some, inl, inr}
use Rattle.std.specs.Prelude.{Option}
use Rattle.std.proofs.lemmas.Bool.{cases_lt}
use Rattle.std.proofs.lemmas.List.{get_or_append_left, get_or-append-add, get_or-take, get_or-set_same, get_or-set_other, length-take-le, take_at}
use borrow.Rule.Slice.PartMut.{put_mid}

pub put-before : (a k : ℕ) (xs ys : List ℤ) (p : ℕ) → a ≤ length xs → p < a → get_or (put_mid a k xs ys) p (pos 0) ≡ get_or xs p (pos 0)
put-before a k xs ys p h b =
    let l : length (take a xs) ≡ a = length-take-le a xs h in
    get_or_append_left (take a xs) _ (pos 0) p (omega arith) ∙ get_or-take a xs p (pos 0) b

pub put-inside : (a k : ℕ) (xs ys : List ℤ) (r : ℕ) → a ≤ length xs → r < length ys → get_or (put_mid a k xs ys) (a + r) (pos 0) ≡ get_or ys r (pos 0)
put-inside a k xs ys r h b =
    let l : length (take a xs) ≡ a = length-take-le a xs h in
    ap (λ n. get_or (put_mid a k xs ys) (n + r) (pos 0)) (sym l)
    ∙ get_or-append-add (take a xs) _ r (pos 0)
    ∙ get_or_append_left ys _ (pos 0) r b

-- one element more
pub more : (f : ℕ → Option ℤ) (xs : List ℤ) (i : ℕ) (x : ℤ) → i < length xs → ((k : ℕ) → k < i → f k ≡ Some (get_or xs k (pos 0))) → f i ≡ Some x → (k : ℕ) → k < i + 1 → f k ≡ Some (get_or (set xs i x) k (pos 0))
more f xs i x h before now k b = elim (cases_lt k i) [
  | inl low ↦ before k low ∙ ap Some (sym (get_or-set_other xs i k x (pos 0) (λ e. omega (arith, e))))
  | inr high ↦ let e : k ≡ i = omega arith in ap f e ∙ now ∙ ap Some (sym (ap (λ n. get_or (set xs i x) n (pos 0)) e ∙ get_or-set_same xs i x (pos 0) h))
]

pub take-front : (n : ℕ) (xs ys : List ℤ) → length xs ≡ n → take n (xs ++ ys) ≡ xs
take-front n xs ys e = take_at xs ys n e
