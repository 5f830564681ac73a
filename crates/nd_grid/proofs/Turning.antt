-- Indexes of transposes and of parts.
use Rattle.std.proofs.Common.{◌≡◌, ℕ, zero, suc, ◌+◌, ◌<◌, ◌≤◌, ◌^◌, true, false, List, [], ◌∷◌, length, get_or, map, refl, ap, sym, ◌∙◌, arith, inl, inr}
use Rattle.std.specs.Prelude.{nat_eq, Contains, not, All}
use Rattle.std.specs.List.{position_or_len}
use Rattle.std.proofs.lemmas.List.{get_or-map, length-map}
use Rattle.std.proofs.lemmas.List.FromFn.{length-map-range_with_len, get_or-map-range_with_len}
use Rattle.std.proofs.lemmas.List.Sums.{prefix_len_passes, prefix_len_stops}
use Rattle.std.proofs.lemmas.Bool.{cases_lt}
use Rattle.nd_shape.specs.Index.{IsIn}
use Rattle.nd_shape.specs.Region.{Box, IsPart, moved}
use Rattle.nd_shape.proofs.Places.{IsIn-length}
use Rattle.nd_shape.proofs.Axes.{IsIn-at, IsIn-from}
use Rattle.nd_grid.specs.Grid.{turned, IsTranspose}

equal_from : (a b : ℕ) → not (nat_eq a b) ≡ false → a ≡ b
equal_from a b h = grind arith

unequal : (a b : ℕ) → not (nat_eq a b) ≡ true → a ≡ b → ⊥
unequal a b h e = grind arith

-- where a list has a number
pub position-below : (xs : List ℕ) (a : ℕ) → Contains xs a → position_or_len (nat_eq a) xs < length xs
position-below xs a c = elim (cases_lt (position_or_len (nat_eq a) xs) (length xs)) [
  | inl h ↦ h
  | inr h ↦
      let passes : not (nat_eq a (get_or xs c.0 a)) ≡ true = prefix_len_passes (λ x. not (nat_eq a x)) xs c.0 a (omega arith) in
      absurd (unequal a (get_or xs c.0 a) passes (sym c.2))
]

pub position-at : (xs : List ℕ) (a : ℕ) → Contains xs a → get_or xs (position_or_len (nat_eq a) xs) 0 ≡ a
position-at xs a c = sym (equal_from a (get_or xs (position_or_len (nat_eq a) xs) 0) (prefix_len_stops (λ x. not (nat_eq a x)) xs 0 (position-below xs a c)))

pub length-turned : (axes is : List ℕ) → length (turned axes is) ≡ length axes
length-turned axes is = length-map-range_with_len (λ a. get_or is (position_or_len (nat_eq a) axes) 0) 0 (length axes)

pub turned-at : (axes is : List ℕ) (a : ℕ) → a < length axes → get_or (turned axes is) a 0 ≡ get_or is (position_or_len (nat_eq a) axes) 0
turned-at axes is a h = get_or-map-range_with_len (λ a. get_or is (position_or_len (nat_eq a) axes) 0) 0 (length axes) a a 0 h (omega arith)

pub turned-in : (axes ns is : List ℕ) → IsTranspose axes (length ns) → IsIn (map (λ a. get_or ns a 0) axes) is → IsIn ns (turned axes is)
turned-in axes ns is t h = IsIn-from ns (turned axes is) (length-turned axes is ∙ t.number) (λ a b.
    let p : ℕ = position_or_len (nat_eq a) axes in
    let pb : position_or_len (nat_eq a) axes < length axes = position-below axes a (t.each a b) in
    let ha : a < length axes = omega (arith, t.number) in
    let hp : position_or_len (nat_eq a) axes < length (map (λ a. get_or ns a 0) axes) = omega (arith, length-map axes (λ a. get_or ns a 0)) in
    let lt : get_or is (position_or_len (nat_eq a) axes) 0 < get_or (map (λ a. get_or ns a 0) axes) (position_or_len (nat_eq a) axes) 0 = IsIn-at (map (λ a. get_or ns a 0) axes) is (position_or_len (nat_eq a) axes) h hp in
    let there : get_or (map (λ a. get_or ns a 0) axes) (position_or_len (nat_eq a) axes) 0 ≡ get_or ns a 0 =
    get_or-map (λ a. get_or ns a 0) axes (position_or_len (nat_eq a) axes) 0 0 pb ∙ ap (λ k. get_or ns k 0) (position-at axes a (t.each a b)) in
    omega (arith, turned-at axes is a ha, there, lt))

-- ---- parts

pub length-moved : (ss is : List ℕ) → length is ≡ length ss → length (moved ss is) ≡ length ss
length-moved [] is e = refl
length-moved (s ∷ ss) [] e = absurd (omega arith)
length-moved (s ∷ ss) (i ∷ is) e = ap suc (length-moved ss is (omega arith))

pub moved-at : (ss is : List ℕ) (k : ℕ) → k < length ss → k < length is → get_or (moved ss is) k 0 ≡ get_or ss k 0 + get_or is k 0
moved-at [] is k h b = absurd (omega arith)
moved-at (s ∷ ss) [] k h b = absurd (omega arith)
moved-at (s ∷ ss) (i ∷ is) zero h b = refl
moved-at (s ∷ ss) (i ∷ is) (suc k) h b = moved-at ss is k (omega arith) (omega arith)

pub moved-in : (box : Box) (ns is : List ℕ) → IsPart box ns → IsIn box.lengths is → IsIn ns (moved box.start is)
moved-in box ns is p h =
    let li : length is ≡ length box.lengths = IsIn-length box.lengths is h in
    IsIn-from ns (moved box.start is) (length-moved box.start is (omega (arith, p.starts, p.lengths, li)) ∙ p.starts) (λ k b.
    let hs : k < length box.start = omega (arith, p.starts) in
    let hi : k < length is = omega (arith, p.lengths, li) in
    let lt : get_or is k 0 < get_or box.lengths k 0 = IsIn-at box.lengths is k h (omega (arith, p.lengths)) in
    omega (arith, moved-at box.start is k hs hi, lt, p.ends k b))

-- an index of the whole fits
pub moved-small : (box : Box) (ns is : List ℕ) → IsPart box ns → All (λ n. n ≤ 2 ^ 31) ns → IsIn box.lengths is → (k : ℕ) → k < length box.start → get_or box.start k 0 + get_or is k 0 < 2 ^ 64
moved-small box ns is p small h k b =
    let hn : k < length ns = omega (arith, p.starts) in
    let lt : get_or is k 0 < get_or box.lengths k 0 = IsIn-at box.lengths is k h (omega (arith, p.lengths)) in
    omega (arith, lt, p.ends k hn, small k 0 hn)
