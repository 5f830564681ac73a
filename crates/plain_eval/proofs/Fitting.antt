-- What the nodes of an expression promise is what the formulas ask.
use Rattle.std.proofs.Common.{◌≡◌, ℕ, zero, suc, ◌+◌, ◌<◌, ◌≤◌, cond, Bool, true, false, List, [], ◌∷◌, length, get_or, Some, ap, sym, refl, ◌∙◌, arith}
use Rattle.std.specs.Prelude.{nat_eq, ◌||◌, Contains, slice_get}
use Rattle.std.specs.List.{IsDistinct, list_any}
use Rattle.std.proofs.lemmas.Map.Steps.{length-le_from_distinct_below}
use Rattle.std.proofs.lemmas.List.{get_or_default}
use Rattle.std.proofs.lemmas.Bool.{eqb-false, eqb-true}
use Rattle.small_facts.proofs.Every.{unequal_to_each}
use Rattle.small_facts.proofs.Truth.{or_first_false, or_second_false}
use Rattle.nd_shape.specs.declared.slice.Steps.{Steps}
use Rattle.nd_shape.specs.declared.slice.Part.{Part}
use Rattle.nd_shape.specs.declared.slice.Part.TheVariants.{At, Range}
use Rattle.nd_shape.specs.Slice.{StepsFitAxis, Resolves}
use Rattle.nd_grid.specs.Grid.{is_among, IsTranspose, SlicesFit}
use Rattle.array_expr.specs.Axes.{AreAxes}
use Rattle.array_expr.specs.Node.{Takes, dropped, dropped_from, is_index, part_on}
use Rattle.nd_grid.proofs.Woven.{among-contains}

-- ---- a list of all axes has each

pub axes-rest : (n x : ℕ) (xs : List ℕ) → AreAxes n (x ∷ xs) → AreAxes n xs
axes-rest n x xs a = record {
  inside = λ k h. a.inside (suc k) (omega arith);
  distinct = λ j k less h. a.distinct (suc j) (suc k) (omega arith) (omega arith);
}

pub distinct-axes : (n : ℕ) (xs : List ℕ) → AreAxes n xs → IsDistinct nat_eq xs
unfolding IsDistinct
distinct-axes n [] a = tt
distinct-axes n (x ∷ xs) a = (unequal_to_each x xs (λ c. a.distinct 0 (suc c.0) (omega arith) (omega (arith, c.1)) (sym (get_or_default xs c.0 0 x c.1 ∙ c.2))), distinct-axes n xs (axes-rest n x xs a))

distinct-more : (a : ℕ) (xs : List ℕ) → (Contains xs a → ⊥) → IsDistinct nat_eq xs → IsDistinct nat_eq (a ∷ xs)
unfolding IsDistinct
distinct-more a xs f d = (unequal_to_each a xs f, d)

pub below-all : (n : ℕ) (xs : List ℕ) → AreAxes n xs → (q : ℕ) → list_any (nat_eq q) xs ≡ true → q < n
below-all n xs a q h = let c = among-contains xs q h in omega (arith, a.inside c.0 c.1, get_or_default xs c.0 0 q c.1, c.2)

among-at : (xs : List ℕ) (k j : ℕ) → j < length xs → get_or xs j k ≡ k → is_among k xs ≡ false → ⊥
among-at [] k j h is e = absurd (omega arith)
among-at (x ∷ xs) k zero h is e = eqb-false k x (or_first_false (nat_eq k x) (is_among k xs) e) (sym is)
among-at (x ∷ xs) k (suc j) h is e = among-at xs k j (omega arith) is (or_second_false (nat_eq k x) (is_among k xs) e)

below-or : (n q k : ℕ) (axes : List ℕ) → AreAxes n axes → k < n → (t : Bool) → nat_eq q k ≡ t → (t || list_any (nat_eq q) axes) ≡ true → q < n
below-or n q k axes a b true e h = omega (arith, eqb-true q k e)
below-or n q k axes a b false e h = below-all n axes a q h

has-axis : (n : ℕ) (axes : List ℕ) → AreAxes n axes → length axes ≡ n → (k : ℕ) → k < n → (t : Bool) → is_among k axes ≡ t → Contains axes k
has-axis n axes a all k b true e = among-contains axes k e
has-axis n axes a all k b false e =
    let fresh : Contains axes k → ⊥ = λ c. among-at axes k c.0 c.1 c.2 e in
    let few : length (k ∷ axes) ≤ n = length-le_from_distinct_below (k ∷ axes) n (distinct-more k axes fresh (distinct-axes n axes a)) (λ q h. below-or n q k axes a b (nat_eq q k) refl h) in
    absurd (omega arith)

pub transposes : (n : ℕ) (axes : List ℕ) → AreAxes n axes → length axes ≡ n → IsTranspose axes n
transposes n axes a all = record { number = all; each = λ k b. has-axis n axes a all k b (is_among k axes) refl }

-- ---- slices

slices-from : (k : ℕ) (ss : List Steps) (ns gone : List ℕ) → length ss ≡ length ns
    → ((j : ℕ) (s : Steps) → slice_get ss j ≡ Some s → StepsFitAxis s (get_or ns j 0))
    → ((j : ℕ) (s : Steps) → slice_get ss j ≡ Some s → is_among (k + j) gone ≡ true → s.count ≡ 1)
    → SlicesFit k ss ns gone
slices-from k [] [] gone e f g = tt
slices-from k [] (n ∷ ns) gone e f g = absurd (omega arith)
slices-from k (s ∷ ss) [] gone e f g = absurd (omega arith)
slices-from k (s ∷ ss) (n ∷ ns) gone e f g =
    (f 0 s refl, (λ m. g 0 s refl (let z : k + 0 ≡ k = omega arith in ap (λ i. is_among i gone) z ∙ m)), slices-from (suc k) ss ns gone (omega arith) (λ j t is. f (suc j) t is) (λ j t is m. g (suc j) t is (let z : k + suc j ≡ suc k + j = omega arith in ap (λ i. is_among i gone) z ∙ m)))

above-or : (k j : ℕ) (rest : List ℕ) → (is_among j rest ≡ true → suc k ≤ j) → (t : Bool) → nat_eq j k ≡ t → (t || is_among j rest) ≡ true → k ≤ j
above-or k j rest f true e m = omega (arith, eqb-true j k e)
above-or k j rest f false e m = omega (arith, f m)

dropped-above : (k j : ℕ) (parts : List Part) → is_among j (dropped_from k parts) ≡ true → k ≤ j
dropped-above k j [] h = cc
dropped-above k j (p ∷ parts) h = by_case (is_index p) h (dropped-above (suc k) j parts)
  where
    by_case : (b : Bool) → is_among j (cond b (k ∷ dropped_from (suc k) parts) (dropped_from (suc k) parts)) ≡ true → (is_among j (dropped_from (suc k) parts) ≡ true → suc k ≤ j) → k ≤ j
    by_case true m f = above-or k j (dropped_from (suc k) parts) f (nat_eq j k) refl m
    by_case false m f = omega (arith, f m)

later-or : (k j : ℕ) (rest : List ℕ) (P : Type 0) → (is_among (k + suc j) rest ≡ true → P) → (t : Bool) → nat_eq (k + suc j) k ≡ t → (t || is_among (k + suc j) rest) ≡ true → P
later-or k j rest P f true e m = absurd (omega (arith, eqb-true (k + suc j) k e))
later-or k j rest P f false e m = f m

first-index : (k : ℕ) (rest : List ℕ) → (is_among (k + 0) rest ≡ true → suc k ≤ k + 0) → (b : Bool) → is_among (k + 0) (cond b (k ∷ rest) rest) ≡ true → b ≡ true
first-index k rest f true m = refl
first-index k rest f false m = absurd (omega (arith, f m))

later-index : (k j : ℕ) (rest : List ℕ) (P : Type 0) → (is_among (k + suc j) rest ≡ true → P) → (b : Bool) → is_among (k + suc j) (cond b (k ∷ rest) rest) ≡ true → P
later-index k j rest P f true m = later-or k j rest P f (nat_eq (k + suc j) k) refl m
later-index k j rest P f false m = f m

dropped-index : (k j : ℕ) (parts : List Part) → is_among (k + j) (dropped_from k parts) ≡ true → is_index (part_on parts j) ≡ true
dropped-index k j [] h = cc
dropped-index k zero (p ∷ parts) h = first-index k (dropped_from (suc k) parts) (dropped-above (suc k) (k + 0) parts) (is_index p) h
dropped-index k (suc j) (p ∷ parts) h =
    later-index k j (dropped_from (suc k) parts) (is_index (part_on parts j) ≡ true)
    (λ m. dropped-index (suc k) j parts (let z : k + suc j ≡ suc k + j = omega arith in ap (λ i. is_among i (dropped_from (suc k) parts)) (sym z) ∙ m))
    (is_index p) h

index-count : (n : ℕ) (part : Part) (s : Steps) → Resolves n part s → is_index part ≡ true → s.count ≡ 1
index-count n (At i) s r e = r.count_is
index-count n (Range start stop step) s r e = cc

pub takes-fit : (dims : List ℕ) (parts : List Part) (taken : List Steps) → Takes dims parts taken → SlicesFit 0 taken dims (dropped parts)
takes-fit dims parts taken t =
    slices-from 0 taken dims (dropped parts) t.axes t.first.inside (λ j s is m. index-count (get_or dims j 0) (part_on parts j) s (t.first.each j s is) (dropped-index 0 j parts m))
