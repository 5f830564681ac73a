-- The loop over the operands of a concatenation.
use Rattle.std.proofs.Common.{◌≡◌, ◌≢◌, ℕ, ◌+◌, ◌-◌, ◌<◌, ◌≤◌, cond, List, [], ◌∷◌, length, drop, map, set, get_or, ap, sym, subst, refl, ◌∙◌, arith, inl, inr, get_or-set_other, length-set}
use Rattle.std.specs.Prelude.{nat_lt, ◌⊎◌}
use Rattle.std.proofs.lemmas.List.{drop_more, get_or-map, length-map}
use Rattle.std.proofs.lemmas.Bool.{cases_eq, lt-ltb, le-ltb}
use Rattle.nd_shape.specs.Index.{IsIn}
use Rattle.nd_shape.proofs.Places.{IsIn-length}
use Rattle.nd_shape.proofs.Axes.{IsIn-at, IsIn-from}
use Rattle.nd_grid.specs.Grid.{Grid, at_along, length_along, concatenated}
use Rattle.nd_grid.specs.Grid as grids
use Rattle.array_expr.specs.Elem.{Cells, array_at}
use Rattle.array_expr.specs.Node.{first_shape}
use Rattle.plain_eval.specs.Fits.{CanJoin, shapes_known}

-- what the loop has before operand k
pub record Joining (known : List Cells) (of : List ℕ) (axis : ℕ) (index own : List ℕ) (k : ℕ) : Type 0 where
  pub room : length own ≡ length index
  pub others : (j : ℕ) → j ≢ axis → get_or own j 0 ≡ get_or index j 0
  pub value : at_along axis (map (array_at known) (drop k of)) own ≡ at_along axis (map (array_at known) of) index

pub joining-first : (known : List Cells) (of : List ℕ) (axis : ℕ) (index own : List ℕ) → own ≡ index → Joining known of axis index own 0
joining-first known of axis index own e = record {
  room = ap length e;
  others = λ j ne. ap (λ xs. get_or xs j 0) e;
  value = ap (at_along axis (map (array_at known) of)) e;
}

pub first-same : (known : List Cells) (of : List ℕ) → grids.first_shape (map (array_at known) of) ≡ first_shape (shapes_known known of)
first-same known [] = refl
first-same known (n ∷ of) = refl

-- the shape of operand k
operand-is : (known : List Cells) (of : List ℕ) (k n : ℕ) → k < length of → n ≡ get_or of k n → get_or (shapes_known known of) k [] ≡ (array_at known n).shape
operand-is known of k n h is = get_or-map (λ m. (array_at known m).shape) of k n [] h ∙ ap (λ m. (array_at known m).shape) (sym is)

count-is : (known : List Cells) (of : List ℕ) (k : ℕ) → k < length of → k < length (shapes_known known of)
count-is known of k h = omega (arith, length-map of (λ m. (array_at known m).shape))

pub operand-axes : (known : List Cells) (of : List ℕ) (axis k n : ℕ) → k < length of → n ≡ get_or of k n → CanJoin known of axis → length (array_at known n).shape ≡ length (first_shape (shapes_known known of))
operand-axes known of axis k n h is v = subst (λ ns. length ns ≡ length (first_shape (shapes_known known of))) (operand-is known of k n h is) (v.joinable.axes k [] (count-is known of k h))

pub index-axes : (known : List Cells) (of : List ℕ) (axis : ℕ) (index : List ℕ) → IsIn (concatenated axis (map (array_at known) of)).shape index → length index ≡ length (first_shape (shapes_known known of))
index-axes known of axis index i =
    IsIn-length (set (grids.first_shape (map (array_at known) of)) axis (length_along axis (map (array_at known) of))) index i
    ∙ length-set (grids.first_shape (map (array_at known) of)) axis (length_along axis (map (array_at known) of)) ∙ ap length (first-same known of)

-- an index that is below the operand on the axis lies in it
pub operand-in : (known : List Cells) (of : List ℕ) (axis : ℕ) (index own : List ℕ) (k n : ℕ) → k < length of → n ≡ get_or of k n → CanJoin known of axis → IsIn (concatenated axis (map (array_at known) of)).shape index
    → Joining known of axis index own k → get_or own axis 0 < get_or (array_at known n).shape axis 0 → IsIn (array_at known n).shape own
operand-in known of axis index own k n h is v i l low =
    let axes = operand-axes known of axis k n h is v in
    let same = index-axes known of axis index i in
    IsIn-from (array_at known n).shape own (l.room ∙ same ∙ sym axes) (λ j b. at_axis j b (cases_eq j axis))
  where
    at_axis : (j : ℕ) → j < length (array_at known n).shape → (j ≡ axis) ⊎ (j ≢ axis) → get_or own j 0 < get_or (array_at known n).shape j 0
    at_axis j b (inl e) = subst (λ m. get_or own m 0 < get_or (array_at known n).shape m 0) (sym e) low
    at_axis j b (inr ne) =
        let axes = operand-axes known of axis k n h is v in
        let same = index-axes known of axis index i in
        let whole : ℕ = length_along axis (map (array_at known) of) in
        let inside : get_or index j 0 < get_or (set (grids.first_shape (map (array_at known) of)) axis (length_along axis (map (array_at known) of))) j 0 =
        IsIn-at (set (grids.first_shape (map (array_at known) of)) axis (length_along axis (map (array_at known) of))) index j i
        (omega (arith, axes, length-set (grids.first_shape (map (array_at known) of)) axis (length_along axis (map (array_at known) of)), ap length (first-same known of))) in
        let other : get_or (set (grids.first_shape (map (array_at known) of)) axis (length_along axis (map (array_at known) of))) j 0 ≡ get_or (first_shape (shapes_known known of)) j 0 =
        get_or-set_other (grids.first_shape (map (array_at known) of)) axis j (length_along axis (map (array_at known) of)) 0 ne ∙ ap (λ ns. get_or ns j 0) (first-same known of) in
        let mine : get_or (array_at known n).shape j 0 ≡ get_or (first_shape (shapes_known known of)) j 0 =
        subst (λ ns. get_or ns j 0 ≡ get_or (first_shape (shapes_known known of)) j 0) (operand-is known of k n h is) (v.joinable.others j ne k [] (count-is known of k h)) in
        omega (arith, l.others j ne, inside, other, mine)

-- what stands there is what the first operand that reaches it has
value-cons : (known : List Cells) (of : List ℕ) (axis : ℕ) (index own : List ℕ) (k n : ℕ) → k < length of → n ≡ get_or of k n → Joining known of axis index own k
    → cond (nat_lt (get_or own axis 0) (get_or (array_at known n).shape axis 0)) ((array_at known n).at own) (at_along axis (map (array_at known) (drop (k + 1) of)) (set own axis (get_or own axis 0 - get_or (array_at known n).shape axis 0)))
    ≡ at_along axis (map (array_at known) of) index
value-cons known of axis index own k n h is l =
    let dn : drop k of ≡ n ∷ drop (k + 1) of = drop_more of k n h ∙ ap (λ x. x ∷ drop (k + 1) of) (sym is) in
    ap (λ ns. at_along axis (map (array_at known) ns) own) (sym dn) ∙ l.value

pub joining-found : (known : List Cells) (of : List ℕ) (axis : ℕ) (index own : List ℕ) (k n : ℕ) → k < length of → n ≡ get_or of k n → Joining known of axis index own k → get_or own axis 0 < get_or (array_at known n).shape axis 0
    → (array_at known n).at own ≡ at_along axis (map (array_at known) of) index
joining-found known of axis index own k n h is l low =
    ap (λ b. cond b ((array_at known n).at own) (at_along axis (map (array_at known) (drop (k + 1) of)) (set own axis (get_or own axis 0 - get_or (array_at known n).shape axis 0)))) (sym (lt-ltb _ _ low)) ∙ value-cons known of axis index own k n h is l

pub joining-next : (known : List Cells) (of : List ℕ) (axis : ℕ) (index own : List ℕ) (k n : ℕ) → k < length of → n ≡ get_or of k n → Joining known of axis index own k → get_or (array_at known n).shape axis 0 ≤ get_or own axis 0
    → Joining known of axis index (set own axis (get_or own axis 0 - get_or (array_at known n).shape axis 0)) (k + 1)
joining-next known of axis index own k n h is l high = record {
  room = length-set own axis (get_or own axis 0 - get_or (array_at known n).shape axis 0) ∙ l.room;
  others = λ j ne. get_or-set_other own axis j (get_or own axis 0 - get_or (array_at known n).shape axis 0) 0 ne ∙ l.others j ne;
  value = ap (λ b. cond b ((array_at known n).at own) (at_along axis (map (array_at known) (drop (k + 1) of)) (set own axis (get_or own axis 0 - get_or (array_at known n).shape axis 0)))) (sym (le-ltb _ _ high)) ∙ value-cons known of axis index own k n h is l;
}
