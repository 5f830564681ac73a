-- Shapes of operands, and what is made of them along an axis.
use Rattle.std.proofs.Common.{◌≡◌, ◌≢◌, ℕ, zero, suc, ◌+◌, ◌^◌, ◌<◌, ◌≤◌, List, [], ◌∷◌, length, map, take, get_or, set, Some, ap, sym, subst, ◌∙◌, arith, inl, inr, length-set, get_or-set_same, add_assoc}
use Rattle.std.specs.Prelude.{All, min, slice_get}
use Rattle.std.proofs.lemmas.List.{get_or-map, length-map, take_all}
use Rattle.std.proofs.lemmas.List.Elements.{All-more}
use Rattle.std.proofs.lemmas.Option.{slice_get-get_or}
use Rattle.std.proofs.lemmas.Bool.{cases_lt}
use Rattle.nd_shape.specs.Shape.{IsShape}
use Rattle.array_expr.specs.declared.expr.Node.{Node}
use Rattle.array_expr.specs.declared.error.Quantity.{Quantity}
use Rattle.array_expr.specs.declared.error.Quantity.TheVariants.{Nodes, Axes, Elements}
use Rattle.array_expr.specs.Node.{shape_at, length_on_axis}
use Rattle.array_expr.specs.Refusal.{PassesLimit, IsFirstOther}

-- the shape of an operand by its place in the list
pub operand-shape : (nodes : List Node) (of : List ℕ) (k n : ℕ) (d : List ℕ) → k < length of → n ≡ get_or of k n → get_or (map (shape_at nodes) of) k d ≡ shape_at nodes n
operand-shape nodes of k n d h is = get_or-map (shape_at nodes) of k n d h ∙ ap (shape_at nodes) (sym is)

pub operand-count : (nodes : List Node) (of : List ℕ) (k : ℕ) → k < length of → k < length (map (shape_at nodes) of)
operand-count nodes of k h = omega (arith, length-map of (shape_at nodes))

-- an axis that every operand has
pub operand-axis : (nodes : List Node) (of : List ℕ) (k n axis : ℕ) (dims : List ℕ) → k < length of → n ≡ get_or of k n → dims ≡ shape_at nodes n → All (λ ns. axis < length ns) (map (shape_at nodes) of) → axis < length dims
operand-axis nodes of k n axis dims h is dims_is all = subst (λ ns. axis < length ns) (operand-shape nodes of k n [] h is ∙ sym dims_is) (all k [] (operand-count nodes of k h))

-- the first that differs
pub first-other : (see : List ℕ → ℕ) (shapes : List (List ℕ)) (k : ℕ) (dims : List ℕ) (left right : ℕ) → k < length shapes → get_or shapes k [] ≡ dims → right ≡ see dims → right ≢ left → All (λ ns. see ns ≡ left) (take k shapes) → IsFirstOther see shapes left right
first-other see shapes k dims left right h is right_is differs before =
    record { at = k; other = dims; is = slice_get-get_or shapes k [] h ∙ ap Some is; right_is = right_is; differs = differs; before = before }

pub same-more : (see : List ℕ → ℕ) (shapes : List (List ℕ)) (k : ℕ) (dims : List ℕ) (left : ℕ) → k < length shapes → get_or shapes k [] ≡ dims → see dims ≡ left → All (λ ns. see ns ≡ left) (take k shapes) → All (λ ns. see ns ≡ left) (take (k + 1) shapes)
same-more see shapes k dims left h is e before = All-more (λ ns. see ns ≡ left) shapes k [] h before (ap see is ∙ e)

pub same-all : (see : List ℕ → ℕ) (shapes : List (List ℕ)) (k left : ℕ) → length shapes ≤ k → All (λ ns. see ns ≡ left) (take k shapes) → All (λ ns. see ns ≡ left) shapes
same-all see shapes k left h before = subst (All (λ ns. see ns ≡ left)) (take_all k shapes h) before

pub length_on_axis-more : (axis : ℕ) (shapes : List (List ℕ)) (k : ℕ) → k < length shapes → length_on_axis axis (take (k + 1) shapes) ≡ length_on_axis axis (take k shapes) + get_or (get_or shapes k []) axis 0
length_on_axis-more axis [] k h = absurd (omega arith)
length_on_axis-more axis (ns ∷ shapes) zero h = omega arith
length_on_axis-more axis (ns ∷ shapes) (suc k) h =
    let e : suc k + 1 ≡ suc (k + 1) = omega arith in
    ap (λ m. length_on_axis axis (take m (ns ∷ shapes))) e ∙ ap (λ x. get_or ns axis 0 + x) (length_on_axis-more axis shapes k (omega arith)) ∙ sym (add_assoc (get_or ns axis 0) (length_on_axis axis (take k shapes)) (get_or (get_or shapes k []) axis 0))

-- ---- a sum that is held to a bound passes the limit where the sum does

elements_passed : (xs : List ℕ) (axis total : ℕ) → axis < length xs → length xs ≤ 8 → 2 ^ 31 < total → PassesLimit Elements (set xs axis total)
elements_passed xs axis total h few large = (rw (length-set xs axis total) few, inl (axis, total, omega (arith, length-set xs axis total), get_or-set_same xs axis total total h, large))

pub passes_joined : (q : Quantity) (xs lengths : List ℕ) (axis total : ℕ) → axis < length xs → lengths ≡ set xs axis (min total (2 ^ 31 + 1)) → PassesLimit q lengths → PassesLimit q (set xs axis total)
passes_joined Nodes xs lengths axis total h e p = absurd p
passes_joined Axes xs lengths axis total h e p = omega (arith, ap length e, length-set xs axis total, length-set xs axis (min total (2 ^ 31 + 1)))
passes_joined Elements xs lengths axis total h e p = elim (cases_lt (2 ^ 31) total) [
  | inl large ↦ elements_passed xs axis total h (omega (arith, p.0, ap length e, length-set xs axis (min total (2 ^ 31 + 1)))) large
  | inr small ↦ subst (PassesLimit Elements) (e ∙ ap (set xs axis) (let m : min total (2 ^ 31 + 1) ≡ total = omega arith in m)) p
]

pub joined_exact : (xs lengths : List ℕ) (axis total : ℕ) → axis < length xs → lengths ≡ set xs axis (min total (2 ^ 31 + 1)) → IsShape lengths → lengths ≡ set xs axis total
joined_exact xs lengths axis total h e s =
    let at : get_or lengths axis 0 ≡ min total (2 ^ 31 + 1) = ap (λ ns. get_or ns axis 0) e ∙ get_or-set_same xs axis (min total (2 ^ 31 + 1)) 0 h in
    let low : get_or lengths axis 0 ≤ 2 ^ 31 = s.lengths axis 0 (omega (arith, ap length e, length-set xs axis (min total (2 ^ 31 + 1)))) in
    let m : min total (2 ^ 31 + 1) ≡ total = omega arith in
    e ∙ ap (set xs axis) m
