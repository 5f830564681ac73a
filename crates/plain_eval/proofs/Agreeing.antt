-- Arrays are the same over inputs that agree inside the inputs' shapes.
use Rattle.std.proofs.Common.{◌≡◌, ℕ, suc, ◌+◌, ◌<◌, Some, List, [], ◌∷◌, ◌++◌, length, take, drop, ap, sym, subst, refl, ◌∙◌, arith, ℤ, slice_get, length-append, take-append-drop}
use Rattle.std.proofs.lemmas.List.{length-take-le}
use Rattle.small_facts.proofs.Ranges.{map_range_same}
use Rattle.nd_shape.specs.declared.slice.Steps.{Steps}
use Rattle.nd_shape.specs.declared.chunk.ChunkSpec.{ChunkSpec}
use Rattle.nd_shape.specs.Shape.{elements}
use Rattle.nd_shape.specs.Index.{IsIn, index_at}
use Rattle.nd_shape.specs.Region.{Box}
use Rattle.nd_shape.proofs.Places.{index_at-in}
use Rattle.nd_grid.specs.Grid.{Grid}
use Rattle.array_expr.specs.declared.op.Op.{Op}
use Rattle.array_expr.specs.declared.op.Op.TheVariants.{Input, Full, Ramp, Negate, Elementwise, Where, Slice, Transpose, Rechunk, Concatenate, Reduce, Tensordot}
use Rattle.array_expr.specs.declared.expr.Node.{Node}
use Rattle.array_expr.specs.Elem.{Cells, array_at, cells_of, formula, next_input, arrays_after, arrays}
use Rattle.plain_eval.specs.Eval.{inputs_in, IsPlain, IsPartOf}
use Rattle.plain_eval.specs.declared.plain.PlainOutcome.{PlainOutcome}
use Rattle.plain_eval.proofs.Arrays.{arrays-front}

-- two kinds of inputs have the same elements inside the inputs' shapes, where j is the number of the first one
pub record AgreeInside (f g : ℕ → List ℕ → ℤ) (j : ℕ) (nodes : List Node) : Type 0 where
  pub each : (k : ℕ) (node : Node) (dims : List ℕ) (chunks : List ChunkSpec) → slice_get nodes k ≡ Some node → node.op ≡ Input dims chunks → (i : List ℕ) → IsIn dims i → f (inputs_in j (take k nodes)) i ≡ g (inputs_in j (take k nodes)) i

same-formula : (op : Op) (taken : List Steps) (f g : List ℕ → ℤ) (array : ℕ → Grid) → ((dims : List ℕ) (chunks : List ChunkSpec) → op ≡ Input dims chunks → (i : List ℕ) → IsIn dims i → f i ≡ g i)
    → cells_of (formula op taken f array) ≡ cells_of (formula op taken g array)
same-formula (Input dims chunks) taken f g array same =
    ap (λ cs. record { shape = dims; cells = cs }) (map_range_same (λ p. Some (f (index_at dims p))) (λ p. Some (g (index_at dims p))) (elements dims) (λ p h. ap Some (same dims chunks refl (index_at dims p) (index_at-in dims p h))))
same-formula (Full dims value chunks) taken f g array same = refl
same-formula (Ramp dims start step chunks) taken f g array same = refl
same-formula (Negate of) taken f g array same = refl
same-formula (Elementwise op left right) taken f g array same = refl
same-formula (Where condition first second) taken f g array same = refl
same-formula (Slice of parts) taken f g array same = refl
same-formula (Transpose of axes) taken f g array same = refl
same-formula (Rechunk of chunks) taken f g array same = refl
same-formula (Concatenate of axis) taken f g array same = refl
same-formula (Reduce fold of axes split) taken f g array same = refl
same-formula (Tensordot left right left_axes right_axes) taken f g array same = refl

agree-after : (f g : ℕ → List ℕ → ℤ) (j : ℕ) (known : List Cells) (nodes : List Node) → AgreeInside f g j nodes → arrays_after f j known nodes ≡ arrays_after g j known nodes
unfolding arrays_after
agree-after f g j known [] a = refl
agree-after f g j known (n ∷ nodes) a =
    let here : cells_of (formula n.op n.taken (f j) (array_at known)) ≡ cells_of (formula n.op n.taken (g j) (array_at known)) =
    same-formula n.op n.taken (f j) (g j) (array_at known) (λ dims chunks is. a.each 0 n dims chunks refl is) in
    let rest : AgreeInside f g (next_input n.op j) nodes = record { each = λ k node dims chunks is op. a.each (suc k) node dims chunks is op } in
    ap (λ c. arrays_after f (next_input n.op j) (known ++ c ∷ []) nodes) here
    ∙ agree-after f g (next_input n.op j) (known ++ cells_of (formula n.op n.taken (g j) (array_at known)) ∷ []) nodes rest

pub arrays-agree : (f g : ℕ → List ℕ → ℤ) (nodes : List Node) → AgreeInside f g 0 nodes → arrays f nodes ≡ arrays g nodes
arrays-agree f g nodes a = agree-after f g 0 [] nodes a

length-after : (f : ℕ → List ℕ → ℤ) (j : ℕ) (known : List Cells) (nodes : List Node) → length (arrays_after f j known nodes) ≡ length known + length nodes
unfolding arrays_after
length-after f j known [] = omega arith
length-after f j known (n ∷ nodes) =
    let made : Cells = cells_of (formula n.op n.taken (f j) (array_at known)) in
    omega (arith, length-after f (next_input n.op j) (known ++ made ∷ []) nodes, length-append known (made ∷ []))

pub length-arrays : (f : ℕ → List ℕ → ℤ) (nodes : List Node) → length (arrays f nodes) ≡ length nodes
length-arrays f nodes = omega (arith, length-after f 0 [] nodes)

-- a node's array needs no later nodes
pub array-before : (f : ℕ → List ℕ → ℤ) (nodes : List Node) (n : ℕ) → n < length nodes → array_at (arrays f nodes) n ≡ array_at (arrays f (take (n + 1) nodes)) n
array-before f nodes n h =
    let there : n < length (arrays f (take (n + 1) nodes)) = omega (arith, length-arrays f (take (n + 1) nodes), length-take-le (n + 1) nodes (omega (arith, h))) in
    ap (λ ns. array_at (arrays f ns) n) (sym (take-append-drop (n + 1) nodes)) ∙ arrays-front f (take (n + 1) nodes) (drop (n + 1) nodes) n there

pub plain-agree : (f g : ℕ → List ℕ → ℤ) (nodes : List Node) (n : ℕ) (box : Box) (outcome : PlainOutcome) → n < length nodes → AgreeInside f g 0 (take (n + 1) nodes) → IsPlain f nodes n box outcome → IsPlain g nodes n box outcome
plain-agree f g nodes n box outcome h a p =
    subst (λ grid. IsPartOf grid n box outcome) (array-before f nodes n h ∙ ap (λ ks. array_at ks n) (arrays-agree f g (take (n + 1) nodes) a) ∙ sym (array-before g nodes n h)) p
