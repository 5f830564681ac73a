-- The arrays of nodes, one more at a time.
use Rattle.std.proofs.Common.{◌≡◌, ℕ, suc, cond, Bool, true, false, ◌+◌, ◌<◌, ◌≤◌, List, [], ◌∷◌, ◌++◌, length, take, Some, ap, sym, refl, ◌∙◌, arith, ℤ, append_assoc, append-nil}
use Rattle.std.specs.Prelude.{slice_get}
use Rattle.std.proofs.lemmas.List.{take_more, map-append, get_or_append_left}
use Rattle.std.proofs.lemmas.Option.{get_or_from_slice_get, slice_get_within}
use Rattle.array_expr.specs.declared.op.Op.{Op}
use Rattle.array_expr.specs.declared.expr.Node.{Node}
use Rattle.array_expr.specs.Node.{shapes_of}
use Rattle.array_expr.specs.Elem.{Cells, grid_of_cells, array_at, cells_of, formula, is_input, next_input, arrays_after, arrays}
use Rattle.plain_eval.specs.Eval.{HaveShapes, inputs_in}

arrays-append : (inputs : ℕ → List ℕ → ℤ) (j : ℕ) (known : List Cells) (xs ys : List Node) → arrays_after inputs j known (xs ++ ys) ≡ arrays_after inputs (inputs_in j xs) (arrays_after inputs j known xs) ys
unfolding arrays_after
arrays-append inputs j known [] ys = refl
arrays-append inputs j known (x ∷ xs) ys = arrays-append inputs (next_input x.op j) (known ++ cells_of (formula x.op x.taken (inputs j) (array_at known)) ∷ []) xs ys

arrays-one : (inputs : ℕ → List ℕ → ℤ) (j : ℕ) (known : List Cells) (n : Node) → arrays_after inputs j known (n ∷ []) ≡ known ++ cells_of (formula n.op n.taken (inputs j) (array_at known)) ∷ []
unfolding arrays_after
arrays-one inputs j known n = refl

pub arrays-none : (inputs : ℕ → List ℕ → ℤ) → arrays inputs [] ≡ []
unfolding arrays_after
arrays-none inputs = refl

pub arrays-more : (inputs : ℕ → List ℕ → ℤ) (xs : List Node) (n : Node) → arrays inputs (xs ++ n ∷ []) ≡ arrays inputs xs ++ cells_of (formula n.op n.taken (inputs (inputs_in 0 xs)) (array_at (arrays inputs xs))) ∷ []
arrays-more inputs xs n = arrays-append inputs 0 [] xs (n ∷ []) ∙ arrays-one inputs (inputs_in 0 xs) (arrays inputs xs) n

-- what was known stays
arrays-grow : (inputs : ℕ → List ℕ → ℤ) (j : ℕ) (known : List Cells) (xs : List Node) → (rest : List Cells) × (arrays_after inputs j known xs ≡ known ++ rest)
unfolding arrays_after
arrays-grow inputs j known [] = ([], sym (append-nil known))
arrays-grow inputs j known (x ∷ xs) =
    let made : Cells = cells_of (formula x.op x.taken (inputs j) (array_at known)) in
    let g = arrays-grow inputs (next_input x.op j) (known ++ made ∷ []) xs in
    (made ∷ g.0, g.1 ∙ append_assoc known (made ∷ []) g.0)

-- the array of a node doesn't depend on later nodes
pub arrays-front : (inputs : ℕ → List ℕ → ℤ) (xs ys : List Node) (k : ℕ) → k < length (arrays inputs xs) → array_at (arrays inputs (xs ++ ys)) k ≡ array_at (arrays inputs xs) k
arrays-front inputs xs ys k h =
    let g = arrays-grow inputs (inputs_in 0 xs) (arrays inputs xs) ys in
    ap (λ ks. array_at ks k) (arrays-append inputs 0 [] xs ys ∙ g.1)
    ∙ ap grid_of_cells (get_or_append_left (arrays inputs xs) g.0 (record { shape = []; cells = [] }) k h)

inputs-append : (j : ℕ) (xs : List Node) (n : Node) → inputs_in j (xs ++ n ∷ []) ≡ next_input n.op (inputs_in j xs)
inputs-append j [] n = refl
inputs-append j (x ∷ xs) n = inputs-append (next_input x.op j) xs n

take-node : (nodes : List Node) (k : ℕ) (node : Node) → slice_get nodes k ≡ Some node → take (k + 1) nodes ≡ take k nodes ++ node ∷ []
take-node nodes k node is = take_more nodes k node (slice_get_within nodes k node is) ∙ ap (λ n. take k nodes ++ n ∷ []) (get_or_from_slice_get nodes k node node is)

pub inputs-next : (nodes : List Node) (k : ℕ) (node : Node) → slice_get nodes k ≡ Some node → inputs_in 0 (take (k + 1) nodes) ≡ next_input node.op (inputs_in 0 (take k nodes))
inputs-next nodes k node is = ap (inputs_in 0) (take-node nodes k node is) ∙ inputs-append 0 (take k nodes) node

pub arrays-next : (inputs : ℕ → List ℕ → ℤ) (nodes : List Node) (k : ℕ) (node : Node) (known : List Cells) (made : Cells) → slice_get nodes k ≡ Some node → known ≡ arrays inputs (take k nodes)
    → made ≡ cells_of (formula node.op node.taken (inputs (inputs_in 0 (take k nodes))) (array_at known)) → known ++ made ∷ [] ≡ arrays inputs (take (k + 1) nodes)
arrays-next inputs nodes k node known made is e m =
    ap (λ c. known ++ c ∷ []) m
    ∙ ap (λ ks. ks ++ cells_of (formula node.op node.taken (inputs (inputs_in 0 (take k nodes))) (array_at ks)) ∷ []) e
    ∙ sym (arrays-more inputs (take k nodes) node) ∙ ap (arrays inputs) (sym (take-node nodes k node is))

pub shapes-next : (nodes : List Node) (k : ℕ) (node : Node) (known : List Cells) (made : Cells) → slice_get nodes k ≡ Some node → HaveShapes known (take k nodes) → made.shape ≡ node.shape → HaveShapes (known ++ made ∷ []) (take (k + 1) nodes)
shapes-next nodes k node known made is h e = record {
  shapes = map-append (λ (c : Cells). c.shape) known (made ∷ []) ∙ ap (λ ss. ss ++ made.shape ∷ []) h.shapes ∙ ap (λ s. shapes_of (take k nodes) ++ s ∷ []) e
      ∙ sym (ap shapes_of (take-node nodes k node is) ∙ map-append (λ (n : Node). n.shape) (take k nodes) (node ∷ []));
}

pub next-few : (op : Op) (j : ℕ) → next_input op j ≤ j + 1
next-few op j = by_case (is_input op)
  where
    by_case : (b : Bool) → cond b (suc j) j ≤ j + 1
    by_case true = omega arith
    by_case false = omega arith
