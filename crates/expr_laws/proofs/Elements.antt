-- The element of a node is its operation's formula over the elements of the nodes that it names.
use Rattle.std.proofs.Common.{◌≡◌, ℕ, suc, cond, Bool, true, false, ◌+◌, ◌<◌, List, [], ◌∷◌, ◌++◌, length, map, take, drop, get_or, set, Some, All, ap, sym, subst, refl, ◌∙◌, arith, ℤ, append_assoc, append-nil, length-append, slice_get}
use Rattle.std.specs.Prelude.{None}
use Rattle.std.specs.List.{count_by}
use Rattle.std.proofs.Math.ListN.{get_or-map}
use Rattle.std.proofs.Math.Seq.{take-append_seam}
use Rattle.std.proofs.lemmas.List.{map-append, length-map, get_or_append_left, get_or_push, take-append-drop, take-append-le, length-take-le, drop_more}
use Rattle.std.proofs.lemmas.List.FromFn.{get_or-map-range_with_len}
use Rattle.std.proofs.lemmas.List.Sums.{sum_by-cons}
use Rattle.std.proofs.lemmas.Option.{get_or_from_slice_get, slice_get_within}
use Rattle.nd_shape.specs.declared.slice.Steps.{Steps}
use Rattle.nd_shape.specs.Shape.{elements}
use Rattle.nd_shape.specs.Index.{IsIn, place, index_at}
use Rattle.nd_shape.specs.Broadcast.{broadcast}
use Rattle.nd_shape.proofs.Places.{place-below, index_at-place}
use Rattle.nd_grid.specs.Grid.{Grid, elementwise, chosen, negated, sliced, transposed, concatenated, reduced, contracted, kept_shape, length_along, first_shape as first_of}
use Rattle.array_expr.specs.declared.op.Op.{Op}
use Rattle.array_expr.specs.declared.op.Op.TheVariants.{Input, Full, Ramp, Negate, Elementwise, Where, Slice, Transpose, Rechunk, Concatenate, Reduce, Tensordot}
use Rattle.array_expr.specs.declared.expr.Node.{Node}
use Rattle.array_expr.specs.Node.{shape_at, shapes_of, NamesEarlier, Makes, IsNode, IsExpression, dropped, folded_axes, first_shape, length_on_axis}
use Rattle.array_expr.specs.Elem.{Cells, grid_of_cells, array_at, cells_of, formula, is_input, next_input, arrays_after, arrays, elem}
use Rattle.array_expr.proofs.Growing.{slice_get-front}
use Rattle.expr_laws.specs.Formulas.{whole, made_of}

-- ---- the arrays of more nodes

-- the number of the next input after these nodes
abbrev inputs_after : ℕ → List Node → ℕ
inputs_after j [] = j
inputs_after j (n ∷ nodes) = inputs_after (next_input n.op j) nodes

abbrev inputs_among : List Node → ℕ
inputs_among nodes = count_by (λ (n : Node). is_input n.op) nodes

inputs-counted : (j : ℕ) (nodes : List Node) → inputs_after j nodes ≡ j + inputs_among nodes
inputs-counted j [] = omega arith
inputs-counted j (n ∷ nodes) = inputs-counted (next_input n.op j) nodes ∙ (counted (is_input n.op) (inputs_among nodes) ∙ ap (λ c. j + c) (sym (sum_by-cons (λ (m : Node). cond (is_input m.op) 1 0) n nodes)))
  where
    counted : (b : Bool) (c : ℕ) → cond b (suc j) j + c ≡ j + (cond b 1 0 + c)
    counted true c = omega arith
    counted false c = omega arith

arrays-append : (inputs : ℕ → List ℕ → ℤ) (j : ℕ) (known : List Cells) (xs ys : List Node) → arrays_after inputs j known (xs ++ ys) ≡ arrays_after inputs (inputs_after j xs) (arrays_after inputs j known xs) ys
unfolding arrays_after
arrays-append inputs j known [] ys = refl
arrays-append inputs j known (x ∷ xs) ys = arrays-append inputs (next_input x.op j) (known ++ cells_of (formula x.op x.taken (inputs j) (array_at known)) ∷ []) xs ys

-- what is known stays, with the next node's array behind it
arrays-grow : (inputs : ℕ → List ℕ → ℤ) (j : ℕ) (known : List Cells) (xs : List Node) → (more : List Cells) × (arrays_after inputs j known xs ≡ known ++ more)
unfolding arrays_after
arrays-grow inputs j known [] = ([], sym (append-nil known))
arrays-grow inputs j known (x ∷ xs) =
    let made : Cells = cells_of (formula x.op x.taken (inputs j) (array_at known)) in
    let g = arrays-grow inputs (next_input x.op j) (known ++ made ∷ []) xs in
    (made ∷ g.0, g.1 ∙ append_assoc known (made ∷ []) g.0)

arrays-next : (inputs : ℕ → List ℕ → ℤ) (j : ℕ) (known : List Cells) (x : Node) (xs : List Node) → (more : List Cells) × (arrays_after inputs j known (x ∷ xs) ≡ (known ++ cells_of (formula x.op x.taken (inputs j) (array_at known)) ∷ []) ++ more)
unfolding arrays_after
arrays-next inputs j known x xs = arrays-grow inputs (next_input x.op j) (known ++ cells_of (formula x.op x.taken (inputs j) (array_at known)) ∷ []) xs

-- ---- shapes

first-same : (nodes : List Node) (array : ℕ → Grid) (of : List ℕ) → ((k : ℕ) → (array k).shape ≡ shape_at nodes k) → first_of (map array of) ≡ first_shape (map (shape_at nodes) of)
first-same nodes array [] h = refl
first-same nodes array (n ∷ of) h = h n

along-same : (axis : ℕ) (nodes : List Node) (array : ℕ → Grid) (of : List ℕ) → ((k : ℕ) → (array k).shape ≡ shape_at nodes k) → length_along axis (map array of) ≡ length_on_axis axis (map (shape_at nodes) of)
along-same axis nodes array [] h = refl
along-same axis nodes array (n ∷ of) h = ap (λ ns. get_or ns axis 0 + length_along axis (map array of)) (h n) ∙ ap (λ m. get_or (shape_at nodes n) axis 0 + m) (along-same axis nodes array of h)

-- a formula has the shape that the operation makes
formula-shape : (nodes : List Node) (op : Op) (taken : List Steps) (shape : List ℕ) (input : List ℕ → ℤ) (array : ℕ → Grid) → ((k : ℕ) → (array k).shape ≡ shape_at nodes k) → Makes nodes op taken shape → (formula op taken input array).shape ≡ shape
formula-shape nodes (Input dims chunks) taken shape input array h m = sym m.1
formula-shape nodes (Full dims value chunks) taken shape input array h m = sym m.1
formula-shape nodes (Ramp dims start step chunks) taken shape input array h m = sym m.1
formula-shape nodes (Negate of) taken shape input array h m = h of ∙ sym m.0
formula-shape nodes (Elementwise op left right) taken shape input array h m =
    ap (λ ns. broadcast (ns ∷ (array right).shape ∷ [])) (h left) ∙ (ap (λ ns. broadcast (shape_at nodes left ∷ ns ∷ [])) (h right) ∙ sym m.1)
formula-shape nodes (Where condition first second) taken shape input array h m =
    ap (λ ns. broadcast (ns ∷ (array first).shape ∷ (array second).shape ∷ [])) (h condition)
    ∙ (ap (λ ns. broadcast (shape_at nodes condition ∷ ns ∷ (array second).shape ∷ [])) (h first)
    ∙ (ap (λ ns. broadcast (shape_at nodes condition ∷ shape_at nodes first ∷ ns ∷ [])) (h second) ∙ sym m.1))
formula-shape nodes (Slice of parts) taken shape input array h m = sym m.1
formula-shape nodes (Transpose of axes) taken shape input array h m = ap (λ ns. map (λ a. get_or ns a 0) axes) (h of) ∙ sym m.2
formula-shape nodes (Rechunk of chunks) taken shape input array h m = h of ∙ sym m.1
formula-shape nodes (Concatenate of axis) taken shape input array h m =
    ap (λ ns. set ns axis (length_along axis (map array of))) (first-same nodes array of h)
    ∙ (ap (set (first_shape (map (shape_at nodes) of)) axis) (along-same axis nodes array of h) ∙ sym m.1)
formula-shape nodes (Reduce fold of axes split) taken shape input array h m = ap (λ ns. kept_shape 0 ns (folded_axes axes (length ns))) (h of) ∙ sym m.1
formula-shape nodes (Tensordot left right left_axes right_axes) taken shape input array h m =
    ap (λ ns. kept_shape 0 ns left_axes ++ kept_shape 0 (array right).shape right_axes) (h left)
    ∙ (ap (λ ns. kept_shape 0 (shape_at nodes left) left_axes ++ kept_shape 0 ns right_axes) (h right) ∙ sym m.1)

abbrev pub shapes_in : List Cells → List (List ℕ)
shapes_in known = map (λ (c : Cells). c.shape) known

pub shape-known : (known : List Cells) (nodes : List Node) → shapes_in known ≡ shapes_of nodes → (k : ℕ) → (array_at known k).shape ≡ shape_at nodes k
shape-known known nodes h k =
    let none : Cells = record { shape = []; cells = [] } in
    sym (get_or-map (λ (c : Cells). c.shape) known k none) ∙ ap (λ ss. get_or ss k []) h

count-known : (known : List Cells) (nodes : List Node) → shapes_in known ≡ shapes_of nodes → length known ≡ length nodes
count-known known nodes h = omega (arith, ap length h, length-map known (λ (c : Cells). c.shape), length-map nodes (λ (n : Node). n.shape))

slice_get-here : (done : List Node) (x : Node) (rest : List Node) → slice_get (done ++ x ∷ rest) (length done) ≡ Some x
slice_get-here [] x rest = refl
slice_get-here (y ∷ done) x rest = slice_get-here done x rest

node-here : (done : List Node) (x : Node) (rest : List Node) → IsExpression (done ++ x ∷ rest) → IsNode done x
node-here done x rest e = subst (λ ns. IsNode ns x) (take-append_seam done (x ∷ rest)) (e.each (length done) x (slice_get-here done x rest))

-- the arrays have the shapes of their nodes
shapes-after : (inputs : ℕ → List ℕ → ℤ) (j : ℕ) (known : List Cells) (done rest : List Node) → IsExpression (done ++ rest) → shapes_in known ≡ shapes_of done → shapes_in (arrays_after inputs j known rest) ≡ shapes_of (done ++ rest)
unfolding arrays_after
shapes-after inputs j known done [] e h = h ∙ ap shapes_of (sym (append-nil done))
shapes-after inputs j known done (x ∷ rest) e h =
    let made : Cells = cells_of (formula x.op x.taken (inputs j) (array_at known)) in
    let fits : IsNode done x = node-here done x rest e in
    let shape : made.shape ≡ x.shape = formula-shape done x.op x.taken x.shape (inputs j) (array_at known) (shape-known known done h) fits.makes in
    let joined : (done ++ x ∷ []) ++ rest ≡ done ++ x ∷ rest = append_assoc done (x ∷ []) rest in
    let now : shapes_in (known ++ made ∷ []) ≡ shapes_of (done ++ x ∷ []) =
    map-append (λ (c : Cells). c.shape) known (made ∷ [])
    ∙ (ap (λ ss. ss ++ made.shape ∷ []) h ∙ (ap (λ s. shapes_of done ++ s ∷ []) shape ∙ sym (map-append (λ (n : Node). n.shape) done (x ∷ [])))) in
    shapes-after inputs (next_input x.op j) (known ++ made ∷ []) (done ++ x ∷ []) rest (subst IsExpression (sym joined) e) now ∙ ap shapes_of joined

pub shapes-all : (inputs : ℕ → List ℕ → ℤ) (nodes : List Node) → IsExpression nodes → shapes_in (arrays inputs nodes) ≡ shapes_of nodes
shapes-all inputs nodes e = shapes-after inputs 0 [] [] nodes e refl

-- ---- formulas look at the nodes that are named alone

map-same : (a b : ℕ → Grid) (count : ℕ) (of : List ℕ) → All (λ k. k < count) of → ((k : ℕ) → k < count → a k ≡ b k) → map a of ≡ map b of
map-same a b count [] all same = refl
map-same a b count (n ∷ of) all same =
    ap (λ g. g ∷ map a of) (same n (all 0 0 (omega arith))) ∙ ap (λ gs. b n ∷ gs) (map-same a b count of (λ k d h. all (suc k) d (omega (arith, h))) same)

formula-same : (op : Op) (taken : List Steps) (input : List ℕ → ℤ) (count : ℕ) (a b : ℕ → Grid) → NamesEarlier op count → ((k : ℕ) → k < count → a k ≡ b k) → formula op taken input a ≡ formula op taken input b
formula-same (Input dims chunks) taken input count a b n same = refl
formula-same (Full dims value chunks) taken input count a b n same = refl
formula-same (Ramp dims start step chunks) taken input count a b n same = refl
formula-same (Negate of) taken input count a b n same = ap negated (same of n)
formula-same (Elementwise op left right) taken input count a b n same = ap (λ g. elementwise op g (a right)) (same left n.0) ∙ ap (elementwise op (b left)) (same right n.1)
formula-same (Where condition first second) taken input count a b n same =
    ap (λ g. chosen g (a first) (a second)) (same condition n.0) ∙ (ap (λ g. chosen (b condition) g (a second)) (same first n.1) ∙ ap (chosen (b condition) (b first)) (same second n.2))
formula-same (Slice of parts) taken input count a b n same = ap (sliced taken (dropped parts)) (same of n)
formula-same (Transpose of axes) taken input count a b n same = ap (transposed axes) (same of n)
formula-same (Rechunk of chunks) taken input count a b n same = same of n
formula-same (Concatenate of axis) taken input count a b n same = ap (concatenated axis) (map-same a b count of n same)
formula-same (Reduce fold of axes split) taken input count a b n same = ap (λ g. reduced fold (folded_axes axes (length g.shape)) g) (same of n)
formula-same (Tensordot left right left_axes right_axes) taken input count a b n same =
    ap (λ g. contracted left_axes right_axes g (a right)) (same left n.0) ∙ ap (contracted left_axes right_axes (b left)) (same right n.1)

-- ---- a node between others

-- what is kept of a grid is the grid, inside its shape
kept-at : (g : Grid) (i : List ℕ) → IsIn g.shape i → (grid_of_cells (cells_of g)).at i ≡ g.at i
kept-at g i h =
    get_or-map-range_with_len (λ p. g.at (index_at g.shape p)) 0 (elements g.shape) (place g.shape i) (place g.shape i) None (place-below g.shape i h) (omega arith) ∙ ap g.at (index_at-place g.shape i h)

-- the formula over the arrays of the nodes before it
abbrev formula_over : (ℕ → List ℕ → ℤ) → List Node → Node → Grid
formula_over inputs done x = formula x.op x.taken (inputs (inputs_among done)) (array_at (arrays inputs done))

array-here : (inputs : ℕ → List ℕ → ℤ) (done : List Node) (x : Node) (rest : List Node) → length (arrays inputs done) ≡ length done → array_at (arrays inputs (done ++ x ∷ rest)) (length done) ≡ grid_of_cells (cells_of (formula_over inputs done x))
array-here inputs done x rest count =
    let none : Cells = record { shape = []; cells = [] } in
    let j : inputs_after 0 done ≡ inputs_among done = inputs-counted 0 done ∙ (let z : 0 + inputs_among done ≡ inputs_among done = omega arith in z) in
    let known : List Cells = arrays inputs done in
    let made : Cells = cells_of (formula x.op x.taken (inputs (inputs_after 0 done)) (array_at known)) in
    let next = arrays-next inputs (inputs_after 0 done) known x rest in
    let there : length done < length (known ++ made ∷ []) = omega (arith, count, length-append known (made ∷ [])) in
    let found : get_or (arrays inputs (done ++ x ∷ rest)) (length done) none ≡ made =
    ap (λ ks. get_or ks (length done) none) (arrays-append inputs 0 [] done (x ∷ rest) ∙ next.1)
    ∙ (get_or_append_left (known ++ made ∷ []) next.0 none (length done) there ∙ get_or_push known made none (length done) count) in
    ap grid_of_cells (found ∙ ap (λ m. cells_of (formula x.op x.taken (inputs m) (array_at known))) j)

-- the array of an earlier node doesn't depend on later nodes
array-earlier : (inputs : ℕ → List ℕ → ℤ) (done rest : List Node) (k : ℕ) → k < length (arrays inputs done) → array_at (arrays inputs done) k ≡ array_at (arrays inputs (done ++ rest)) k
array-earlier inputs done rest k h =
    let none : Cells = record { shape = []; cells = [] } in
    let known : List Cells = arrays inputs done in
    let g = arrays-grow inputs (inputs_after 0 done) known rest in
    sym (ap (λ ks. array_at ks k) (arrays-append inputs 0 [] done rest ∙ g.1) ∙ ap grid_of_cells (get_or_append_left known g.0 none k h))

array-whole : (inputs : ℕ → List ℕ → ℤ) (nodes : List Node) → IsExpression nodes → (k : ℕ) → array_at (arrays inputs nodes) k ≡ whole inputs nodes k
array-whole inputs nodes e k = ap (λ s. record { shape = s; at = elem inputs nodes k }) (shape-known (arrays inputs nodes) nodes (shapes-all inputs nodes e) k)

pub front-expression : (done rest : List Node) → IsExpression (done ++ rest) → IsExpression done
front-expression done rest e = record {
  count = omega (arith, e.count, length-append done rest);
  each = λ k x is.
      let inside : k < length done = slice_get_within done k x is in
      subst (λ ns. IsNode ns x) (take-append-le k done rest (omega (arith, inside))) (e.each k x (slice_get-front done rest k inside ∙ is));
}

-- the formula over all arrays
abbrev formula_in : (ℕ → List ℕ → ℤ) → List Node → Node → List Node → Grid
formula_in inputs done x nodes = formula x.op x.taken (inputs (inputs_among done)) (whole inputs nodes)

over-same : (inputs : ℕ → List ℕ → ℤ) (done : List Node) (x : Node) (rest : List Node) → IsExpression (done ++ x ∷ rest) → length (arrays inputs done) ≡ length done → formula_over inputs done x ≡ formula_in inputs done x (done ++ x ∷ rest)
over-same inputs done x rest e count =
    formula-same x.op x.taken (inputs (inputs_among done)) (length done) (array_at (arrays inputs done)) (whole inputs (done ++ x ∷ rest)) (node-here done x rest e).names.there
    (λ k h. array-earlier inputs done (x ∷ rest) k (omega (arith, count, h)) ∙ array-whole inputs (done ++ x ∷ rest) e k)

-- the formula of a node between others has its shape, and its elements inside it
record IsFormula (inputs : ℕ → List ℕ → ℤ) (nodes : List Node) (n : ℕ) (shape : List ℕ) (g : Grid) : Type 0 where
  shape_is : g.shape ≡ shape
  each : (i : List ℕ) → IsIn shape i → elem inputs nodes n i ≡ g.at i

between : (inputs : ℕ → List ℕ → ℤ) (done : List Node) (x : Node) (rest : List Node) → IsExpression (done ++ x ∷ rest) → IsFormula inputs (done ++ x ∷ rest) (length done) x.shape (formula_in inputs done x (done ++ x ∷ rest))
between inputs done x rest e =
    let shapes : shapes_in (arrays inputs done) ≡ shapes_of done = shapes-all inputs done (front-expression done (x ∷ rest) e) in
    let count : length (arrays inputs done) ≡ length done = count-known (arrays inputs done) done shapes in
    let same : formula_over inputs done x ≡ formula_in inputs done x (done ++ x ∷ rest) = over-same inputs done x rest e count in
    let shape : (formula_over inputs done x).shape ≡ x.shape =
    formula-shape done x.op x.taken x.shape (inputs (inputs_among done)) (array_at (arrays inputs done)) (shape-known (arrays inputs done) done shapes) (node-here done x rest e).makes in
    let here : array_at (arrays inputs (done ++ x ∷ rest)) (length done) ≡ grid_of_cells (cells_of (formula_over inputs done x)) = array-here inputs done x rest count in
    record {
      shape_is = ap (λ (g : Grid). g.shape) (sym same) ∙ shape;
      each = λ i h. ap (λ (g : Grid). g.at i) here ∙ (kept-at (formula_over inputs done x) i (subst (λ ns. IsIn ns i) (sym shape) h) ∙ ap (λ (g : Grid). g.at i) same);
    }

-- a node stands between others
split-at : (nodes : List Node) (n : ℕ) (x : Node) → slice_get nodes n ≡ Some x → take n nodes ++ x ∷ drop (n + 1) nodes ≡ nodes
split-at nodes n x is =
    let inside : n < length nodes = slice_get_within nodes n x is in
    ap (λ y. take n nodes ++ y ∷ drop (n + 1) nodes) (sym (get_or_from_slice_get nodes n x x is))
    ∙ (ap (λ ys. take n nodes ++ ys) (sym (drop_more nodes n x inside)) ∙ take-append-drop n nodes)

by-formula : (inputs : ℕ → List ℕ → ℤ) (nodes : List Node) (n : ℕ) (x : Node) → IsExpression nodes → slice_get nodes n ≡ Some x → IsFormula inputs nodes n x.shape (made_of inputs nodes n x)
by-formula inputs nodes n x e is =
    let s : take n nodes ++ x ∷ drop (n + 1) nodes ≡ nodes = split-at nodes n x is in
    let k : length (take n nodes) ≡ n = length-take-le n nodes (omega (arith, slice_get_within nodes n x is)) in
    let b = between inputs (take n nodes) x (drop (n + 1) nodes) (subst IsExpression (sym s) e) in
    subst (λ ns. IsFormula inputs ns n x.shape (formula_in inputs (take n nodes) x ns)) s
    (subst (λ m. IsFormula inputs (take n nodes ++ x ∷ drop (n + 1) nodes) m x.shape (formula_in inputs (take n nodes) x (take n nodes ++ x ∷ drop (n + 1) nodes))) k b)

pub shape-formula : (inputs : ℕ → List ℕ → ℤ) (nodes : List Node) (n : ℕ) (node : Node) → IsExpression nodes → slice_get nodes n ≡ Some node → (made_of inputs nodes n node).shape ≡ node.shape
shape-formula inputs nodes n node e is = (by-formula inputs nodes n node e is).shape_is

pub element-formula : (inputs : ℕ → List ℕ → ℤ) (nodes : List Node) (n : ℕ) (node : Node) (i : List ℕ) → IsExpression nodes → slice_get nodes n ≡ Some node → IsIn node.shape i → elem inputs nodes n i ≡ (made_of inputs nodes n node).at i
element-formula inputs nodes n node i e is h = (by-formula inputs nodes n node e is).each i h
