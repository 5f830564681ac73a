-- A region of a node is the same over inputs that agree on the regions of them that it needs.
use Rattle.std.proofs.Common.{◌≡◌, ℕ, zero, suc, ◌+◌, ◌<◌, ◌≤◌, List, [], ◌∷◌, length, get_or, take, drop, map, true, refl, ap, sym, subst, ◌∙◌, arith, inl, inr, ◌⊎◌, Option, Some, None, ℤ, take-append-drop}
use Rattle.std.specs.Prelude.{slice_get}
use Rattle.std.proofs.lemmas.List.{length-take-le, get_or_push}
use Rattle.std.proofs.lemmas.List.FromFn.{get_or-map-range_with_len}
use Rattle.std.proofs.lemmas.Option.{slice_get_within, slice_get-get_or, get_or_from_slice_get}
use Rattle.std.proofs.lemmas.Bool.{cases_lt}
use Rattle.nd_shape.specs.Shape.{elements}
use Rattle.nd_shape.specs.Index.{IsIn, place, index_at}
use Rattle.nd_shape.specs.Region.{Box, IsPart, moved}
use Rattle.nd_shape.proofs.Places.{place-below, index_at-place, index_at-in, IsIn-length}
use Rattle.nd_shape.proofs.Axes.{IsIn-at}
use Rattle.nd_grid.specs.Operation.{negated_element}
use Rattle.nd_grid.specs.Grid.{Grid, under, sliced_from, turned, part, block_of, as_array, cells_up_to, then_cell}
use Rattle.nd_grid.proofs.Turning.{moved-at, length-moved}
use Rattle.array_expr.specs.declared.op.Op.{Op}
use Rattle.array_expr.specs.declared.op.Op.TheVariants.{Input, Full, Ramp, Negate, Elementwise, Where, Slice, Transpose, Rechunk, Concatenate, Reduce, Tensordot}
use Rattle.array_expr.specs.declared.expr.Node.{Node}
use Rattle.array_expr.specs.Node.{IsExpression, IsNode, Makes, shape_at, dropped}
use Rattle.array_expr.specs.Elem.{Cells, grid_of_cells, array_at, cells_of, formula, is_input, arrays}
use Rattle.plain_eval.specs.declared.plain.PlainOutcome.{PlainOutcome}
use Rattle.plain_eval.specs.Eval.{HaveShapes, IsPlain, IsPartOf, inputs_before}
use Rattle.plain_eval.proofs.Arrays.{arrays-none, arrays-front, arrays-next, shapes-next}
use Rattle.plain_eval.proofs.Agreeing.{length-arrays, array-before}
use Rattle.plain_eval.proofs.Known.{shape-known}
use Rattle.plain_eval.proofs.Nodes.{full-fits, ramp-fits, negate-fits, rechunk-fits, pair-fits, choice-fits, slice-fits, turn-fits, join-fits, fold-fits, dot-fits}
use Rattle.input_regions.specs.Boxes.{IsInBox, IsInRegion, IsLeast}
use Rattle.input_regions.specs.Uses.{Uses}
use Rattle.input_regions.specs.Needed.{region_at, AreNeeded, IsAsked, IsUsedFrom}
use Rattle.input_regions.proofs.Formulas.{under-same, pair-same, three-same, fold-same, product-same, joined-same}
use Rattle.input_regions.proofs.Fitted.{names, kept-in, paired-in, pairs-fit, join-axis, branch-whole, front-shape}
use Rattle.input_regions.proofs.Asked.{uses-below}
use Rattle.input_regions.proofs.Widened.{region-in, shape-of}
use Rattle.input_regions.specs.Widening.{AreFit}
use Rattle.plain_eval.specs.declared.plain.PlainOutcome.TheVariants.{Values, Zero}

-- ---- arrays of nodes

made-shape : (nodes : List Node) (known : List Cells) (node : Node) (input : List ℕ → ℤ) (op : Op) → HaveShapes known nodes → IsNode nodes node → node.op ≡ op → (formula op node.taken input (array_at known)).shape ≡ node.shape
made-shape nodes known node input (Input dims chunks) h n is = sym (let m : Makes nodes (Input dims chunks) node.taken node.shape = subst (λ o. Makes nodes o node.taken node.shape) is n.makes in m.1)
made-shape nodes known node input (Full dims value chunks) h n is = sym (full-fits nodes known node dims value chunks h n is)
made-shape nodes known node input (Ramp dims start step chunks) h n is = sym (ramp-fits nodes known node dims start step chunks h n is)
made-shape nodes known node input (Negate of) h n is = (negate-fits nodes known node of h n is).1
made-shape nodes known node input (Elementwise op left right) h n is = (pair-fits nodes known node op left right h n is).1
made-shape nodes known node input (Where condition first second) h n is = (choice-fits nodes known node condition first second h n is).1
made-shape nodes known node input (Slice of parts) h n is = (slice-fits nodes known node of parts h n is).1
made-shape nodes known node input (Transpose of axes) h n is = (turn-fits nodes known node of axes h n is).1
made-shape nodes known node input (Rechunk of chunks) h n is = (rechunk-fits nodes known node of chunks h n is).1
made-shape nodes known node input (Concatenate of axis) h n is = (join-fits nodes known node of axis h n is).1
made-shape nodes known node input (Reduce fold of axes split) h n is = (fold-fits nodes known node fold of axes split h n is).1
made-shape nodes known node input (Tensordot left right left_axes right_axes) h n is = (dot-fits nodes known node left right left_axes right_axes h n is).1

-- what a node is made to be, from the arrays before it
made_of : (ℕ → List ℕ → ℤ) → List Node → ℕ → Node → Grid
made_of inputs nodes k node = formula node.op node.taken (inputs (inputs_before nodes k)) (array_at (arrays inputs (take k nodes)))

first_node : (nodes : List Node) {n : ℕ} → n < length nodes → Node
first_node [] h = absurd (omega (arith, h))
first_node (n ∷ nodes) h = n

front-shapes : (inputs : ℕ → List ℕ → ℤ) (nodes : List Node) (d : Node) → IsExpression nodes → (k : ℕ) → k ≤ length nodes → HaveShapes (arrays inputs (take k nodes)) (take k nodes)
front-shapes inputs nodes d s zero h = record { shapes = ap (map (λ (c : Cells). c.shape)) (arrays-none inputs) }
front-shapes inputs nodes d s (suc k) h =
    let node = get_or nodes k d in
    let is : slice_get nodes k ≡ Some (get_or nodes k d) = slice_get-get_or nodes k d (omega (arith, h)) in
    let before = front-shapes inputs nodes d s k (omega (arith, h)) in
    let known = arrays inputs (take k nodes) in
    let made : Cells = cells_of (formula node.op node.taken (inputs (inputs_before nodes k)) (array_at known)) in
    let one : k + 1 ≡ suc k = omega arith in
    subst (λ m. HaveShapes (arrays inputs (take m nodes)) (take m nodes)) one
    (subst (λ cs. HaveShapes cs (take (k + 1) nodes)) (arrays-next inputs nodes k node known made is refl refl)
    (shapes-next nodes k node known made is before (made-shape (take k nodes) known node (inputs (inputs_before nodes k)) node.op before (s.each k node is) refl)))

-- the array of node k
array-made : (inputs : ℕ → List ℕ → ℤ) (nodes : List Node) (k : ℕ) (node : Node) → slice_get nodes k ≡ Some node → array_at (arrays inputs nodes) k ≡ grid_of_cells (cells_of (made_of inputs nodes k node))
unfolding made_of
array-made inputs nodes k node is =
    let h : k < length nodes = slice_get_within nodes k node is in
    let known = arrays inputs (take k nodes) in
    let made : Cells = cells_of (formula node.op node.taken (inputs (inputs_before nodes k)) (array_at known)) in
    array-before inputs nodes k h ∙ ap (λ cs. array_at cs k) (sym (arrays-next inputs nodes k node known made is refl refl))
    ∙ ap grid_of_cells (get_or_push known made (record { shape = []; cells = [] }) k (length-arrays inputs (take k nodes) ∙ length-take-le k nodes (omega (arith, h))))

cells-at : (g : Grid) (i : List ℕ) → IsIn g.shape i → (grid_of_cells (cells_of g)).at i ≡ g.at i
cells-at g i h =
    get_or-map-range_with_len (λ p. g.at (index_at g.shape p)) 0 (elements g.shape) (place g.shape i) (place g.shape i) None (place-below g.shape i h) (omega arith)
    ∙ ap g.at (index_at-place g.shape i h)

element-made : (inputs : ℕ → List ℕ → ℤ) (nodes : List Node) (k : ℕ) (node : Node) (i : List ℕ) → IsExpression nodes → slice_get nodes k ≡ Some node → IsIn node.shape i → (array_at (arrays inputs nodes) k).at i ≡ (made_of inputs nodes k node).at i
unfolding made_of
element-made inputs nodes k node i s is h =
    let b : k < length nodes = slice_get_within nodes k node is in
    let known = arrays inputs (take k nodes) in
    let shape = made-shape (take k nodes) known node (inputs (inputs_before nodes k)) node.op (front-shapes inputs nodes node s k (omega (arith, b))) (s.each k node is) refl in
    ap (λ (g : Grid). g.at i) (array-made inputs nodes k node is) ∙ cells-at (made_of inputs nodes k node) i (subst (λ ns. IsIn ns i) (sym shape) h)

array-front : (inputs : ℕ → List ℕ → ℤ) (nodes : List Node) (k m : ℕ) → m < k → k ≤ length nodes → array_at (arrays inputs nodes) m ≡ array_at (arrays inputs (take k nodes)) m
array-front inputs nodes k m h b =
    ap (λ ns. array_at (arrays inputs ns) m) (sym (take-append-drop k nodes))
    ∙ arrays-front inputs (take k nodes) (drop k nodes) m (omega (arith, h, length-arrays inputs (take k nodes), length-take-le k nodes b))

-- ---- one node

module _ (nodes : List Node) (k : ℕ) (node : Node) (s : IsExpression nodes) (is : slice_get nodes k ≡ Some node) (f g : List ℕ → ℤ) (a b : ℕ → Grid) (i : List ℕ)
    (sa : (m : ℕ) → (a m).shape ≡ shape_at (take k nodes) m) (sb : (m : ℕ) → (b m).shape ≡ shape_at (take k nodes) m) (inside : IsIn (shape_at nodes k) i) where
  own : (c : ℕ → Grid) → ((m : ℕ) → (c m).shape ≡ shape_at (take k nodes) m) → (m : ℕ) → m < k → (c m).shape ≡ shape_at nodes m
  own c sc m h = sc m ∙ front-shape nodes k m h

  pub formula-same : (op : Op) → node.op ≡ op → (is_input op ≡ true → f i ≡ g i) → ((m : ℕ) (j : List ℕ) → Uses op node.taken (shape_at nodes) i m j → (a m).at j ≡ (b m).at j) → (formula op node.taken f a).at i ≡ (formula op node.taken g b).at i
  formula-same (Input dims chunks) e same h = ap Some (same refl)
  formula-same (Full dims value chunks) e same h = refl
  formula-same (Ramp dims start step chunks) e same h = refl
  formula-same (Negate of) e same h = ap negated_element (h of i (refl, refl))
  formula-same (Elementwise op left right) e same h =
      let n = names nodes k node s is (Elementwise op left right) e in
      pair-same op ((a left).at (under (a left).shape i)) ((a right).at (under (a right).shape i)) ((b left).at (under (b left).shape i)) ((b right).at (under (b right).shape i))
      (under-same (a left) (b left) (shape_at nodes left) i (own a sa left n.0) (own b sb left n.0) (h left (under (shape_at nodes left) i) (inl (refl, refl))))
      (under-same (a right) (b right) (shape_at nodes right) i (own a sa right n.1) (own b sb right n.1) (h right (under (shape_at nodes right) i) (inr (refl, refl))))
  formula-same (Where condition first second) e same h =
      let n = names nodes k node s is (Where condition first second) e in
      three-same ((a condition).at (under (a condition).shape i)) ((a first).at (under (a first).shape i)) ((a second).at (under (a second).shape i))
      ((b condition).at (under (b condition).shape i)) ((b first).at (under (b first).shape i)) ((b second).at (under (b second).shape i))
      (under-same (a condition) (b condition) (shape_at nodes condition) i (own a sa condition n.0) (own b sb condition n.0) (h condition (under (shape_at nodes condition) i) (inl (refl, refl))))
      (under-same (a first) (b first) (shape_at nodes first) i (own a sa first n.1) (own b sb first n.1) (h first (under (shape_at nodes first) i) (inr (inl (refl, refl)))))
      (under-same (a second) (b second) (shape_at nodes second) i (own a sa second n.2) (own b sb second n.2) (h second (under (shape_at nodes second) i) (inr (inr (refl, refl)))))
  formula-same (Slice of parts) e same h = h of (sliced_from 0 node.taken (dropped parts) i) (refl, refl)
  formula-same (Transpose of axes) e same h = h of (turned axes i) (refl, refl)
  formula-same (Rechunk of chunks) e same h = h of i (refl, refl)
  formula-same (Concatenate of axis) e same h =
      let n = names nodes k node s is (Concatenate of axis) e in
      joined-same axis (shape_at (take k nodes)) a b of i sa sb (join-axis nodes k node s is of axis i e inside)
      (λ branch m j c u. h m j (record {
        branch = branch;
        there = c;
        is = branch-whole nodes k node s is of axis branch i m j e c u;
      }))
  formula-same (Reduce fold of axes split) e same h =
      let n = names nodes k node s is (Reduce fold of axes split) e in
      fold-same fold of axes (a of) (b of) (shape_at nodes of) i (own a sa of n) (own b sb of n) (kept-in nodes k node s is fold of axes split i e inside) (λ j u. h of j u)
  formula-same (Tensordot left right left_axes right_axes) e same h =
      let n = names nodes k node s is (Tensordot left right left_axes right_axes) e in
      product-same left right left_axes right_axes (a left) (b left) (a right) (b right) (shape_at nodes left) (shape_at nodes right) i (own a sa left n.0) (own b sb left n.0) (own a sa right n.1) (own b sb right n.1)
      (pairs-fit nodes k node s is left right left_axes right_axes e) (paired-in nodes k node s is left right left_axes right_axes i e inside)
      (λ j u. h left j (inl u)) (λ j u. h right j (inr u))

-- ---- all nodes

-- two kinds of inputs have the same elements in the regions of the inputs among the first so many nodes
pub record AgreeInRegions (f g : ℕ → List ℕ → ℤ) (nodes : List Node) (regions : List (Option Box)) (count : ℕ) : Type 0 where
  pub each : (k : ℕ) (node : Node) → k < count → slice_get nodes k ≡ Some node → is_input node.op ≡ true → (i : List ℕ) → IsInRegion (region_at regions k) i → f (inputs_before nodes k) i ≡ g (inputs_before nodes k) i

used-inside : (P : List ℕ → Type 0) (r : Option Box) (j : List ℕ) → IsLeast P r → P j → IsInRegion r j
used-inside P None j l p = absurd (l j p)
used-inside P (Some box) j l p = l.has j p

module _ (nodes : List Node) (n : ℕ) (box : Box) (regions : List (Option Box)) (f g : ℕ → List ℕ → ℤ) (s : IsExpression nodes) (there : n < length nodes) (needed : AreNeeded nodes n box regions) (fits : (k : ℕ) (i : List ℕ) → IsInRegion (region_at regions k) i → IsIn (shape_at nodes k) i)
    (same : AgreeInRegions f g nodes regions (n + 1)) where
  node-agrees : (k : ℕ) (node : Node) → slice_get nodes k ≡ Some node → k < n + 1 → ((m : ℕ) → m < k → (j : List ℕ) → IsInRegion (region_at regions m) j → (array_at (arrays f nodes) m).at j ≡ (array_at (arrays g nodes) m).at j)
      → (i : List ℕ) → IsInRegion (region_at regions k) i → (array_at (arrays f nodes) k).at i ≡ (array_at (arrays g nodes) k).at i
  unfolding made_of
  node-agrees k node is h earlier i r =
      let b : k < length nodes = slice_get_within nodes k node is in
      let inside : IsIn (shape_at nodes k) i = fits k i r in
      let own : IsIn node.shape i = subst (λ ns. IsIn ns i) (shape-of nodes k node b (get_or_from_slice_get nodes k node node is)) inside in
      let below : k ≤ length nodes = omega (arith, b) in
      element-made f nodes k node i s is own
      ∙ formula-same nodes k node s is (f (inputs_before nodes k)) (g (inputs_before nodes k)) (array_at (arrays f (take k nodes))) (array_at (arrays g (take k nodes))) i
      (shape-known (arrays f (take k nodes)) (take k nodes) (front-shapes f nodes node s k below)) (shape-known (arrays g (take k nodes)) (take k nodes) (front-shapes g nodes node s k below)) inside node.op refl
      (λ e. same.each k node h is e i r)
      (λ m j u.
      let l : m < k = uses-below node.op node.taken (shape_at nodes) i k m j (names nodes k node s is node.op refl) u in
      let v : IsInRegion (region_at regions m) j = used-inside (λ x. IsAsked n box m x ⊎ IsUsedFrom nodes regions 0 m x) (region_at regions m) j (needed.each m (omega (arith, l, h))) (inr (record { user = k; later = omega arith; node = node; is = is; index = i; inside = r; uses = u })) in
      ap (λ (c : Grid). c.at j) (sym (array-front f nodes k m l below)) ∙ earlier m l j v ∙ ap (λ (c : Grid). c.at j) (array-front g nodes k m l below))
      ∙ sym (element-made g nodes k node i s is own)

  agree-below : Node → (bound : ℕ) → bound ≤ n + 1 → (k : ℕ) → k < bound → (i : List ℕ) → IsInRegion (region_at regions k) i → (array_at (arrays f nodes) k).at i ≡ (array_at (arrays g nodes) k).at i
  agree-below d zero b k h i r = absurd (omega (arith, h))
  agree-below d (suc bound) b k h i r = by (agree-below d bound (omega (arith, b))) (cases_lt k bound)
    where
      by : ((m : ℕ) → m < bound → (j : List ℕ) → IsInRegion (region_at regions m) j → (array_at (arrays f nodes) m).at j ≡ (array_at (arrays g nodes) m).at j) → (k < bound) ⊎ (bound ≤ k) → (array_at (arrays f nodes) k).at i ≡ (array_at (arrays g nodes) k).at i
      by earlier (inl l) = earlier k l i r
      by earlier (inr l) = node-agrees k (get_or nodes k d) (slice_get-get_or nodes k d (omega (arith, h, b, there))) (omega (arith, h, b)) (λ m x. earlier m (omega (arith, x, h))) i r

  pub needed-same : Node → (i : List ℕ) → IsInBox box i → (array_at (arrays f nodes) n).at i ≡ (array_at (arrays g nodes) n).at i
  needed-same d i b = agree-below d (n + 1) (omega arith) n (omega arith) i (used-inside (λ j. IsAsked n box n j ⊎ IsUsedFrom nodes regions 0 n j) (region_at regions n) i (needed.each n (omega arith)) (inl (refl, b)))

-- ---- the region's block

cells-same : (f g : ℕ → Option ℤ) (n : ℕ) → ((p : ℕ) → p < n → f p ≡ g p) → cells_up_to f n ≡ cells_up_to g n
unfolding cells_up_to
cells-same f g zero same = refl
cells-same f g (suc n) same = ap (λ r. then_cell n r (f n)) (cells-same f g n (λ p h. same p (omega (arith, h)))) ∙ ap (then_cell n (cells_up_to g n)) (same n (omega arith))

moved-inside : (box : Box) (dims i : List ℕ) → IsPart box dims → IsIn box.lengths i → IsInBox box (moved box.start i)
moved-inside box dims i p h =
    let l : length i ≡ length box.start = IsIn-length box.lengths i h ∙ p.lengths ∙ sym p.starts in
    record {
      axes = length-moved box.start i l;
      low = λ a b. omega (arith, moved-at box.start i a b (omega (arith, l)));
      high = λ a b. omega (arith, moved-at box.start i a b (omega (arith, l)), IsIn-at box.lengths i a h (omega (arith, p.lengths, p.starts)));
    }

part-same : (a b : Grid) (box : Box) (dims : List ℕ) → IsPart box dims → ((i : List ℕ) → IsInBox box i → a.at i ≡ b.at i) → block_of (part box a) ≡ block_of (part box b)
part-same a b box dims p same =
    ap (as_array box.lengths) (cells-same (λ q. a.at (moved box.start (index_at box.lengths q))) (λ q. b.at (moved box.start (index_at box.lengths q))) (elements box.lengths)
    (λ q h. same (moved box.start (index_at box.lengths q)) (moved-inside box dims (index_at box.lengths q) p (index_at-in box.lengths q h))))

plain-same : (a b : Grid) (n : ℕ) (box : Box) (outcome : PlainOutcome) → block_of (part box a) ≡ block_of (part box b) → IsPartOf a n box outcome → IsPartOf b n box outcome
plain-same a b n box (Values block) e p = sym e ∙ p
plain-same a b n box (Zero node position) e p = (p.0, sym e ∙ p.1)

pub plain-needed : (nodes : List Node) (n : ℕ) (box : Box) (regions : List (Option Box)) (f g : ℕ → List ℕ → ℤ) (outcome : PlainOutcome) → IsExpression nodes → n < length nodes → IsPart box (shape_at nodes n) → AreNeeded nodes n box regions → AreFit nodes regions
    → AgreeInRegions f g nodes regions (n + 1) → IsPlain f nodes n box outcome → IsPlain g nodes n box outcome
plain-needed nodes n box regions f g outcome s h p needed fit same plain =
    plain-same (array_at (arrays f nodes) n) (array_at (arrays g nodes) n) n box outcome
    (part-same (array_at (arrays f nodes) n) (array_at (arrays g nodes) n) box (shape_at nodes n) p
    (needed-same nodes n box regions f g s h needed (λ k i r. region-in (shape_at nodes k) (region_at regions k) i (fit.each k) r) same (first_node nodes h))) plain
