-- What is lowered is fed: the inputs of each task have the shapes that its dependencies make.
use Rattle.std.proofs.Common.{◌≡◌, ℕ, suc, ◌<◌, ◌≤◌, List, [], ◌∷◌, ◌++◌, length, map, drop, take, get_or, refl, ap, sym, subst, ◌∙◌, arith, inl, inr, pos}
use Rattle.std.specs.Prelude.{All}
use Rattle.std.specs.List.{AllByRecursion}
use Rattle.std.proofs.lemmas.Bool.{cases_lt}
use Rattle.std.proofs.lemmas.List.{length-map, length-take-le, get_or-map, get_or_append_left, get_or_push}
use Rattle.std.proofs.lemmas.Option.{slice_get_within}
use Rattle.nd_shape.specs.Chunk.{total}
use Rattle.nd_shape.specs.declared.slice.Steps.{Steps}
use Rattle.nd_grid.specs.declared.operation.Binary.TheVariants.{Sub}
use Rattle.nd_grid.specs.Grid.{SlicesFit}
use Rattle.array_expr.specs.declared.op.Op.{Op}
use Rattle.array_expr.specs.declared.op.Op.TheVariants.{Input, Full, Ramp, Negate, Elementwise, Where, Slice, Transpose, Rechunk, Concatenate, Reduce, Tensordot}
use Rattle.array_expr.specs.declared.expr.Node.{Node}
use Rattle.array_expr.specs.Axes.{AreCut}
use Rattle.array_expr.specs.Node.{shape_at, dropped, folded_axes, NamesEarlier, Makes, IsExpression}
use Rattle.expr_laws.specs.Formulas.{inputs_before}
use Rattle.plain_eval.proofs.Fitting.{takes-fit}
use Rattle.chunk_layout.specs.Layouts.{normalized}
use Rattle.task_graph.specs.declared.graph.Task.{Task}
use Rattle.lowering_laws.specs.Sources.{Source}
use Rattle.lowering_laws.specs.Stages.{Literal, Pair, Choice, no_source}
use Rattle.lowering_laws.specs.Lowered.{no_node, source_at, arg_of_op, arg_of, lower_op, Lowering, with_made, lower_from, lowering}
use Rattle.lowering_laws.specs.Law.{Stand}
use Rattle.lowering_laws.proofs.Plain.{IsOrder}
use Rattle.lowering_laws.proofs.Products.{AreOnce}
use Rattle.lowering_laws.proofs.Cutting.{chunks-on, lengths-normalized}
use Rattle.lowering_laws.proofs.Lowering.{shape-front, drop-head, drop-none, order-of, once-of, lower-extends, Stand-here}
use Rattle.lowering_laws.proofs.Good.{none-good}
use Rattle.lowering_laws.proofs.Order.{IsKnown, AllKnown, IsInOrder, axes-known, arg-below, point-arg, operands, one-node}
use Rattle.lowering_laws.proofs.Fed.{AreFed, IsShaped, IsCut, none-fed, fed-append, cut-filled, cut-loaded, cut-sliced, cut-transposed, cut-rechunked}
use Rattle.lowering_laws.proofs.FedPoints.{ArgShaped, cut-pointwise, cut-joined}
use Rattle.lowering_laws.proofs.FedFolded.{cut-reduced, cut-contracted}

abbrev pub AllShaped : List Task → List Source → ℕ → Type 0
AllShaped all sources n = (k : ℕ) → k < n → IsShaped all (source_at sources k)

arg-shaped : (all : List Task) (op : Op) (s : Source) → IsShaped all s → ArgShaped all (arg_of_op op s)
arg-shaped all (Input dims chunks) s h = h
arg-shaped all (Full [] v chunks) s h = tt
arg-shaped all (Full (d ∷ dims) v chunks) s h = h
arg-shaped all (Ramp dims start step chunks) s h = h
arg-shaped all (Negate of) s h = h
arg-shaped all (Elementwise op left right) s h = h
arg-shaped all (Where condition first second) s h = h
arg-shaped all (Slice of parts) s h = h
arg-shaped all (Transpose of axes) s h = h
arg-shaped all (Rechunk of chunks) s h = h
arg-shaped all (Concatenate of axis) s h = h
arg-shaped all (Reduce fold of axes split) s h = h
arg-shaped all (Tensordot left right left_axes right_axes) s h = h

pub arg-at : (all : List Task) (nodes : List Node) (sources : List Source) (n k : ℕ) → k < n → AllShaped all sources n → ArgShaped all (arg_of nodes sources k)
arg-at all nodes sources n k lt sh = arg-shaped all (get_or nodes k no_node).op (source_at sources k) (sh k lt)

pub all-shaped : (all : List Task) (sources : List Source) (n : ℕ) (of : List ℕ) → All (λ k. k < n) of → AllShaped all sources n → AllByRecursion (IsShaped all) (map (source_at sources) of)
all-shaped all sources n [] a sh = tt
all-shaped all sources n (k ∷ of) a sh = (sh k (a 0 0 (omega arith)), all-shaped all sources n of (λ j d lt. a (suc j) d (omega (arith, lt))) sh)

pub op-cut : (all : List Task) (nodes : List Node) (sources : List Source) (n : ℕ) (op : Op) (taken : List Steps) (shape : List ℕ) (base : ℕ) → n ≤ length nodes → NamesEarlier op n → Makes (take n nodes) op taken shape → AllKnown base nodes sources n
    → AllShaped all sources n → Stand all base (lower_op nodes sources n taken shape op base).tasks → IsCut all (lower_op nodes sources n taken shape op base)
op-cut all nodes sources n (Input dims chunks) taken shape base le names makes known sh stand = cut-loaded all (inputs_before nodes n) (normalized dims chunks) base stand
op-cut all nodes sources n (Full dims v chunks) taken shape base le names makes known sh stand = cut-filled all dims (normalized dims chunks) v (pos 0) base stand
op-cut all nodes sources n (Ramp dims start step chunks) taken shape base le names makes known sh stand = cut-filled all dims (normalized dims chunks) start step base stand
op-cut all nodes sources n (Negate of) taken shape base le names makes known sh stand =
    let it : IsKnown base (source_at sources of) (shape_at nodes of) = known of names in
    let axes : length (source_at sources of).layout ≡ length (shape_at nodes of) = axes-known base (source_at sources of) (shape_at nodes of) it in
    let same : length shape ≡ length (shape_at nodes of) = ap length (makes.0 ∙ shape-front nodes n of names) in
    cut-pointwise all (Pair Sub) shape (Literal (pos 0) ∷ arg_of nodes sources of ∷ []) base
    (tt, (arg-below base (length shape) (get_or nodes of no_node).op (source_at sources of) it.below (omega arith), tt))
    (tt, (arg-at all nodes sources n of names sh, tt)) stand
op-cut all nodes sources n (Elementwise op left right) taken shape base le names makes known sh stand =
    let shapes = shape_at (take n nodes) left ∷ shape_at (take n nodes) right ∷ [] in
    cut-pointwise all (Pair op) shape (arg_of nodes sources left ∷ arg_of nodes sources right ∷ []) base (
      point-arg nodes sources n left base shape shapes 0 names.0 known makes.1 (omega arith) (shape-front nodes n left names.0),
      (point-arg nodes sources n right base shape shapes 1 names.1 known makes.1 (omega arith) (shape-front nodes n right names.1), tt),
    )
    (arg-at all nodes sources n left names.0 sh, (arg-at all nodes sources n right names.1 sh, tt)) stand
op-cut all nodes sources n (Where condition first second) taken shape base le names makes known sh stand =
    let shapes = shape_at (take n nodes) condition ∷ shape_at (take n nodes) first ∷ shape_at (take n nodes) second ∷ [] in
    cut-pointwise all Choice shape (arg_of nodes sources condition ∷ arg_of nodes sources first ∷ arg_of nodes sources second ∷ []) base (
      point-arg nodes sources n condition base shape shapes 0 names.0 known makes.1 (omega arith) (shape-front nodes n condition names.0),
      (
        point-arg nodes sources n first base shape shapes 1 names.1 known makes.1 (omega arith) (shape-front nodes n first names.1),
        (point-arg nodes sources n second base shape shapes 2 names.2 known makes.1 (omega arith) (shape-front nodes n second names.2), tt),
      ),
    )
    (arg-at all nodes sources n condition names.0 sh, (arg-at all nodes sources n first names.1 sh, (arg-at all nodes sources n second names.2 sh, tt))) stand
op-cut all nodes sources n (Slice of parts) taken shape base le names makes known sh stand =
    let it : IsKnown base (source_at sources of) (shape_at nodes of) = known of names in
    cut-sliced all (source_at sources of) taken (dropped parts) base it.some
    (subst (λ ns. SlicesFit 0 taken ns (dropped parts)) (shape-front nodes n of names ∙ sym it.cut) (takes-fit (shape_at (take n nodes) of) parts taken makes.0)) (sh of names) stand
op-cut all nodes sources n (Transpose of axes) taken shape base le names makes known sh stand =
    let it : IsKnown base (source_at sources of) (shape_at nodes of) = known of names in
    let number : length (shape_at (take n nodes) of) ≡ length (source_at sources of).layout = ap length (shape-front nodes n of names) ∙ sym (axes-known base (source_at sources of) (shape_at nodes of) it) in
    cut-transposed all (source_at sources of) axes base (subst (IsOrder axes) number (order-of axes (length (shape_at (take n nodes) of)) makes.0 makes.1)) (sh of names) stand
op-cut all nodes sources n (Rechunk of chunks) taken shape base le names makes known sh stand =
    let it : IsKnown base (source_at sources of) (shape_at nodes of) = known of names in
    let cut : AreCut shape chunks = subst (λ ns. AreCut ns chunks) (sym makes.1) makes.0 in
    let number : length (normalized shape chunks) ≡ length shape = sym (length-map (normalized shape chunks) (λ (sizes : List ℕ). total sizes)) ∙ ap length (lengths-normalized shape chunks cut) in
    cut-rechunked all (source_at sources of) (normalized shape chunks) base
    (axes-known base (source_at sources of) (shape_at nodes of) it ∙ ap length (sym (shape-front nodes n of names) ∙ sym makes.1) ∙ sym number) (sh of names) stand
op-cut all nodes sources n (Concatenate [] axis) taken shape base le names makes known sh stand = absurd (let t = makes.0.there in omega arith)
op-cut all nodes sources n (Concatenate (x ∷ xs) axis) taken shape base le names makes known sh stand =
    let it : IsKnown base (source_at sources x) (shape_at nodes x) = known x (names 0 0 (omega arith)) in
    let axes : length (source_at sources x).layout ≡ length (shape_at nodes x) = axes-known base (source_at sources x) (shape_at nodes x) it in
    let first : shape_at (take n nodes) x ≡ shape_at nodes x = shape-front nodes n x (names 0 0 (omega arith)) in
    let there : axis < length (shape_at nodes x) = subst (λ ns. axis < length ns) first makes.0.there in
    let each : (p : ℕ) → p < length (x ∷ xs) → length (shape_at nodes (get_or (x ∷ xs) p 0)) ≡ length (source_at sources x).layout = λ p h.
    ap length (sym (shape-front nodes n (get_or (x ∷ xs) p 0) (names p 0 h)))
    ∙ ap length (sym (get_or-map (shape_at (take n nodes)) (x ∷ xs) p 0 [] h))
    ∙ makes.0.axes p [] (omega (arith, h, length-map (x ∷ xs) (shape_at (take n nodes))))
    ∙ ap length first ∙ sym axes in
    cut-joined all axis (source_at sources x) (map (source_at sources) xs) base (operands nodes sources n base (length (source_at sources x).layout) (x ∷ xs) names each known) (omega arith)
    (chunks-on (source_at sources x).layout axis it.some (omega arith)) (all-shaped all sources n (x ∷ xs) names sh) stand
op-cut all nodes sources n (Reduce fold of axes split) taken shape base le names makes known sh stand =
    let it : IsKnown base (source_at sources of) (shape_at nodes of) = known of names in
    cut-reduced all fold (folded_axes axes (length (shape_at nodes of))) split (source_at sources of) base it.some makes.0.split_fits (sh of names) stand
op-cut all nodes sources n (Tensordot left right left_axes right_axes) taken shape base le names makes known sh stand =
    let l : IsKnown base (source_at sources left) (shape_at nodes left) = known left names.0 in
    let nl : length (shape_at (take n nodes) left) ≡ length (source_at sources left).layout = ap length (shape-front nodes n left names.0) ∙ sym (axes-known base (source_at sources left) (shape_at nodes left) l) in
    cut-contracted all left_axes right_axes (source_at sources left) (source_at sources right) base l.some
    (subst (AreOnce left_axes) nl (once-of left_axes (length (shape_at (take n nodes) left)) makes.0.left_fit)) makes.0.number (sh left names.0) (sh right names.1) stand

-- ---- all nodes

pub record IsShapely (all : List Task) (nodes : List Node) (l : Lowering) : Type 0 where
  pub fed : AreFed all l.tasks
  pub shaped : AllShaped all l.sources (length nodes)

shapes-from : (all : List Task) (nodes : List Node) → IsExpression nodes → (n : ℕ) (l : Lowering) (rest : List Node) → drop n nodes ≡ rest → IsInOrder nodes n l → (lower_from nodes n l rest).tasks ≡ all → AreFed all l.tasks → AllShaped all l.sources n
    → IsShapely all nodes (lower_from nodes n l rest)
shapes-from all nodes ex n l [] at o is fed sh = record { fed = fed; shaped = λ k h. sh k (omega (arith, drop-none nodes n at)) }
shapes-from all nodes ex n l (x ∷ rest) at o is fed sh =
    let d = drop-head nodes rest n x at in
    let m = lower_op nodes l.sources n x.taken x.shape x.op (length l.tasks) in
    let more = lower-extends nodes (suc n) (with_made l n m) rest in
    let stand : Stand all (length l.tasks) m.tasks = Stand-here all l.tasks m.tasks more.tasks (sym is ∙ more.tasks_are) in
    let le : n < length nodes = slice_get_within nodes n x d.0 in
    let node = ex.each n x d.0 in
    let count : length (take n nodes) ≡ n = length-take-le n nodes (omega arith) in
    let c : IsCut all m = op-cut all nodes l.sources n x.op x.taken x.shape (length l.tasks) (omega arith) (subst (NamesEarlier x.op) count node.names.there) node.makes o.known sh stand in
    let oc = o.count in
    shapes-from all nodes ex (suc n) (with_made l n m) rest d.1 (one-node nodes n l x ex d.0 o) is (fed-append all l.tasks m.tasks fed c.fed) (λ k lt. elim (cases_lt k n) [
      | inl a ↦ subst (IsShaped all) (sym (get_or_append_left l.sources (m.source ∷ []) no_source k (omega arith))) (sh k a)
      | inr a ↦ let same : n ≡ k = omega arith in
          subst (λ j. IsShaped all (source_at (l.sources ++ m.source ∷ []) j)) same (subst (IsShaped all) (sym (get_or_push l.sources m.source no_source n o.count)) c.shaped)
    ])

-- what is lowered is fed, and each block's key makes the block's lengths
pub lowering-shapes : (nodes : List Node) → IsExpression nodes → IsShapely (lowering nodes).tasks nodes (lowering nodes)
lowering-shapes nodes ex = shapes-from (lowering nodes).tasks nodes ex 0 _ nodes refl (record { good = none-good 0; known = λ k h. absurd (omega arith); count = refl }) refl (none-fed (lowering nodes).tasks) (λ k h. absurd (omega arith))
