-- Each task that a node is lowered to is well formed.
use Rattle.std.proofs.Common.{◌≡◌, ◌≢◌, ℕ, suc, ◌<◌, ◌≤◌, List, [], ◌∷◌, length, map, take, get_or, refl, ap, sym, subst, ◌∙◌, arith, ℤ, pos}
use Rattle.std.specs.Prelude.{All}
use Rattle.std.specs.List.{AllByRecursion}
use Rattle.std.proofs.lemmas.Option.{slice_get-get_or}
use Rattle.nd_shape.specs.declared.slice.Steps.{Steps}
use Rattle.nd_shape.specs.Shape.{IsShape}
use Rattle.nd_shape.specs.Region.{IsPart}
use Rattle.nd_shape.specs.Broadcast.{broadcast, Agree}
use Rattle.nd_grid.specs.declared.operation.Binary.TheVariants.{Sub}
use Rattle.nd_grid.specs.Grid.{Grid, SlicesFit, filled}
use Rattle.array_expr.specs.declared.op.Op.{Op}
use Rattle.array_expr.specs.declared.op.Op.TheVariants.{Input, Full, Ramp, Negate, Elementwise, Where, Slice, Transpose, Rechunk, Concatenate, Reduce, Tensordot}
use Rattle.array_expr.specs.declared.expr.Node.{Node}
use Rattle.array_expr.specs.Axes.{AreCut, AreAxes as AreListed}
use Rattle.array_expr.specs.Elem.{is_input}
use Rattle.array_expr.specs.Node.{shape_at, dropped, folded_axes, NeedsElements, NamesEarlier, Makes, IsExpression}
use Rattle.expr_laws.specs.Formulas.{whole, inputs_before}
use Rattle.plain_eval.proofs.Fitting.{takes-fit}
use Rattle.block_kernels.specs.WellFormed.{AreAxes}
use Rattle.chunk_layout.specs.Layouts.{lengths, normalized, box_at}
use Rattle.task_graph.specs.declared.graph.Task.{Task}
use Rattle.lowering_laws.specs.Sources.{Source}
use Rattle.lowering_laws.specs.Stages.{Literal}
use Rattle.lowering_laws.specs.Lowered.{no_node, source_at, arg_of, lower_op}
use Rattle.lowering_laws.specs.Law.{Stand}
use Rattle.lowering_laws.proofs.Plain.{IsOrder}
use Rattle.lowering_laws.proofs.Products.{AreOnce}
use Rattle.lowering_laws.proofs.Cutting.{lengths-normalized}
use Rattle.lowering_laws.proofs.Lowering.{AllHeld, shape-is, shape-front, order-of, once-of, arg-carries, all-sources, joined-of, number-agrees, number-broadcast}
use Rattle.lowering_laws.proofs.Order.{IsKnown, AllKnown, axes-known, arg-below, point-arg}
use Rattle.lowering_laws.proofs.Shapes.{AllShaped, arg-at}
use Rattle.lowering_laws.proofs.TightNodes.{AllTight}
use Rattle.lowering_laws.proofs.Formed.{AreFormed, box-part, formed-filled, formed-loaded, formed-transposed}
use Rattle.lowering_laws.proofs.FormedSlices.{dropped-are, formed-sliced}
use Rattle.lowering_laws.proofs.FormedPieces.{formed-rechunked}
use Rattle.lowering_laws.proofs.FormedPoints.{formed-pair, formed-choice}
use Rattle.lowering_laws.proofs.FormedJoined.{formed-joined}
use Rattle.lowering_laws.proofs.FormedFolded.{axes-of, formed-reduced, formed-contracted}
use Rattle.nd_shape.proofs.Broadcasts.{no_axes}

-- each node's array has a shape
pub node-shape : (nodes : List Node) (k : ℕ) → IsExpression nodes → k < length nodes → IsShape (shape_at nodes k)
node-shape nodes k ex h = subst IsShape (sym (shape-is nodes k)) (ex.each k (get_or nodes k no_node) (slice_get-get_or nodes k no_node h)).limits

all-shapes : (files : ℕ → List ℕ → ℤ) (nodes : List Node) (n : ℕ) (of : List ℕ) → IsExpression nodes → n ≤ length nodes → All (λ k. k < n) of → AllByRecursion (λ (g : Grid). IsShape g.shape) (map (whole files nodes) of)
all-shapes files nodes n [] ex le a = tt
all-shapes files nodes n (k ∷ of) ex le a = (node-shape nodes k ex (let b : k < n = a 0 0 (omega arith) in omega arith), all-shapes files nodes n of ex le (λ j d lt. a (suc j) d (omega (arith, lt))))

-- what is known where node n is lowered
pub record IsAt (all : List Task) (nodes : List Node) (sources : List Source) (n base : ℕ) : Type 0 where
  pub expression : IsExpression nodes
  pub there : n < length nodes
  pub known : AllKnown base nodes sources n
  pub shaped : AllShaped all sources n
  pub tight : AllTight sources n

pub op-formed : (files : ℕ → List ℕ → ℤ) (tasks all : List Task) (nodes : List Node) (sources : List Source) (n : ℕ) (op : Op) (taken : List Steps) (shape : List ℕ) (base : ℕ) → IsAt all nodes sources n base → AllHeld files tasks nodes sources n
    → is_input op ≡ is_input (get_or nodes n no_node).op → shape ≡ shape_at nodes n → NamesEarlier op n → Makes (take n nodes) op taken shape → IsShape (lengths (lower_op nodes sources n taken shape op base).source.layout)
    → Stand all base (lower_op nodes sources n taken shape op base).tasks → AreFormed nodes (lower_op nodes sources n taken shape op base).tasks
op-formed files tasks all nodes sources n (Input dims chunks) taken shape base at held input is names makes sh stand =
    formed-loaded nodes (inputs_before nodes n) (normalized dims chunks) base sh (λ bs h. record {
      node = n;
      there = at.there;
      input_is = sym input;
      number = refl;
      part = subst (IsPart (box_at (normalized dims chunks) bs)) (lengths-normalized dims chunks makes.0 ∙ sym makes.1 ∙ is) (box-part (normalized dims chunks) bs h);
    })
op-formed files tasks all nodes sources n (Full dims v chunks) taken shape base at held input is names makes sh stand = formed-filled nodes dims (normalized dims chunks) v (pos 0) base (lengths-normalized dims chunks makes.0) sh
op-formed files tasks all nodes sources n (Ramp dims start step chunks) taken shape base at held input is names makes sh stand = formed-filled nodes dims (normalized dims chunks) start step base (lengths-normalized dims chunks makes.0) sh
op-formed files tasks all nodes sources n (Negate of) taken shape base at held input is names makes sh stand =
    let it : IsKnown base (source_at sources of) (shape_at nodes of) = at.known of names in
    let axes : length (source_at sources of).layout ≡ length (shape_at nodes of) = axes-known base (source_at sources of) (shape_at nodes of) it in
    let there = at.there in
    let same : length shape ≡ length (shape_at nodes of) = ap length (makes.0 ∙ shape-front nodes n of names) in
    formed-pair nodes files tasks all Sub shape (Literal (pos 0)) (arg_of nodes sources of) (filled [] (pos 0)) (whole files nodes of) base
    (record { shape = refl; at = refl }, (arg-carries files tasks nodes sources of at.expression (omega (arith, names)) (held of names).carries, tt))
    (number-agrees (shape_at nodes of)) (makes.0 ∙ shape-front nodes n of names ∙ sym (number-broadcast (shape_at nodes of)))
    (tt, (arg-below base (length shape) (get_or nodes of no_node).op (source_at sources of) it.below (omega arith), tt))
    (tt, (arg-at all nodes sources n of names at.shaped, tt)) (no_axes, (node-shape nodes of at.expression (omega (arith, names)), tt)) (subst IsShape (sym is) (node-shape nodes n at.expression at.there)) stand
op-formed files tasks all nodes sources n (Elementwise op left right) taken shape base at held input is names makes sh stand =
    let there = at.there in
    let shapes = shape_at (take n nodes) left ∷ shape_at (take n nodes) right ∷ [] in
    let same : shape_at (take n nodes) left ∷ shape_at (take n nodes) right ∷ [] ≡ shape_at nodes left ∷ shape_at nodes right ∷ [] =
    ap (λ ns. ns ∷ shape_at (take n nodes) right ∷ []) (shape-front nodes n left names.0) ∙ ap (λ ns. shape_at nodes left ∷ ns ∷ []) (shape-front nodes n right names.1) in
    formed-pair nodes files tasks all op shape (arg_of nodes sources left) (arg_of nodes sources right) (whole files nodes left) (whole files nodes right) base
    (arg-carries files tasks nodes sources left at.expression (omega (arith, names.0)) (held left names.0).carries, (arg-carries files tasks nodes sources right at.expression (omega (arith, names.1)) (held right names.1).carries, tt))
    (subst Agree same makes.0) (makes.1 ∙ ap broadcast same) (
      point-arg nodes sources n left base shape shapes 0 names.0 at.known makes.1 (omega arith) (shape-front nodes n left names.0),
      (point-arg nodes sources n right base shape shapes 1 names.1 at.known makes.1 (omega arith) (shape-front nodes n right names.1), tt),
    )
    (arg-at all nodes sources n left names.0 at.shaped, (arg-at all nodes sources n right names.1 at.shaped, tt))
    (node-shape nodes left at.expression (omega (arith, names.0)), (node-shape nodes right at.expression (omega (arith, names.1)), tt)) (subst IsShape (sym is) (node-shape nodes n at.expression at.there)) stand
op-formed files tasks all nodes sources n (Where condition first second) taken shape base at held input is names makes sh stand =
    let there = at.there in
    let shapes = shape_at (take n nodes) condition ∷ shape_at (take n nodes) first ∷ shape_at (take n nodes) second ∷ [] in
    let same : shape_at (take n nodes) condition ∷ shape_at (take n nodes) first ∷ shape_at (take n nodes) second ∷ [] ≡ shape_at nodes condition ∷ shape_at nodes first ∷ shape_at nodes second ∷ [] =
    ap (λ ns. ns ∷ shape_at (take n nodes) first ∷ shape_at (take n nodes) second ∷ []) (shape-front nodes n condition names.0)
    ∙ ap (λ ns. shape_at nodes condition ∷ ns ∷ shape_at (take n nodes) second ∷ []) (shape-front nodes n first names.1)
    ∙ ap (λ ns. shape_at nodes condition ∷ shape_at nodes first ∷ ns ∷ []) (shape-front nodes n second names.2) in
    formed-choice nodes files tasks all shape (arg_of nodes sources condition) (arg_of nodes sources first) (arg_of nodes sources second) (whole files nodes condition) (whole files nodes first) (whole files nodes second) base
    (arg-carries files tasks nodes sources condition at.expression (omega (arith, names.0)) (held condition names.0).carries, (arg-carries files tasks nodes sources first at.expression (omega (arith, names.1)) (held first names.1).carries, (arg-carries files tasks nodes sources second at.expression (omega (arith, names.2)) (held second names.2).carries, tt)))
    (subst Agree same makes.0) (makes.1 ∙ ap broadcast same) (
      point-arg nodes sources n condition base shape shapes 0 names.0 at.known makes.1 (omega arith) (shape-front nodes n condition names.0),
      (
        point-arg nodes sources n first base shape shapes 1 names.1 at.known makes.1 (omega arith) (shape-front nodes n first names.1),
        (point-arg nodes sources n second base shape shapes 2 names.2 at.known makes.1 (omega arith) (shape-front nodes n second names.2), tt),
      ),
    )
    (arg-at all nodes sources n condition names.0 at.shaped, (arg-at all nodes sources n first names.1 at.shaped, (arg-at all nodes sources n second names.2 at.shaped, tt)))
    (node-shape nodes condition at.expression (omega (arith, names.0)), (node-shape nodes first at.expression (omega (arith, names.1)), (node-shape nodes second at.expression (omega (arith, names.2)), tt)))
    (subst IsShape (sym is) (node-shape nodes n at.expression at.there)) stand
op-formed files tasks all nodes sources n (Slice of parts) taken shape base at held input is names makes sh stand =
    let it : IsKnown base (source_at sources of) (shape_at nodes of) = at.known of names in
    let axes : length (source_at sources of).layout ≡ length (shape_at nodes of) = axes-known base (source_at sources of) (shape_at nodes of) it in
    let front : length (shape_at (take n nodes) of) ≡ length (shape_at nodes of) = ap length (shape-front nodes n of names) in
    formed-sliced nodes (source_at sources of) taken (dropped parts) base it.some
    (subst (λ ns. SlicesFit 0 taken ns (dropped parts)) (shape-front nodes n of names ∙ sym it.cut) (takes-fit (shape_at (take n nodes) of) parts taken makes.0)) (dropped-are parts (length (source_at sources of).layout) (omega (arith, makes.0.parts_fit))) sh
op-formed files tasks all nodes sources n (Transpose of axes) taken shape base at held input is names makes sh stand =
    let it : IsKnown base (source_at sources of) (shape_at nodes of) = at.known of names in
    let number : length (shape_at (take n nodes) of) ≡ length (source_at sources of).layout = ap length (shape-front nodes n of names) ∙ sym (axes-known base (source_at sources of) (shape_at nodes of) it) in
    formed-transposed nodes (source_at sources of) axes base (subst (IsOrder axes) number (order-of axes (length (shape_at (take n nodes) of)) makes.0 makes.1)) sh
op-formed files tasks all nodes sources n (Rechunk of chunks) taken shape base at held input is names makes sh stand =
    let cut : AreCut shape chunks = subst (λ ns. AreCut ns chunks) (sym makes.1) makes.0 in
    formed-rechunked nodes (source_at sources of) (normalized shape chunks) base ((held of names).carries.shape ∙ sym (lengths-normalized shape chunks cut ∙ makes.1 ∙ shape-front nodes n of names)) sh
op-formed files tasks all nodes sources n (Concatenate [] axis) taken shape base at held input is names makes sh stand = absurd (let t = makes.0.there in omega arith)
op-formed files tasks all nodes sources n (Concatenate (x ∷ xs) axis) taken shape base at held input is names makes sh stand =
    let there = at.there in
    formed-joined nodes files tasks axis (source_at sources x) (map (source_at sources) xs) (whole files nodes x) (map (whole files nodes) xs) base (all-sources files tasks nodes sources n (x ∷ xs) names held) (joined-of files nodes n x xs axis names makes.0)
    (all-shapes files nodes n (x ∷ xs) at.expression (omega arith) names) sh
op-formed files tasks all nodes sources n (Reduce fold of axes split) taken shape base at held input is names makes sh stand =
    let it : IsKnown base (source_at sources of) (shape_at nodes of) = at.known of names in
    let dims = shape_at (take n nodes) of in
    let folded = folded_axes axes (length (shape_at nodes of)) in
    let front : shape_at (take n nodes) of ≡ shape_at nodes of = shape-front nodes n of names in
    let same : folded_axes axes (length (shape_at (take n nodes) of)) ≡ folded_axes axes (length (shape_at nodes of)) = ap (λ ns. folded_axes axes (length ns)) front in
    let number : length (shape_at (take n nodes) of) ≡ length (source_at sources of).layout = ap length front ∙ sym (axes-known base (source_at sources of) (shape_at nodes of) it) in
    let listed : AreListed (length (source_at sources of).layout) folded = subst (λ k. AreListed k folded) number (subst (AreListed (length dims)) same makes.0.axes_fit) in
    let some : NeedsElements fold → All (λ a. get_or (lengths (source_at sources of).layout) a 0 ≢ 0) folded = λ need.
    subst (λ ns. All (λ a. get_or ns a 0 ≢ 0) folded) (front ∙ sym it.cut) (subst (All (λ a. get_or dims a 0 ≢ 0)) same (makes.0.filled need)) in
    formed-reduced nodes fold folded split (source_at sources of) base it.some (at.tight of names) makes.0.split_fits listed some sh
op-formed files tasks all nodes sources n (Tensordot left right left_axes right_axes) taken shape base at held input is names makes sh stand =
    let there = at.there in
    let l : IsKnown base (source_at sources left) (shape_at nodes left) = at.known left names.0 in
    let r : IsKnown base (source_at sources right) (shape_at nodes right) = at.known right names.1 in
    let fl : shape_at (take n nodes) left ≡ shape_at nodes left = shape-front nodes n left names.0 in
    let fr : shape_at (take n nodes) right ≡ shape_at nodes right = shape-front nodes n right names.1 in
    let nl : length (shape_at (take n nodes) left) ≡ length (source_at sources left).layout = ap length fl ∙ sym (axes-known base (source_at sources left) (shape_at nodes left) l) in
    let nr : length (shape_at (take n nodes) right) ≡ length (source_at sources right).layout = ap length fr ∙ sym (axes-known base (source_at sources right) (shape_at nodes right) r) in
    formed-contracted nodes all left_axes right_axes (source_at sources left) (source_at sources right) base l.some
    (subst (AreOnce left_axes) nl (once-of left_axes (length (shape_at (take n nodes) left)) makes.0.left_fit)) (subst (AreOnce right_axes) nr (once-of right_axes (length (shape_at (take n nodes) right)) makes.0.right_fit))
    (subst (AreAxes left_axes) nl (axes-of (length (shape_at (take n nodes) left)) left_axes makes.0.left_fit)) (subst (AreAxes right_axes) nr (axes-of (length (shape_at (take n nodes) right)) right_axes makes.0.right_fit)) makes.0.number
    (λ j h. ap (λ ns. get_or ns (get_or left_axes j 0) 0) (l.cut ∙ sym fl) ∙ makes.0.pairs j h ∙ ap (λ ns. get_or ns (get_or right_axes j 0) 0) (fr ∙ sym r.cut))
    (subst IsShape (sym l.cut) (node-shape nodes left at.expression (omega (arith, names.0)))) (subst IsShape (sym r.cut) (node-shape nodes right at.expression (omega (arith, names.1))))
    (at.shaped left names.0) (at.shaped right names.1) stand sh
