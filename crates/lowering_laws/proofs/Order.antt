-- What is lowered is in order: the dependencies of each task rise and lie below its own key, and its operation names places
-- among them.
use Rattle.std.proofs.Common.{◌≡◌, ℕ, zero, suc, ◌+◌, ◌-◌, ◌<◌, ◌≤◌, List, [], ◌∷◌, ◌++◌, length, map, drop, take, get_or, refl, ap, sym, subst, ◌∙◌, arith, inl, inr, Some, ℤ, pos, replicate, length-append}
use Rattle.std.specs.Prelude.{slice_get, All}
use Rattle.std.specs.List.{AllByRecursion}
use Rattle.std.specs.List.Sorted.{IsStrictlyIncreasing}
use Rattle.std.proofs.lemmas.Bool.{cases_lt}
use Rattle.std.proofs.lemmas.List.{length-map, length-replicate, length-take-le, get_or-map, get_or_append_left, get_or-append_right, get_or_push, length_push, get_or_past}
use Rattle.std.proofs.lemmas.Option.{slice_get_within, get_or_from_slice_get}
use Rattle.nd_shape.specs.Block.{Array}
use Rattle.nd_shape.specs.declared.slice.Steps.{Steps}
use Rattle.nd_shape.specs.Broadcast.{broadcast, axes_of}
use Rattle.nd_shape.specs.Chunk.{total}
use Rattle.nd_grid.specs.declared.operation.Binary.TheVariants.{Sub}
use Rattle.nd_grid.specs.Grid.{grid_of, SlicesFit}
use Rattle.nd_grid.proofs.Cells.{block-at}
use Rattle.nd_grid.proofs.Under.{axes-member, length-broadcast}
use Rattle.array_expr.specs.declared.op.Op.{Op}
use Rattle.array_expr.specs.declared.op.Op.TheVariants.{Input, Full, Ramp, Negate, Elementwise, Where, Slice, Transpose, Rechunk, Concatenate, Reduce, Tensordot}
use Rattle.array_expr.specs.declared.expr.Node.{Node}
use Rattle.array_expr.specs.Axes.{AreCut}
use Rattle.array_expr.specs.Node.{shape_at, dropped, folded_axes, NamesEarlier, Makes, IsExpression}
use Rattle.expr_laws.specs.Formulas.{whole, inputs_before}
use Rattle.plain_eval.proofs.Fitting.{takes-fit}
use Rattle.chunk_layout.specs.Layouts.{lengths, normalized}
use Rattle.cluster_msgs.specs.Dags.{IsEarlier}
use Rattle.cluster_msgs.specs.Shape.{deps_of}
use Rattle.nd_shape.specs.Index.{place}
use Rattle.block_kernels.specs.Kernels.{assembled}
use Rattle.block_kernels.specs.declared.spec.Spec.TheVariants.{Assemble}
use Rattle.task_graph.specs.declared.graph.Task.{Task}
use Rattle.task_graph.specs.Graphs.{task, task_at, no_task, shape_of, value}
use Rattle.task_graph.proofs.Making.{Made, value-made, deps-at}
use Rattle.lowering_laws.specs.Sources.{Source, key_of}
use Rattle.lowering_laws.specs.Stages.{Literal, Pair, Choice, no_source}
use Rattle.lowering_laws.specs.Lowered.{no_node, source_at, arg_of_op, arg_of, lower_op, Lowering, with_made, lower_from, lowering}
use Rattle.lowering_laws.specs.Law.{Stand, HaveChunks}
use Rattle.lowering_laws.specs.Built.{IsBuilt}
use Rattle.task_graph.specs.Numberings.{AreFit, PlacesFit}
use Rattle.lowering_laws.proofs.Plain.{IsOrder}
use Rattle.lowering_laws.proofs.Products.{AreOnce}
use Rattle.lowering_laws.proofs.Cutting.{chunks-on, lengths-normalized, some-normalized}
use Rattle.lowering_laws.proofs.Lowering.{IsHeld, AllHeld, node-held, shape-is, shape-front, drop-head, drop-none, order-of, once-of}
use Rattle.task_graph.proofs.Rising.{rising-once, rising-increasing}
use Rattle.lowering_laws.proofs.Good.{IsGood, AreGood, IsBelow, IsMade, below-weaker, none-good, good-append, made-filled, made-loaded, made-sliced, made-transposed, made-rechunked}
use Rattle.lowering_laws.proofs.GoodPoints.{ArgBelow, made-pointwise}
use Rattle.lowering_laws.proofs.GoodJoined.{IsOperand, made-joined}
use Rattle.lowering_laws.proofs.GoodFolded.{made-reduced, made-contracted}
use Rattle.lowering_laws.proofs.Totals.{some-none}

-- an array of this shape in a graph of `bound` keys
pub record IsKnown (bound : ℕ) (s : Source) (ns : List ℕ) : Type 0 where
  pub cut : lengths s.layout ≡ ns
  pub some : HaveChunks s.layout
  pub below : IsBelow bound s

abbrev pub AllKnown : ℕ → List Node → List Source → ℕ → Type 0
AllKnown bound nodes sources n = (k : ℕ) → k < n → IsKnown bound (source_at sources k) (shape_at nodes k)

pub axes-known : (bound : ℕ) (s : Source) (ns : List ℕ) → IsKnown bound s ns → length s.layout ≡ length ns
axes-known bound s ns k = sym (length-map s.layout (λ (sizes : List ℕ). total sizes)) ∙ ap length k.cut

-- ---- operands

pub arg-below : (bound axes : ℕ) (op : Op) (s : Source) → IsBelow bound s → length s.layout ≤ axes → ArgBelow bound axes (arg_of_op op s)
arg-below bound axes (Input dims chunks) s b h = (b, h)
arg-below bound axes (Full [] v chunks) s b h = tt
arg-below bound axes (Full (d ∷ dims) v chunks) s b h = (b, h)
arg-below bound axes (Ramp dims start step chunks) s b h = (b, h)
arg-below bound axes (Negate of) s b h = (b, h)
arg-below bound axes (Elementwise op left right) s b h = (b, h)
arg-below bound axes (Where condition first second) s b h = (b, h)
arg-below bound axes (Slice of parts) s b h = (b, h)
arg-below bound axes (Transpose of axes') s b h = (b, h)
arg-below bound axes (Rechunk of chunks) s b h = (b, h)
arg-below bound axes (Concatenate of axis) s b h = (b, h)
arg-below bound axes (Reduce fold of axes' split) s b h = (b, h)
arg-below bound axes (Tensordot left right left_axes right_axes) s b h = (b, h)

-- operand k of a node, whose shape is the j-th of those that make the node's
pub point-arg : (nodes : List Node) (sources : List Source) (n k bound : ℕ) (shape : List ℕ) (shapes : List (List ℕ)) (j : ℕ) → k < n → AllKnown bound nodes sources n → shape ≡ broadcast shapes → j < length shapes → get_or shapes j (shape_at nodes k) ≡ shape_at nodes k
    → ArgBelow bound (length shape) (arg_of nodes sources k)
point-arg nodes sources n k bound shape shapes j lt known e lj at =
    let it : IsKnown bound (source_at sources k) (shape_at nodes k) = known k lt in
    let axes : length (source_at sources k).layout ≡ length (shape_at nodes k) = axes-known bound (source_at sources k) (shape_at nodes k) it in
    let small : length (shape_at nodes k) ≤ axes_of shapes = axes-member shapes j (shape_at nodes k) lj at in
    let number : length shape ≡ axes_of shapes = ap length e ∙ length-broadcast shapes in
    arg-below bound (length shape) (get_or nodes k no_node).op (source_at sources k) it.below (omega arith)

pub operands : (nodes : List Node) (sources : List Source) (n bound axes : ℕ) (of : List ℕ) → All (λ k. k < n) of → ((p : ℕ) → p < length of → length (shape_at nodes (get_or of p 0)) ≡ axes) → AllKnown bound nodes sources n
    → AllByRecursion (IsOperand bound axes) (map (source_at sources) of)
operands nodes sources n bound axes [] a h known = tt
operands nodes sources n bound axes (k ∷ of) a h known =
    let it : IsKnown bound (source_at sources k) (shape_at nodes k) = known k (a 0 0 (omega arith)) in (
      record { below = it.below; axes_are = axes-known bound (source_at sources k) (shape_at nodes k) it ∙ h 0 (omega arith) },
      operands nodes sources n bound axes of (λ j d lt. a (suc j) d (omega (arith, lt))) (λ p lt. h (suc p) (omega arith)) known,
    )

-- ---- one node

pub op-made : (nodes : List Node) (sources : List Source) (n : ℕ) (op : Op) (taken : List Steps) (shape : List ℕ) (base : ℕ) → n ≤ length nodes → NamesEarlier op n → Makes (take n nodes) op taken shape → AllKnown base nodes sources n
    → IsMade base (lower_op nodes sources n taken shape op base)
op-made nodes sources n (Input dims chunks) taken shape base le names makes known = made-loaded (inputs_before nodes n) (normalized dims chunks) base
op-made nodes sources n (Full dims v chunks) taken shape base le names makes known = made-filled dims (normalized dims chunks) v (pos 0) base
op-made nodes sources n (Ramp dims start step chunks) taken shape base le names makes known = made-filled dims (normalized dims chunks) start step base
op-made nodes sources n (Negate of) taken shape base le names makes known =
    let it : IsKnown base (source_at sources of) (shape_at nodes of) = known of names in
    let axes : length (source_at sources of).layout ≡ length (shape_at nodes of) = axes-known base (source_at sources of) (shape_at nodes of) it in
    let same : length shape ≡ length (shape_at nodes of) = ap length (makes.0 ∙ shape-front nodes n of names) in
    made-pointwise (Pair Sub) shape (Literal (pos 0) ∷ arg_of nodes sources of ∷ []) base
    (tt, (arg-below base (length shape) (get_or nodes of no_node).op (source_at sources of) it.below (omega arith), tt))
op-made nodes sources n (Elementwise op left right) taken shape base le names makes known =
    let shapes = shape_at (take n nodes) left ∷ shape_at (take n nodes) right ∷ [] in
    made-pointwise (Pair op) shape (arg_of nodes sources left ∷ arg_of nodes sources right ∷ []) base (
      point-arg nodes sources n left base shape shapes 0 names.0 known makes.1 (omega arith) (shape-front nodes n left names.0),
      (point-arg nodes sources n right base shape shapes 1 names.1 known makes.1 (omega arith) (shape-front nodes n right names.1), tt),
    )
op-made nodes sources n (Where condition first second) taken shape base le names makes known =
    let shapes = shape_at (take n nodes) condition ∷ shape_at (take n nodes) first ∷ shape_at (take n nodes) second ∷ [] in
    made-pointwise Choice shape (arg_of nodes sources condition ∷ arg_of nodes sources first ∷ arg_of nodes sources second ∷ []) base (
      point-arg nodes sources n condition base shape shapes 0 names.0 known makes.1 (omega arith) (shape-front nodes n condition names.0),
      (
        point-arg nodes sources n first base shape shapes 1 names.1 known makes.1 (omega arith) (shape-front nodes n first names.1),
        (point-arg nodes sources n second base shape shapes 2 names.2 known makes.1 (omega arith) (shape-front nodes n second names.2), tt),
      ),
    )
op-made nodes sources n (Slice of parts) taken shape base le names makes known =
    let it : IsKnown base (source_at sources of) (shape_at nodes of) = known of names in
    made-sliced (source_at sources of) taken (dropped parts) base it.some
    (subst (λ ns. SlicesFit 0 taken ns (dropped parts)) (shape-front nodes n of names ∙ sym it.cut) (takes-fit (shape_at (take n nodes) of) parts taken makes.0)) it.below
op-made nodes sources n (Transpose of axes) taken shape base le names makes known =
    let it : IsKnown base (source_at sources of) (shape_at nodes of) = known of names in
    let number : length (shape_at (take n nodes) of) ≡ length (source_at sources of).layout = ap length (shape-front nodes n of names) ∙ sym (axes-known base (source_at sources of) (shape_at nodes of) it) in
    made-transposed (source_at sources of) axes base (subst (IsOrder axes) number (order-of axes (length (shape_at (take n nodes) of)) makes.0 makes.1)) it.below
op-made nodes sources n (Rechunk of chunks) taken shape base le names makes known =
    let it : IsKnown base (source_at sources of) (shape_at nodes of) = known of names in
    let cut : AreCut shape chunks = subst (λ ns. AreCut ns chunks) (sym makes.1) makes.0 in
    let number : length (normalized shape chunks) ≡ length shape = sym (length-map (normalized shape chunks) (λ (sizes : List ℕ). total sizes)) ∙ ap length (lengths-normalized shape chunks cut) in
    made-rechunked (source_at sources of) (normalized shape chunks) base
    (axes-known base (source_at sources of) (shape_at nodes of) it ∙ ap length (sym (shape-front nodes n of names) ∙ sym makes.1) ∙ sym number) it.below
op-made nodes sources n (Concatenate [] axis) taken shape base le names makes known = absurd (let t = makes.0.there in omega arith)
op-made nodes sources n (Concatenate (x ∷ xs) axis) taken shape base le names makes known =
    let it : IsKnown base (source_at sources x) (shape_at nodes x) = known x (names 0 0 (omega arith)) in
    let axes : length (source_at sources x).layout ≡ length (shape_at nodes x) = axes-known base (source_at sources x) (shape_at nodes x) it in
    let first : shape_at (take n nodes) x ≡ shape_at nodes x = shape-front nodes n x (names 0 0 (omega arith)) in
    let there : axis < length (shape_at nodes x) = subst (λ ns. axis < length ns) first makes.0.there in
    let each : (p : ℕ) → p < length (x ∷ xs) → length (shape_at nodes (get_or (x ∷ xs) p 0)) ≡ length (source_at sources x).layout = λ p h.
    ap length (sym (shape-front nodes n (get_or (x ∷ xs) p 0) (names p 0 h)))
    ∙ ap length (sym (get_or-map (shape_at (take n nodes)) (x ∷ xs) p 0 [] h))
    ∙ makes.0.axes p [] (omega (arith, h, length-map (x ∷ xs) (shape_at (take n nodes))))
    ∙ ap length first ∙ sym axes in
    made-joined axis (source_at sources x) (map (source_at sources) xs) base (operands nodes sources n base (length (source_at sources x).layout) (x ∷ xs) names each known) (omega arith)
    (chunks-on (source_at sources x).layout axis it.some (omega arith))
op-made nodes sources n (Reduce fold of axes split) taken shape base le names makes known =
    let it : IsKnown base (source_at sources of) (shape_at nodes of) = known of names in
    made-reduced fold (folded_axes axes (length (shape_at nodes of))) split (source_at sources of) base it.some makes.0.split_fits it.below
op-made nodes sources n (Tensordot left right left_axes right_axes) taken shape base le names makes known =
    let l : IsKnown base (source_at sources left) (shape_at nodes left) = known left names.0 in
    let r : IsKnown base (source_at sources right) (shape_at nodes right) = known right names.1 in
    let nl : length (shape_at (take n nodes) left) ≡ length (source_at sources left).layout = ap length (shape-front nodes n left names.0) ∙ sym (axes-known base (source_at sources left) (shape_at nodes left) l) in
    made-contracted left_axes right_axes (source_at sources left) (source_at sources right) base l.some
    (subst (AreOnce left_axes) nl (once-of left_axes (length (shape_at (take n nodes) left)) makes.0.left_fit)) makes.0.number l.below r.below

-- ---- graphs in order

pub good-earlier : (tasks : List Task) → AreGood 0 tasks → IsEarlier (deps_of (shape_of tasks))
good-earlier tasks g = record {
  below = λ k. elim (cases_lt k (length tasks)) [
    | inl lt ↦ let z : 0 + k ≡ k = omega arith in subst (AllByRecursion (λ d. d < k)) (sym (deps-at tasks k)) (subst (λ b. AllByRecursion (λ d. d < b) (task_at tasks k).deps) z (g.at k lt).below)
    | inr ge ↦ subst (AllByRecursion (λ d. d < k)) (sym (deps-at tasks k ∙ ap (λ (t : Task). t.deps) (get_or_past tasks k no_task ge))) tt
  ];
}

pub good-rising : (tasks : List Task) → AreGood 0 tasks → (k : ℕ) → IsStrictlyIncreasing (deps_of (shape_of tasks) k)
good-rising tasks g k = elim (cases_lt k (length tasks)) [
  | inl lt ↦ subst IsStrictlyIncreasing (sym (deps-at tasks k)) (rising-increasing (task_at tasks k).deps (g.at k lt).rising)
  | inr ge ↦ subst IsStrictlyIncreasing (sym (deps-at tasks k ∙ ap (λ (t : Task). t.deps) (get_or_past tasks k no_task ge))) (rising-increasing [] tt)
]

pub good-fit : (tasks : List Task) → AreGood 0 tasks → AreFit tasks
good-fit tasks g = record {
  places = λ k. elim (cases_lt k (length tasks)) [
    | inl lt ↦ (g.at k lt).places
    | inr ge ↦ subst (λ (t : Task). PlacesFit t.spec (length t.deps)) (sym (get_or_past tasks k no_task ge)) tt
  ];
  once = λ k p h. elim (cases_lt k (length tasks)) [
    | inl lt ↦ rising-once (task_at tasks k).deps p (g.at k lt).rising h
    | inr ge ↦ absurd (let z : length (task_at tasks k).deps ≡ 0 = ap (λ (t : Task). length t.deps) (get_or_past tasks k no_task ge) in omega arith)
  ];
}

-- ---- the shape of a new array: by a graph in which no older key has a value

abbrev fault : Task
fault = task (Assemble [] [] []) []

fault-good : (k : ℕ) → IsGood k fault
fault-good k = record { below = tt; rising = tt; places = tt }

fault-at : (n j : ℕ) → j < n → task_at (replicate n fault) j ≡ fault
fault-at zero j h = absurd (omega arith)
fault-at (suc n) zero h = refl
fault-at (suc n) (suc j) h = fault-at n j (omega arith)

faults-good : (n : ℕ) → AreGood 0 (replicate n fault)
faults-good n = record { at = λ j h. subst (IsGood (0 + j)) (sym (fault-at n j (omega (arith, length-replicate n fault)))) (fault-good (0 + j)) }

no-value : (files : ℕ → List ℕ → ℤ) (tasks : List Task) (k : ℕ) (b : Array) → IsEarlier (deps_of (shape_of tasks)) → task_at tasks k ≡ fault → value files tasks k ≡ Some b → ⊥
no-value files tasks k b e is h =
    let m : Made files tasks fault b = subst (λ (t : Task). Made files tasks t b) is (value-made files tasks e k b h) in
    some-none (get_or b.cells (place b.shape []) (pos 0)) (block-at (assembled [] [] (map grid_of m.blocks)) b [] m.block tt)

-- in a graph of faults older arrays hold what they are to, since no key has a value
known-held : (files : ℕ → List ℕ → ℤ) (all : List Task) (nodes : List Node) (sources : List Source) (n base : ℕ) → IsEarlier (deps_of (shape_of all)) → ((j : ℕ) → j < base → task_at all j ≡ fault) → AllKnown base nodes sources n → AllHeld files all nodes sources n
known-held files all nodes sources n base e at known = λ k lt.
    let it : IsKnown base (source_at sources k) (shape_at nodes k) = known k lt in
    record {
      carries = record {
        shape = it.cut;
        each = λ c b lc v. absurd (no-value files all (key_of (source_at sources k) c) b e (at (key_of (source_at sources k) c) (it.below.keys c lc)) v);
      };
      some = it.some;
    }

-- known arrays are held in some graph
pub record HaveGraph (files : ℕ → List ℕ → ℤ) (nodes : List Node) (sources : List Source) (n : ℕ) : Type 0 where
  pub tasks : List Task
  pub held : AllHeld files tasks nodes sources n

pub graph-of : (files : ℕ → List ℕ → ℤ) (nodes : List Node) (sources : List Source) (n base : ℕ) → AllKnown base nodes sources n → HaveGraph files nodes sources n
graph-of files nodes sources n base known = record {
  tasks = replicate base fault;
  held = known-held files (replicate base fault) nodes sources n base (good-earlier (replicate base fault) (faults-good base)) (fault-at base) known;
}

node-held-known : (nodes : List Node) (sources : List Source) (n : ℕ) (x : Node) (base : ℕ) → IsExpression nodes → slice_get nodes n ≡ Some x → AllKnown base nodes sources n → IsMade base (lower_op nodes sources n x.taken x.shape x.op base)
    → IsBuilt x.op → IsKnown (base + length (lower_op nodes sources n x.taken x.shape x.op base).tasks) (lower_op nodes sources n x.taken x.shape x.op base).source (shape_at nodes n)
node-held-known nodes sources n x base ex is known m built =
    let ts = (lower_op nodes sources n x.taken x.shape x.op base).tasks in
    let files : ℕ → List ℕ → ℤ = λ f i. pos 0 in
    let front : length (replicate base fault) ≡ base = length-replicate base fault in
    let z : 0 + length (replicate base fault) ≡ base = omega arith in
    let all = replicate base fault ++ ts in
    let good : AreGood 0 (replicate base fault ++ ts) = good-append 0 (replicate base fault) ts (faults-good base) (subst (λ k. AreGood k ts) (sym z) m.good) in
    let e : IsEarlier (deps_of (shape_of (replicate base fault ++ ts))) = good-earlier (replicate base fault ++ ts) good in
    let held : AllHeld files (replicate base fault ++ ts) nodes sources n = known-held files (replicate base fault ++ ts) nodes sources n base e (λ j lt. get_or_append_left (replicate base fault) ts no_task j (omega arith) ∙ fault-at base j lt) known in
    let stand : Stand (replicate base fault ++ ts) base ts = record {
      at = λ j h. let y : base + j - base ≡ j = omega arith in get_or-append_right (replicate base fault) ts base (base + j) no_task front (omega arith) ∙ ap (task_at ts) y;
    } in
    let h : IsHeld files (replicate base fault ++ ts) (lower_op nodes sources n x.taken x.shape x.op base).source (whole files nodes n) =
    node-held files (replicate base fault ++ ts) e nodes sources n x base ex is built held stand in
    record { cut = h.carries.shape; some = h.some; below = m.below }

-- only the number of `full` has to fit, and the shape doesn't hang on it
known-op : (nodes : List Node) (sources : List Source) (n : ℕ) (op : Op) (taken : List Steps) (shape : List ℕ) (base : ℕ) → Makes (take n nodes) op taken shape → shape ≡ shape_at nodes n → IsMade base (lower_op nodes sources n taken shape op base)
    → (IsBuilt op → IsKnown (base + length (lower_op nodes sources n taken shape op base).tasks) (lower_op nodes sources n taken shape op base).source (shape_at nodes n))
    → IsKnown (base + length (lower_op nodes sources n taken shape op base).tasks) (lower_op nodes sources n taken shape op base).source (shape_at nodes n)
known-op nodes sources n (Full dims v chunks) taken shape base makes e m f = record { cut = lengths-normalized dims chunks makes.0 ∙ sym makes.1 ∙ e; some = some-normalized dims chunks makes.0; below = m.below }
known-op nodes sources n (Input dims chunks) taken shape base makes e m f = f tt
known-op nodes sources n (Ramp dims start step chunks) taken shape base makes e m f = f tt
known-op nodes sources n (Negate of) taken shape base makes e m f = f tt
known-op nodes sources n (Elementwise op left right) taken shape base makes e m f = f tt
known-op nodes sources n (Where condition first second) taken shape base makes e m f = f tt
known-op nodes sources n (Slice of parts) taken shape base makes e m f = f tt
known-op nodes sources n (Transpose of axes) taken shape base makes e m f = f tt
known-op nodes sources n (Rechunk of chunks) taken shape base makes e m f = f tt
known-op nodes sources n (Concatenate of axis) taken shape base makes e m f = f tt
known-op nodes sources n (Reduce fold of axes split) taken shape base makes e m f = f tt
known-op nodes sources n (Tensordot left right left_axes right_axes) taken shape base makes e m f = f tt

node-known : (nodes : List Node) (sources : List Source) (n : ℕ) (x : Node) (base : ℕ) → IsExpression nodes → slice_get nodes n ≡ Some x → AllKnown base nodes sources n → IsMade base (lower_op nodes sources n x.taken x.shape x.op base)
    → IsKnown (base + length (lower_op nodes sources n x.taken x.shape x.op base).tasks) (lower_op nodes sources n x.taken x.shape x.op base).source (shape_at nodes n)
node-known nodes sources n x base ex is known m =
    let made : shape_at nodes n ≡ x.shape = shape-is nodes n ∙ ap (λ (y : Node). y.shape) (get_or_from_slice_get nodes n x no_node is) in
    known-op nodes sources n x.op x.taken x.shape base (ex.each n x is).makes (sym made) m (λ built. node-held-known nodes sources n x base ex is known m built)

-- ---- all nodes

-- what is known of the nodes that were lowered
pub record IsInOrder (nodes : List Node) (n : ℕ) (l : Lowering) : Type 0 where
  pub good : AreGood 0 l.tasks
  pub known : AllKnown (length l.tasks) nodes l.sources n
  pub count : length l.sources ≡ n

known-weaker : (b c : ℕ) (s : Source) (ns : List ℕ) → b ≤ c → IsKnown b s ns → IsKnown c s ns
known-weaker b c s ns h k = record { cut = k.cut; some = k.some; below = below-weaker b c s h k.below }

pub one-node : (nodes : List Node) (n : ℕ) (l : Lowering) (x : Node) → IsExpression nodes → slice_get nodes n ≡ Some x → IsInOrder nodes n l
    → IsInOrder nodes (suc n) (with_made l n (lower_op nodes l.sources n x.taken x.shape x.op (length l.tasks)))
one-node nodes n l x ex is o =
    let base = length l.tasks in
    let m = lower_op nodes l.sources n x.taken x.shape x.op (length l.tasks) in
    let le : n < length nodes = slice_get_within nodes n x is in
    let node = ex.each n x is in
    let count : length (take n nodes) ≡ n = length-take-le n nodes (omega arith) in
    let made : IsMade (length l.tasks) (lower_op nodes l.sources n x.taken x.shape x.op (length l.tasks)) =
    op-made nodes l.sources n x.op x.taken x.shape (length l.tasks) (omega arith) (subst (NamesEarlier x.op) count node.names.there) node.makes o.known in
    let new : IsKnown (length l.tasks + length m.tasks) m.source (shape_at nodes n) = node-known nodes l.sources n x (length l.tasks) ex is o.known made in
    let ends : length (l.tasks ++ m.tasks) ≡ length l.tasks + length m.tasks = length-append l.tasks m.tasks in
    let oc = o.count in
    record {
      good = good-append 0 l.tasks m.tasks o.good (let z : 0 + length l.tasks ≡ length l.tasks = omega arith in subst (λ k. AreGood k m.tasks) (sym z) made.good);
      known = λ k lt. elim (cases_lt k n) [
        | inl a ↦ subst (λ (s : Source). IsKnown (length (l.tasks ++ m.tasks)) s (shape_at nodes k)) (sym (get_or_append_left l.sources (m.source ∷ []) no_source k (omega arith)))
            (known-weaker (length l.tasks) (length (l.tasks ++ m.tasks)) (source_at l.sources k) (shape_at nodes k) (omega arith) (o.known k a))
        | inr a ↦ let same : n ≡ k = omega arith in
            subst (λ j. IsKnown (length (l.tasks ++ m.tasks)) (source_at (l.sources ++ m.source ∷ []) j) (shape_at nodes j)) same
            (subst (λ (s : Source). IsKnown (length (l.tasks ++ m.tasks)) s (shape_at nodes n)) (sym (get_or_push l.sources m.source no_source n o.count)) (known-weaker (length l.tasks + length m.tasks) (length (l.tasks ++ m.tasks)) m.source (shape_at nodes n) (omega arith) new))
      ];
      count = length_push l.sources m.source ∙ omega arith;
    }

pub record AreLowered (nodes : List Node) (l : Lowering) : Type 0 where
  pub good : AreGood 0 l.tasks
  pub known : AllKnown (length l.tasks) nodes l.sources (length nodes)

order-from : (nodes : List Node) → IsExpression nodes → (n : ℕ) (l : Lowering) (rest : List Node) → drop n nodes ≡ rest → IsInOrder nodes n l → AreLowered nodes (lower_from nodes n l rest)
order-from nodes ex n l [] at o = record { good = o.good; known = λ k h. o.known k (omega (arith, drop-none nodes n at)) }
order-from nodes ex n l (x ∷ rest) at o =
    let d = drop-head nodes rest n x at in
    order-from nodes ex (suc n) (with_made l n (lower_op nodes l.sources n x.taken x.shape x.op (length l.tasks))) rest d.1 (one-node nodes n l x ex d.0 o)

-- what is lowered is in order
pub lowering-order : (nodes : List Node) → IsExpression nodes → AreLowered nodes (lowering nodes)
lowering-order nodes ex = order-from nodes ex 0 _ nodes refl (record { good = none-good 0; known = λ k h. absurd (omega arith); count = refl })
