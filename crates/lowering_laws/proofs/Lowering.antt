-- The law of lowering: each array of a lowering carries its node.
use Rattle.std.proofs.Common.{◌≡◌, ℕ, zero, suc, ◌+◌, ◌-◌, ◌<◌, ◌≤◌, cond, List, [], ◌∷◌, ◌++◌, length, map, drop, take, get_or, refl, ap, sym, subst, ◌∙◌, arith, inl, inr, Some, None, ℤ, pos, ◌+ℤ◌, ◌*ℤ◌, append_assoc, append-nil, w64, eq-eqb, ne_eqb}
use Rattle.std.specs.Prelude.{nat_eq, nat_lt, slice_get, Option, All}
use Rattle.std.proofs.lemmas.Bool.{cases_lt}
use Rattle.std.proofs.lemmas.Int.{ints, int_wrap_fits}
use Rattle.std.proofs.lemmas.List.FromFn.{fill_by_all}
use Rattle.std.proofs.lemmas.List.Sums.{position_or_len_is}
use Rattle.std.proofs.lemmas.List.{length-map, get_or-map, get_or-take, length-take-le, get_or_append_left, get_or_push, length_push}
use Rattle.std.proofs.lemmas.Option.{get_or_from_slice_get, slice_get_within, slice_get-get_or}
use Rattle.std.proofs.Math.ListN.{get_or-map as get_or-map-all}
use Rattle.nd_shape.specs.declared.slice.Steps.{Steps}
use Rattle.nd_shape.specs.Index.{IsIn, place}
use Rattle.nd_shape.specs.Broadcast.{broadcast, axes_of, common, lengths_on, length_on, Agree, first_misfit}
use Rattle.nd_grid.specs.Int64.{wrap, IsInt64}
use Rattle.nd_grid.specs.declared.operation.Binary.TheVariants.{Sub}
use Rattle.nd_grid.specs.Operation.{combine, negated_element}
use Rattle.nd_grid.specs.Grid.{Grid, filled, ramp, negated, elementwise, chosen, concatenated, under, SlicesFit}
use Rattle.array_expr.specs.declared.op.Op.{Op}
use Rattle.array_expr.specs.declared.op.Op.TheVariants.{Input, Full, Ramp, Negate, Elementwise, Where, Slice, Transpose, Rechunk, Concatenate, Reduce, Tensordot}
use Rattle.array_expr.specs.declared.expr.Node.{Node}
use Rattle.array_expr.specs.Axes.{AreAxes, AreCut}
use Rattle.nd_shape.specs.Chunk.{total}
use Rattle.array_expr.specs.Node.{shape_at, dropped, folded_axes, NamesEarlier, Makes, IsExpression, AreJoinable}
use Rattle.array_expr.specs.Elem.{formula, elem}
use Rattle.expr_laws.specs.Formulas.{inputs_before, whole, made_of}
use Rattle.expr_laws.proofs.Elements.{shape-formula, element-formula}
use Rattle.plain_eval.proofs.Fitting.{transposes, takes-fit}
use Rattle.chunk_layout.specs.Layouts.{lengths, normalized}
use Rattle.cluster_msgs.specs.Dags.{IsEarlier}
use Rattle.cluster_msgs.specs.Shape.{deps_of}
use Rattle.task_graph.specs.declared.graph.Task.{Task}
use Rattle.task_graph.specs.Graphs.{shape_of, task_at}
use Rattle.lowering_laws.specs.Sources.{Source}
use Rattle.lowering_laws.specs.Stages.{Arg, Literal, Blocks, Pair, Choice, no_source, arg_layout, pointwise, concatenated_blocks}
use Rattle.lowering_laws.specs.Lowered.{no_node, source_at, arg_of_op, arg_of, lower_op, Lowering, with_made, lower_from, lowering}
use Rattle.lowering_laws.specs.Law.{Carries, Stand, HaveChunks}
use Rattle.lowering_laws.specs.Built.{IsBuilt, AreBuilt}
use Rattle.lowering_laws.proofs.Carrying.{Carries-same, Stand-front, Stand-back}
use Rattle.lowering_laws.proofs.Plain.{carries-filled, carries-loaded, carries-transposed, IsOrder}
use Rattle.lowering_laws.proofs.Points.{IsNumber, some-point}
use Rattle.lowering_laws.proofs.Pointwise.{ArgCarries, carries-pair, carries-choice}
use Rattle.lowering_laws.proofs.Sliced.{carries-sliced, some-sliced}
use Rattle.lowering_laws.proofs.Fitting.{carries-rechunked}
use Rattle.lowering_laws.proofs.Cutting.{lengths-normalized, some-normalized, some-turned, some-kept}
use Rattle.lowering_laws.proofs.Reductions.{carries-reduced}
use Rattle.lowering_laws.proofs.Products.{AreOnce, carries-contracted}
use Rattle.std.proofs.lemmas.List.Folds.{list_any_at}
use Rattle.std.proofs.lemmas.Grind.{get_or_default_zero}
use Rattle.lowering_laws.proofs.Joined.{AllSources, AreJoined, carries-joined}
use Rattle.block_kernels.specs.Kernels.{no_grid}
use Rattle.block_kernels.proofs.Filled.{own-under, length_on-all}

-- an array of the graph carries a grid, and each of its axes has a chunk
pub record IsHeld (files : ℕ → List ℕ → ℤ) (tasks : List Task) (s : Source) (g : Grid) : Type 0 where
  pub carries : Carries files tasks s g
  pub some : HaveChunks s.layout

-- ---- one value everywhere
full-cell : (v : ℤ) (p : ℕ) → IsInt64 v → wrap (v +ℤ (pos 0 *ℤ pos p)) ≡ v
full-cell v p h = let z : v +ℤ (pos 0 *ℤ pos p) ≡ v = omega (arith, ints) in ap wrap z ∙ int_wrap_fits w64 v h

-- ---- a number from which an array is taken

none-misfits : (n : ℕ) → first_misfit (1 ∷ n ∷ []) ≡ None
none-misfits n = grind arith

length_on-none : (axes k : ℕ) → k < axes → length_on axes k [] ≡ 1
length_on-none axes k h = let z : axes - 0 ≡ axes = omega arith in ap (λ o. cond (nat_lt k o) 1 (get_or [] (k - o) 1)) z ∙ front k axes _ h
  where
    front : (k o x : ℕ) → k < o → cond (nat_lt k o) 1 x ≡ 1
    front k o x h = grind arith

own-axes : (ns : List ℕ) → axes_of ([] ∷ ns ∷ []) ≡ length ns
own-axes ns = omega arith

one-common : (n : ℕ) → common (1 ∷ n ∷ []) ≡ n
one-common n = grind arith

pub number-agrees : (ns : List ℕ) → Agree ([] ∷ ns ∷ [])
number-agrees ns = record {
  each = λ k h. ap (λ x. first_misfit (x ∷ length_on (axes_of ([] ∷ ns ∷ [])) k ns ∷ [])) (length_on-none (axes_of ([] ∷ ns ∷ [])) k h) ∙ none-misfits (length_on (axes_of ([] ∷ ns ∷ [])) k ns);
}

pub number-broadcast : (ns : List ℕ) → broadcast ([] ∷ ns ∷ []) ≡ ns
number-broadcast ns =
    sym (fill_by_all (λ k. common (lengths_on ([] ∷ ns ∷ []) k)) ns (axes_of ([] ∷ ns ∷ [])) 0 (sym (own-axes ns)) (λ k h.
    sym (
    ap (λ x. common (x ∷ length_on (axes_of ([] ∷ ns ∷ [])) k ns ∷ [])) (length_on-none (axes_of ([] ∷ ns ∷ [])) k h)
    ∙ one-common (length_on (axes_of ([] ∷ ns ∷ [])) k ns)
    ∙ ap (λ a. length_on a k ns) (own-axes ns)
    ∙ length_on-all ns k
    ∙ get_or_default_zero ns k 1 (omega (arith, own-axes ns))
    )))

less-number : (x : Option ℤ) → combine Sub (Some (pos 0)) x ≡ negated_element x
less-number None = refl
less-number (Some a) = refl

-- ---- axes in an order

pub order-of : (axes : List ℕ) (n : ℕ) → AreAxes n axes → length axes ≡ n → IsOrder axes n
order-of axes n a e = record {
  each = transposes n axes a e;
  below = a.inside;
  once = λ j h. position_or_len_is (nat_eq (get_or axes j 0)) axes j 0 (omega arith) (λ i lt. ne_eqb (get_or axes j 0) (get_or axes i 0) (λ z. a.distinct i j lt h (sym z)))
      (λ lt. eq-eqb (get_or axes j 0) (get_or axes j 0) refl);
}

pub once-of : (axes : List ℕ) (n : ℕ) → AreAxes n axes → AreOnce axes n
once-of axes n a = record {
  below = a.inside;
  once = λ j h. position_or_len_is (nat_eq (get_or axes j 0)) axes j 0 (omega arith) (λ i lt. ne_eqb (get_or axes j 0) (get_or axes i 0) (λ z. a.distinct i j lt h (sym z)))
      (λ lt. eq-eqb (get_or axes j 0) (get_or axes j 0) refl);
  among = λ j h. list_any_at (nat_eq (get_or axes j 0)) axes j 0 h (eq-eqb (get_or axes j 0) (get_or axes j 0) refl);
}

-- ---- what is known of a node

pub shape-is : (nodes : List Node) (k : ℕ) → shape_at nodes k ≡ (get_or nodes k no_node).shape
shape-is nodes k = get_or-map-all (λ (n : Node). n.shape) nodes k no_node

pub shape-front : (nodes : List Node) (n k : ℕ) → k < n → shape_at (take n nodes) k ≡ shape_at nodes k
shape-front nodes n k h = shape-is (take n nodes) k ∙ ap (λ (x : Node). x.shape) (get_or-take n nodes k no_node h) ∙ sym (shape-is nodes k)

number-of : (files : ℕ → List ℕ → ℤ) (nodes : List Node) (k : ℕ) (node : Node) (v : ℤ) (chunks : List _) → IsExpression nodes → slice_get nodes k ≡ Some node → node.op ≡ Full [] v chunks → IsNumber v (whole files nodes k)
number-of files nodes k node v chunks e is op =
    let made : Makes (take k nodes) (Full [] v chunks) node.taken node.shape = subst (λ o. Makes (take k nodes) o node.taken node.shape) op (e.each k node is).makes in
    let empty : node.shape ≡ [] = made.1 in
    let same : (get_or nodes k no_node) ≡ node = get_or_from_slice_get nodes k node no_node is in
    record {
      shape = shape-is nodes k ∙ ap (λ (x : Node). x.shape) same ∙ empty;
      at = element-formula files nodes k node [] e is (subst (λ ns. IsIn ns []) (sym empty) tt) ∙ ap (λ o. (formula o node.taken (files (inputs_before nodes k)) (whole files nodes)).at []) op;
    }

arg-case : (files : ℕ → List ℕ → ℤ) (tasks : List Task) (op : Op) (s : Source) (g : Grid) → ((v : ℤ) (chunks : List _) → op ≡ Full [] v chunks → IsNumber v g) → Carries files tasks s g → ArgCarries files tasks (arg_of_op op s) g
arg-case files tasks (Input dims chunks) s g n c = c
arg-case files tasks (Full [] v chunks) s g n c = n v chunks refl
arg-case files tasks (Full (d ∷ dims) v chunks) s g n c = c
arg-case files tasks (Ramp dims start step chunks) s g n c = c
arg-case files tasks (Negate of) s g n c = c
arg-case files tasks (Elementwise op left right) s g n c = c
arg-case files tasks (Where condition first second) s g n c = c
arg-case files tasks (Slice of parts) s g n c = c
arg-case files tasks (Transpose of axes) s g n c = c
arg-case files tasks (Rechunk of chunks) s g n c = c
arg-case files tasks (Concatenate of axis) s g n c = c
arg-case files tasks (Reduce fold of axes split) s g n c = c
arg-case files tasks (Tensordot left right left_axes right_axes) s g n c = c

pub arg-carries : (files : ℕ → List ℕ → ℤ) (tasks : List Task) (nodes : List Node) (sources : List Source) (k : ℕ) → IsExpression nodes → k < length nodes → Carries files tasks (source_at sources k) (whole files nodes k) → ArgCarries files tasks (arg_of nodes sources k) (whole files nodes k)
arg-carries files tasks nodes sources k e h c =
    arg-case files tasks (get_or nodes k no_node).op (source_at sources k) (whole files nodes k) (λ v chunks op. number-of files nodes k (get_or nodes k no_node) v chunks e (slice_get-get_or nodes k no_node h) op) c

-- the layout of an operand has a chunk on each axis
arg-some : (op : Op) (s : Source) → HaveChunks s.layout → HaveChunks (arg_layout (arg_of_op op s))
arg-some (Input dims chunks) s c = c
arg-some (Full [] v chunks) s c = tt
arg-some (Full (d ∷ dims) v chunks) s c = c
arg-some (Ramp dims start step chunks) s c = c
arg-some (Negate of) s c = c
arg-some (Elementwise op left right) s c = c
arg-some (Where condition first second) s c = c
arg-some (Slice of parts) s c = c
arg-some (Transpose of axes) s c = c
arg-some (Rechunk of chunks) s c = c
arg-some (Concatenate of axis) s c = c
arg-some (Reduce fold of axes split) s c = c
arg-some (Tensordot left right left_axes right_axes) s c = c

-- ---- one node

-- the operands of a node are held
abbrev pub AllHeld : (ℕ → List ℕ → ℤ) → List Task → List Node → List Source → ℕ → Type 0
AllHeld files tasks nodes sources n = (k : ℕ) → k < n → IsHeld files tasks (source_at sources k) (whole files nodes k)

some-two : (a b : List (List ℕ)) → HaveChunks a → HaveChunks b → (j : ℕ) → j < 2 → HaveChunks (get_or (a ∷ b ∷ []) j [])
some-two a b ha hb zero h = ha
some-two a b ha hb (suc zero) h = hb
some-two a b ha hb (suc (suc j)) h = absurd (omega arith)

some-three : (a b c : List (List ℕ)) → HaveChunks a → HaveChunks b → HaveChunks c → (j : ℕ) → j < 3 → HaveChunks (get_or (a ∷ b ∷ c ∷ []) j [])
some-three a b c ha hb hc zero h = ha
some-three a b c ha hb hc (suc zero) h = hb
some-three a b c ha hb hc (suc (suc zero)) h = hc
some-three a b c ha hb hc (suc (suc (suc j))) h = absurd (omega arith)

arg-cut : (files : ℕ → List ℕ → ℤ) (tasks : List Task) (a : Arg) (g : Grid) → ArgCarries files tasks a g → lengths (arg_layout a) ≡ g.shape
arg-cut files tasks (Literal v) g c = sym c.shape
arg-cut files tasks (Blocks s) g c = c.shape

pair-held : (files : ℕ → List ℕ → ℤ) (tasks : List Task) → IsEarlier (deps_of (shape_of tasks)) → (op : _) (dims : List ℕ) (a b : Arg) (g h : Grid) (base : ℕ) → ArgCarries files tasks a g → ArgCarries files tasks b h → HaveChunks (arg_layout a) → HaveChunks (arg_layout b)
    → Agree (g.shape ∷ h.shape ∷ []) → dims ≡ broadcast (g.shape ∷ h.shape ∷ []) → Stand tasks base (pointwise (Pair op) dims (a ∷ b ∷ []) base).tasks
    → IsHeld files tasks (pointwise (Pair op) dims (a ∷ b ∷ []) base).source (elementwise op g h)
pair-held files tasks e op dims a b g h base ca cb sa sb agree shape stand = record {
  carries = carries-pair files tasks e op dims a b g h base ca cb agree shape stand;
  some = some-point dims (arg_layout a ∷ arg_layout b ∷ [])
      (shape ∙ ap (λ ns. broadcast (ns ∷ h.shape ∷ [])) (sym (arg-cut files tasks a g ca)) ∙ ap (λ ns. broadcast (lengths (arg_layout a) ∷ ns ∷ [])) (sym (arg-cut files tasks b h cb)))
      (some-two (arg_layout a) (arg_layout b) sa sb);
}

choice-held : (files : ℕ → List ℕ → ℤ) (tasks : List Task) → IsEarlier (deps_of (shape_of tasks)) → (dims : List ℕ) (a b c : Arg) (f g h : Grid) (base : ℕ) → ArgCarries files tasks a f → ArgCarries files tasks b g → ArgCarries files tasks c h
    → HaveChunks (arg_layout a) → HaveChunks (arg_layout b) → HaveChunks (arg_layout c)
    → Agree (f.shape ∷ g.shape ∷ h.shape ∷ []) → dims ≡ broadcast (f.shape ∷ g.shape ∷ h.shape ∷ []) → Stand tasks base (pointwise Choice dims (a ∷ b ∷ c ∷ []) base).tasks
    → IsHeld files tasks (pointwise Choice dims (a ∷ b ∷ c ∷ []) base).source (chosen f g h)
choice-held files tasks e dims a b c f g h base ca cb cc' sa sb sc agree shape stand = record {
  carries = carries-choice files tasks e dims a b c f g h base ca cb cc' agree shape stand;
  some = some-point dims (arg_layout a ∷ arg_layout b ∷ arg_layout c ∷ [])
      (shape ∙ ap (λ ns. broadcast (ns ∷ g.shape ∷ h.shape ∷ [])) (sym (arg-cut files tasks a f ca)) ∙ ap (λ ns. broadcast (lengths (arg_layout a) ∷ ns ∷ h.shape ∷ [])) (sym (arg-cut files tasks b g cb))
      ∙ ap (λ ns. broadcast (lengths (arg_layout a) ∷ lengths (arg_layout b) ∷ ns ∷ [])) (sym (arg-cut files tasks c h cc')))
      (some-three (arg_layout a) (arg_layout b) (arg_layout c) sa sb sc);
}

same-held : (files : ℕ → List ℕ → ℤ) (tasks : List Task) (s : Source) (v w : Grid) → v.shape ≡ w.shape → ((i : List ℕ) → IsIn w.shape i → v.at i ≡ w.at i) → IsHeld files tasks s v → IsHeld files tasks s w
same-held files tasks s v w e same h = record { carries = Carries-same files tasks s v w e same h.carries; some = h.some }

pub length-cut : (files : ℕ → List ℕ → ℤ) (tasks : List Task) (s : Source) (g : Grid) → Carries files tasks s g → length s.layout ≡ length g.shape
length-cut files tasks s g c = sym (length-map s.layout (λ (sizes : List ℕ). total sizes)) ∙ ap length c.shape

pub all-sources : (files : ℕ → List ℕ → ℤ) (tasks : List Task) (nodes : List Node) (sources : List Source) (n : ℕ) (of : List ℕ) → All (λ k. k < n) of → AllHeld files tasks nodes sources n
    → AllSources files tasks (map (source_at sources) of) (map (whole files nodes) of)
all-sources files tasks nodes sources n [] a held = tt
all-sources files tasks nodes sources n (k ∷ of) a held =
    let h = held k (a 0 0 (omega arith)) in
    (h.carries, h.some, all-sources files tasks nodes sources n of (λ j d lt. a (suc j) d (omega (arith, lt))) held)

-- the arrays of operands that can be put one after another
pub joined-of : (files : ℕ → List ℕ → ℤ) (nodes : List Node) (n x : ℕ) (xs : List ℕ) (axis : ℕ) → All (λ k. k < n) (x ∷ xs) → AreJoinable (map (shape_at (take n nodes)) (x ∷ xs)) axis → AreJoined axis (whole files nodes x) (map (whole files nodes) xs)
joined-of files nodes n x xs axis names makes =
    let shape : (p : ℕ) → p < length (x ∷ xs) → (get_or (map (whole files nodes) (x ∷ xs)) p no_grid).shape ≡ get_or (map (shape_at (take n nodes)) (x ∷ xs)) p [] = λ p h.
    ap (λ (g : Grid). g.shape) (get_or-map (whole files nodes) (x ∷ xs) p 0 no_grid h)
    ∙ sym (get_or-map (shape_at (take n nodes)) (x ∷ xs) p 0 [] h ∙ shape-front nodes n (get_or (x ∷ xs) p 0) (names p 0 h)) in
    let first : shape_at (take n nodes) x ≡ shape_at nodes x = shape-front nodes n x (names 0 0 (omega arith)) in
    let few : (p : ℕ) → p < length (x ∷ xs) → p < length (map (shape_at (take n nodes)) (x ∷ xs)) = λ p h. omega (arith, length-map (x ∷ xs) (shape_at (take n nodes))) in
    let number : length (map (whole files nodes) (x ∷ xs)) ≡ length (x ∷ xs) = length-map (x ∷ xs) (whole files nodes) in
    record {
      there = subst (λ ns. axis < length ns) first makes.there;
      axes = λ p h. let b : p < length (x ∷ xs) = omega arith in ap length (shape p b) ∙ makes.axes p [] (few p b) ∙ ap length first;
      others = λ k p q h. let b : p < length (x ∷ xs) = omega arith in ap (λ ns. get_or ns k 0) (shape p b) ∙ makes.others k q p [] (few p b) ∙ ap (λ ns. get_or ns k 0) first;
    }

joined-held : (files : ℕ → List ℕ → ℤ) (tasks : List Task) → IsEarlier (deps_of (shape_of tasks)) → (nodes : List Node) (sources : List Source) (n : ℕ) (of : List ℕ) (axis base : ℕ) → All (λ k. k < n) of → AreJoinable (map (shape_at (take n nodes)) of) axis
    → AllHeld files tasks nodes sources n → Stand tasks base (concatenated_blocks (map (source_at sources) of) axis base).tasks
    → IsHeld files tasks (concatenated_blocks (map (source_at sources) of) axis base).source (concatenated axis (map (whole files nodes) of))
joined-held files tasks e nodes sources n [] axis base names makes held stand = absurd (let t = makes.there in omega arith)
joined-held files tasks e nodes sources n (x ∷ xs) axis base names makes held stand =
    let r = carries-joined files tasks e axis (source_at sources x) (map (source_at sources) xs) (whole files nodes x) (map (whole files nodes) xs) base (all-sources files tasks nodes sources n (x ∷ xs) names held) (joined-of files nodes n x xs axis names makes) stand in
    record { carries = r.carries; some = r.some }

op-held : (files : ℕ → List ℕ → ℤ) (tasks : List Task) → IsEarlier (deps_of (shape_of tasks)) → (nodes : List Node) (sources : List Source) (n : ℕ) (op : Op) (taken : List Steps) (shape : List ℕ) (base : ℕ) → IsExpression nodes → n ≤ length nodes
    → NamesEarlier op n → Makes (take n nodes) op taken shape → IsBuilt op → AllHeld files tasks nodes sources n → Stand tasks base (lower_op nodes sources n taken shape op base).tasks
    → IsHeld files tasks (lower_op nodes sources n taken shape op base).source (formula op taken (files (inputs_before nodes n)) (whole files nodes))
op-held files tasks e nodes sources n (Input dims chunks) taken shape base ex le names makes built held stand = record {
  carries = carries-loaded files tasks e (inputs_before nodes n) dims (normalized dims chunks) base (lengths-normalized dims chunks makes.0) stand;
  some = some-normalized dims chunks makes.0;
}
op-held files tasks e nodes sources n (Full dims v chunks) taken shape base ex le names makes built held stand =
    same-held files tasks _ (ramp dims v (pos 0)) (filled dims v) refl (λ i h. ap Some (full-cell v (place dims i) built)) (record {
      carries = carries-filled files tasks e dims (normalized dims chunks) v (pos 0) base (lengths-normalized dims chunks makes.0) stand;
      some = some-normalized dims chunks makes.0;
    })
op-held files tasks e nodes sources n (Ramp dims start step chunks) taken shape base ex le names makes built held stand = record {
  carries = carries-filled files tasks e dims (normalized dims chunks) start step base (lengths-normalized dims chunks makes.0) stand;
  some = some-normalized dims chunks makes.0;
}
op-held files tasks e nodes sources n (Negate of) taken shape base ex le names makes built held stand =
    let h = held of names in
    let ns = shape_at nodes of in
    same-held files tasks _ (elementwise Sub (filled [] (pos 0)) (whole files nodes of)) (negated (whole files nodes of)) (number-broadcast ns)
    (λ i inside. less-number (elem files nodes of (under ns i)) ∙ ap (λ j. negated_element (elem files nodes of j)) (own-under ns i inside))
    (pair-held files tasks e Sub shape (Literal (pos 0)) (arg_of nodes sources of) (filled [] (pos 0)) (whole files nodes of) base (record { shape = refl; at = refl }) (arg-carries files tasks nodes sources of ex (omega arith) h.carries) tt
    (arg-some (get_or nodes of no_node).op (source_at sources of) h.some) (number-agrees ns) (makes.0 ∙ shape-front nodes n of names ∙ sym (number-broadcast ns)) stand)
op-held files tasks e nodes sources n (Elementwise op left right) taken shape base ex le names makes built held stand =
    let l = held left names.0 in
    let r = held right names.1 in
    let same : shape_at (take n nodes) left ∷ shape_at (take n nodes) right ∷ [] ≡ shape_at nodes left ∷ shape_at nodes right ∷ [] =
    ap (λ ns. ns ∷ shape_at (take n nodes) right ∷ []) (shape-front nodes n left names.0) ∙ ap (λ ns. shape_at nodes left ∷ ns ∷ []) (shape-front nodes n right names.1) in
    pair-held files tasks e op shape (arg_of nodes sources left) (arg_of nodes sources right) (whole files nodes left) (whole files nodes right) base
    (arg-carries files tasks nodes sources left ex (omega (arith, names.0)) l.carries) (arg-carries files tasks nodes sources right ex (omega (arith, names.1)) r.carries)
    (arg-some (get_or nodes left no_node).op (source_at sources left) l.some) (arg-some (get_or nodes right no_node).op (source_at sources right) r.some)
    (subst Agree same makes.0) (makes.1 ∙ ap broadcast same) stand
op-held files tasks e nodes sources n (Where condition first second) taken shape base ex le names makes built held stand =
    let c = held condition names.0 in
    let f = held first names.1 in
    let s = held second names.2 in
    let same : shape_at (take n nodes) condition ∷ shape_at (take n nodes) first ∷ shape_at (take n nodes) second ∷ [] ≡ shape_at nodes condition ∷ shape_at nodes first ∷ shape_at nodes second ∷ [] =
    ap (λ ns. ns ∷ shape_at (take n nodes) first ∷ shape_at (take n nodes) second ∷ []) (shape-front nodes n condition names.0)
    ∙ ap (λ ns. shape_at nodes condition ∷ ns ∷ shape_at (take n nodes) second ∷ []) (shape-front nodes n first names.1)
    ∙ ap (λ ns. shape_at nodes condition ∷ shape_at nodes first ∷ ns ∷ []) (shape-front nodes n second names.2) in
    choice-held files tasks e shape (arg_of nodes sources condition) (arg_of nodes sources first) (arg_of nodes sources second) (whole files nodes condition) (whole files nodes first) (whole files nodes second) base
    (arg-carries files tasks nodes sources condition ex (omega (arith, names.0)) c.carries) (arg-carries files tasks nodes sources first ex (omega (arith, names.1)) f.carries) (arg-carries files tasks nodes sources second ex (omega (arith, names.2)) s.carries)
    (arg-some (get_or nodes condition no_node).op (source_at sources condition) c.some) (arg-some (get_or nodes first no_node).op (source_at sources first) f.some) (arg-some (get_or nodes second no_node).op (source_at sources second) s.some)
    (subst Agree same makes.0) (makes.1 ∙ ap broadcast same) stand
op-held files tasks e nodes sources n (Slice of parts) taken shape base ex le names makes built held stand =
    let h = held of names in
    let fits : SlicesFit 0 taken (lengths (source_at sources of).layout) (dropped parts) =
    subst (λ ns. SlicesFit 0 taken ns (dropped parts)) (shape-front nodes n of names ∙ sym h.carries.shape) (takes-fit (shape_at (take n nodes) of) parts taken makes.0) in
    record {
      carries = carries-sliced files tasks e (source_at sources of) (whole files nodes of) taken (dropped parts) base h.some fits h.carries stand;
      some = some-sliced 0 (dropped parts) (source_at sources of).layout taken;
    }
op-held files tasks e nodes sources n (Transpose of axes) taken shape base ex le names makes built held stand =
    let h = held of names in
    let number : length (shape_at (take n nodes) of) ≡ length (source_at sources of).layout = ap length (shape-front nodes n of names) ∙ sym (length-cut files tasks (source_at sources of) (whole files nodes of) h.carries) in
    let order : IsOrder axes (length (source_at sources of).layout) = subst (IsOrder axes) number (order-of axes (length (shape_at (take n nodes) of)) makes.0 makes.1) in
    record {
      carries = carries-transposed files tasks e (source_at sources of) (whole files nodes of) axes base order h.carries stand;
      some = some-turned axes (source_at sources of).layout h.some order.below;
    }
op-held files tasks e nodes sources n (Rechunk of chunks) taken shape base ex le names makes built held stand =
    let h = held of names in
    let same : shape ≡ shape_at nodes of = makes.1 ∙ shape-front nodes n of names in
    let cut : AreCut shape chunks = subst (λ ns. AreCut ns chunks) (sym makes.1) makes.0 in
    record {
      carries = carries-rechunked files tasks e (source_at sources of) (whole files nodes of) (normalized shape chunks) base h.carries (lengths-normalized shape chunks cut ∙ same) stand;
      some = some-normalized shape chunks cut;
    }
op-held files tasks e nodes sources n (Concatenate of axis) taken shape base ex le names makes built held stand = joined-held files tasks e nodes sources n of axis base names makes.0 held stand
op-held files tasks e nodes sources n (Reduce fold of axes split) taken shape base ex le names makes built held stand =
    let h = held of names in
    let over = folded_axes axes (length (shape_at nodes of)) in
    record {
      carries = carries-reduced files tasks e fold over split (source_at sources of) (whole files nodes of) base h.some makes.0.split_fits h.carries stand;
      some = some-kept 0 (source_at sources of).layout over h.some;
    }
op-held files tasks e nodes sources n (Tensordot left right left_axes right_axes) taken shape base ex le names makes built held stand =
    let l = held left names.0 in
    let r = held right names.1 in
    let fl : shape_at (take n nodes) left ≡ shape_at nodes left = shape-front nodes n left names.0 in
    let fr : shape_at (take n nodes) right ≡ shape_at nodes right = shape-front nodes n right names.1 in
    let nl : length (shape_at (take n nodes) left) ≡ length (source_at sources left).layout = ap length fl ∙ sym (length-cut files tasks (source_at sources left) (whole files nodes left) l.carries) in
    let nr : length (shape_at (take n nodes) right) ≡ length (source_at sources right).layout = ap length fr ∙ sym (length-cut files tasks (source_at sources right) (whole files nodes right) r.carries) in
    let p = carries-contracted files tasks e left_axes right_axes (source_at sources left) (source_at sources right) (whole files nodes left) (whole files nodes right) base l.carries r.carries l.some r.some
    (subst (AreOnce left_axes) nl (once-of left_axes (length (shape_at (take n nodes) left)) makes.0.left_fit)) (subst (AreOnce right_axes) nr (once-of right_axes (length (shape_at (take n nodes) right)) makes.0.right_fit)) makes.0.number
    (λ j h. ap (λ ns. get_or ns (get_or left_axes j 0) 0) (sym fl) ∙ makes.0.pairs j h ∙ ap (λ ns. get_or ns (get_or right_axes j 0) 0) fr) stand in
    record { carries = p.carries; some = p.some }

pub node-held : (files : ℕ → List ℕ → ℤ) (tasks : List Task) → IsEarlier (deps_of (shape_of tasks)) → (nodes : List Node) (sources : List Source) (n : ℕ) (x : Node) (base : ℕ) → IsExpression nodes → slice_get nodes n ≡ Some x → IsBuilt x.op → AllHeld files tasks nodes sources n
    → Stand tasks base (lower_op nodes sources n x.taken x.shape x.op base).tasks → IsHeld files tasks (lower_op nodes sources n x.taken x.shape x.op base).source (whole files nodes n)
node-held files tasks e nodes sources n x base ex is built held stand =
    let le : n < length nodes = slice_get_within nodes n x is in
    let node = ex.each n x is in
    let count : length (take n nodes) ≡ n = length-take-le n nodes (omega arith) in
    let same : (get_or nodes n no_node) ≡ x = get_or_from_slice_get nodes n x no_node is in
    let shape : shape_at nodes n ≡ x.shape = shape-is nodes n ∙ ap (λ (y : Node). y.shape) same in
    same-held files tasks _ (made_of files nodes n x) (whole files nodes n) (shape-formula files nodes n x ex is ∙ sym shape)
    (λ i h. sym (element-formula files nodes n x i ex is (subst (λ ns. IsIn ns i) shape h)))
    (op-held files tasks e nodes sources n x.op x.taken x.shape base ex (omega arith) (subst (NamesEarlier x.op) count node.names.there) node.makes built held stand)

-- ---- all nodes

-- what was lowered stays
pub record Extends (l m : Lowering) : Type 0 where
  pub tasks : List Task
  pub tasks_are : m.tasks ≡ l.tasks ++ tasks
  pub sources : List Source
  pub sources_are : m.sources ≡ l.sources ++ sources

pub lower-extends : (nodes : List Node) (n : ℕ) (l : Lowering) (rest : List Node) → Extends l (lower_from nodes n l rest)
lower-extends nodes n l [] = record { tasks = []; tasks_are = sym (append-nil l.tasks); sources = []; sources_are = sym (append-nil l.sources) }
lower-extends nodes n l (x ∷ rest) =
    let m = lower_op nodes l.sources n x.taken x.shape x.op (length l.tasks) in
    let r = lower-extends nodes (suc n) (with_made l n m) rest in
    record {
      tasks = m.tasks ++ r.tasks;
      tasks_are = r.tasks_are ∙ append_assoc l.tasks m.tasks r.tasks;
      sources = m.source ∷ r.sources;
      sources_are = r.sources_are ∙ append_assoc l.sources (m.source ∷ []) r.sources;
    }

pub Stand-here : (all front here back : List Task) → all ≡ (front ++ here) ++ back → Stand all (length front) here
Stand-here all front here back e =
    let rest = front ++ (here ++ back) in
    let z : 0 + length front ≡ length front = omega arith in
    let whole-of : Stand rest 0 rest = record { at = λ j h. let y : 0 + j ≡ j = omega arith in ap (task_at rest) y } in
    subst (λ ts. Stand ts (length front) here) (sym (e ∙ append_assoc front here back))
    (subst (λ k. Stand rest k here) z (Stand-front rest (0 + length front) here back (Stand-back rest 0 front (here ++ back) whole-of)))

pub drop-head : (xs rest : List Node) (n : ℕ) (x : Node) → drop n xs ≡ x ∷ rest → (slice_get xs n ≡ Some x) × (drop (suc n) xs ≡ rest)
drop-head [] rest zero x h = absurd cc
drop-head [] rest (suc n) x h = absurd cc
drop-head (y ∷ xs) rest zero x h = (cc, cc)
drop-head (y ∷ xs) rest (suc n) x h = drop-head xs rest n x h

pub drop-none : (xs : List Node) (n : ℕ) → drop n xs ≡ [] → length xs ≤ n
drop-none [] n h = omega arith
drop-none (x ∷ xs) zero h = absurd cc
drop-none (x ∷ xs) (suc n) h = let r = drop-none xs n h in omega arith

law-from : (files : ℕ → List ℕ → ℤ) (tasks : List Task) → IsEarlier (deps_of (shape_of tasks)) → (nodes : List Node) → IsExpression nodes → AreBuilt nodes → (n : ℕ) (l : Lowering) (rest : List Node) → drop n nodes ≡ rest → length l.sources ≡ n
    → (lower_from nodes n l rest).tasks ≡ tasks → AllHeld files tasks nodes l.sources n → AllHeld files tasks nodes (lower_from nodes n l rest).sources (length nodes)
law-from files tasks e nodes ex built n l [] at count is held = λ k h. held k (omega (arith, drop-none nodes n at))
law-from files tasks e nodes ex built n l (x ∷ rest) at count is held =
    let d = drop-head nodes rest n x at in
    let m = lower_op nodes l.sources n x.taken x.shape x.op (length l.tasks) in
    let more = lower-extends nodes (suc n) (with_made l n m) rest in
    let stand : Stand tasks (length l.tasks) m.tasks = Stand-here tasks l.tasks m.tasks more.tasks (sym is ∙ more.tasks_are) in
    let here : IsHeld files tasks m.source (whole files nodes n) = node-held files tasks e nodes l.sources n x (length l.tasks) ex d.0 (built.each n x d.0) held stand in
    law-from files tasks e nodes ex built (suc n) (with_made l n m) rest d.1 (length_push l.sources m.source ∙ omega arith) is (λ k h. elim (cases_lt k n) [
      | inl lt ↦ subst (λ (s : Source). IsHeld files tasks s (whole files nodes k)) (sym (get_or_append_left l.sources (m.source ∷ []) no_source k (omega arith))) (held k lt)
      | inr ge ↦ let same : n ≡ k = omega arith in
          subst (λ j. IsHeld files tasks (source_at (l.sources ++ m.source ∷ []) j) (whole files nodes j)) same
          (subst (λ (s : Source). IsHeld files tasks s (whole files nodes n)) (sym (get_or_push l.sources m.source no_source n count)) here)
    ])

-- each node's array carries what the node holds
pub law-of-lowering : (files : ℕ → List ℕ → ℤ) (nodes : List Node) → IsExpression nodes → AreBuilt nodes → IsEarlier (deps_of (shape_of (lowering nodes).tasks)) → AllHeld files (lowering nodes).tasks nodes (lowering nodes).sources (length nodes)
law-of-lowering files nodes ex built e = law-from files (lowering nodes).tasks e nodes ex built 0 _ nodes refl refl refl (λ k h. absurd (omega arith))
