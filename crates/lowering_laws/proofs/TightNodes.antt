-- No node's array has an empty chunk on an axis of some length.
use Rattle.std.proofs.Common.{◌≡◌, ◌≢◌, ℕ, zero, suc, ◌+◌, ◌-◌, ◌<◌, ◌≤◌, cond, Bool, true, false, List, [], ◌∷◌, length, map, take, get_or, set, refl, ap, sym, subst, ◌∙◌, arith, inl, inr, ℤ, pos}
use Rattle.std.specs.Prelude.{nat_eq, nat_lt, All}
use Rattle.std.specs.List.{AllByRecursion, position_or_len}
use Rattle.std.proofs.lemmas.Bool.{cases_eq, eqb-true}
use Rattle.std.proofs.lemmas.List.{length-set, get_or-set_same, get_or-set_other}
use Rattle.std.proofs.lemmas.List.FromFn.{length-map-range_with_len, get_or-map-range_with_len}
use Rattle.nd_shape.specs.declared.slice.Steps.{Steps}
use Rattle.nd_shape.specs.Chunk.{total}
use Rattle.nd_shape.specs.Broadcast.{broadcast}
use Rattle.nd_grid.specs.Grid.{Grid, is_among, filled}
use Rattle.nd_grid.proofs.Turning.{position-below}
use Rattle.array_expr.specs.declared.op.Op.{Op}
use Rattle.array_expr.specs.declared.op.Op.TheVariants.{Input, Full, Ramp, Negate, Elementwise, Where, Slice, Transpose, Rechunk, Concatenate, Reduce, Tensordot}
use Rattle.array_expr.specs.declared.expr.Node.{Node}
use Rattle.array_expr.specs.Axes.{AreCut}
use Rattle.array_expr.specs.Node.{shape_at, dropped, folded_axes, NamesEarlier, Makes, IsExpression}
use Rattle.expr_laws.specs.Formulas.{whole}
use Rattle.chunk_layout.specs.Layouts.{lengths}
use Rattle.block_kernels.specs.Kernels.{no_grid}
use Rattle.task_graph.specs.declared.graph.Task.{Task}
use Rattle.lowering_laws.specs.Sources.{Source, fitted}
use Rattle.lowering_laws.specs.Stages.{kept_axes, sizes_on, joined_all, point_layout, Arg, Literal, arg_layout, along_all, or_empty, common_axis, common_layout, concatenated_blocks, paired_sizes, with_sizes, contracted_blocks}
use Rattle.lowering_laws.specs.Lowered.{no_node, source_at, arg_of_op, arg_of, lower_op}
use Rattle.lowering_laws.proofs.Points.{point-at, shapes_of, length-point, lengths-point}
use Rattle.lowering_laws.proofs.Pointwise.{AllCarry, layouts-are, grid_shapes}
use Rattle.lowering_laws.proofs.Fitting.{fitted-layout}
use Rattle.lowering_laws.proofs.Joined.{AllSources, AreJoined, sizes_along, axis_sizes, layouts_of, joined-targets}
use Rattle.lowering_laws.proofs.Products.{total-on, pair-at, with-at, length-with, paired-totals}
use Rattle.lowering_laws.proofs.Lowering.{AllHeld, shape-front, arg-carries, all-sources, joined-of, number-broadcast}
use Rattle.lowering_laws.proofs.Tight.{AreFull, AreTight, IsTight, tight-at, tight-each, tight-normalized, tight-kept, tight-turned, tight-append, tight-pieces, full-union, full-joined_all, tight-along}
use Rattle.nd_grid.proofs.Woven.{among-contains}

-- ---- element by element

full-sizes : (dims : List ℕ) (k : ℕ) (layout : List (List ℕ)) → get_or dims k 0 ≢ 0 → IsTight layout → AreFull (sizes_on dims k layout)
full-sizes dims k layout d t =
    let before = length dims - length layout in
    let sizes = get_or layout (k - (length dims - length layout)) [] in
    chosen (nat_lt k before) (nat_eq (total sizes) (get_or dims k 0)) sizes (λ e. tight-at layout (k - before) t (λ z. d (sym (eqb-true (total sizes) (get_or dims k 0) e) ∙ z)))
  where
    chosen : (b c : Bool) (xs : List ℕ) → (c ≡ true → AreFull xs) → AreFull (cond b [] (cond c xs []))
    chosen true c xs h = tt
    chosen false true xs h = h refl
    chosen false false xs h = tt

all-full-sizes : (dims : List ℕ) (k : ℕ) (layouts : List (List (List ℕ))) → get_or dims k 0 ≢ 0 → AllByRecursion IsTight layouts → (j : ℕ) → AreFull (get_or (map (sizes_on dims k) layouts) j [])
all-full-sizes dims k [] d t j = tt
all-full-sizes dims k (layout ∷ layouts) d t zero = full-sizes dims k layout d t.0
all-full-sizes dims k (layout ∷ layouts) d t (suc j) = all-full-sizes dims k layouts d t.1 j

full-axis : (n : ℕ) (xs : List ℕ) → AreFull xs → AreFull (cond (nat_eq n 1) (1 ∷ []) xs)
full-axis n xs f = by-case (nat_eq n 1) xs f
  where
    some : ◌≡◌ {A = ℕ} 1 0 → ⊥
    some e = absurd (omega arith)

    by-case : (b : Bool) (xs : List ℕ) → AreFull xs → AreFull (cond b (1 ∷ []) xs)
    by-case true xs f = (some, tt)
    by-case false xs f = f

tight-point : (dims : List ℕ) (layouts : List (List (List ℕ))) → dims ≡ broadcast (shapes_of layouts) → AllByRecursion IsTight layouts → IsTight (point_layout dims layouts)
tight-point dims layouts e t =
    tight-each (point_layout dims layouts) (λ k h some.
    let b : k < length dims = omega (arith, length-point dims layouts) in
    let n : total (get_or (point_layout dims layouts) k []) ≡ get_or dims k 0 = total-on (point_layout dims layouts) k ∙ ap (λ ns. get_or ns k 0) (lengths-point dims layouts e) in
    subst AreFull (sym (point-at dims layouts k b))
    (full-axis (get_or dims k 0) (joined_all (map (sizes_on dims k) layouts)) (full-joined_all (map (sizes_on dims k) layouts) (all-full-sizes dims k layouts (λ z. some (n ∙ z)) t))))

all-layouts : (args : List Arg) → AllByRecursion (λ a. IsTight (arg_layout a)) args → AllByRecursion IsTight (map arg_layout args)
all-layouts [] t = tt
all-layouts (a ∷ args) t = (t.0, all-layouts args t.1)

tight-pointwise : (files : ℕ → List ℕ → ℤ) (tasks : List Task) (dims : List ℕ) (args : List Arg) (gs : List Grid) → AllCarry files tasks args gs → dims ≡ broadcast (grid_shapes gs) → AllByRecursion (λ a. IsTight (arg_layout a)) args
    → IsTight (point_layout dims (map arg_layout args))
tight-pointwise files tasks dims args gs c e t = tight-point dims (map arg_layout args) (e ∙ ap broadcast (sym (layouts-are files tasks args gs c))) (all-layouts args t)

arg-tight : (op : Op) (s : Source) → IsTight s.layout → IsTight (arg_layout (arg_of_op op s))
arg-tight (Input dims chunks) s t = t
arg-tight (Full [] v chunks) s t = tt
arg-tight (Full (d ∷ dims) v chunks) s t = t
arg-tight (Ramp dims start step chunks) s t = t
arg-tight (Negate of) s t = t
arg-tight (Elementwise op left right) s t = t
arg-tight (Where condition first second) s t = t
arg-tight (Slice of parts) s t = t
arg-tight (Transpose of axes) s t = t
arg-tight (Rechunk of chunks) s t = t
arg-tight (Concatenate of axis) s t = t
arg-tight (Reduce fold of axes split) s t = t
arg-tight (Tensordot left right left_axes right_axes) s t = t

-- ---- one after another

all-full-axes : (files : ℕ → List ℕ → ℤ) (tasks : List Task) (ss : List Source) (gs : List Grid) (k n : ℕ) → AllSources files tasks ss gs → AllByRecursion (λ (s : Source). IsTight s.layout) ss → ((p : ℕ) → p < length gs → get_or (get_or gs p no_grid).shape k 0 ≡ n) → n ≢ 0
    → (j : ℕ) → AreFull (get_or (map (λ (layout : List (List ℕ)). get_or layout k []) (layouts_of ss)) j [])
all-full-axes files tasks [] gs k n a t h d j = tt
all-full-axes files tasks (s ∷ ss) [] k n a t h d j = absurd a
all-full-axes files tasks (s ∷ ss) (g ∷ gs) k n a t h d zero =
    let is : total (get_or s.layout k []) ≡ n = total-on s.layout k ∙ ap (λ ns. get_or ns k 0) a.0.shape ∙ h 0 (omega arith) in
    tight-at s.layout k t.0 (λ z. d (sym is ∙ z))
all-full-axes files tasks (s ∷ ss) (g ∷ gs) k n a t h d (suc j) = all-full-axes files tasks ss gs k n a.2 t.1 (λ p b. h (suc p) (omega arith)) d j

tight-joined : (files : ℕ → List ℕ → ℤ) (tasks : List Task) (axis : ℕ) (s : Source) (ss : List Source) (g : Grid) (gs : List Grid) (base : ℕ) → AllSources files tasks (s ∷ ss) (g ∷ gs) → AreJoined axis g gs → AllByRecursion (λ (s : Source). IsTight s.layout) (s ∷ ss)
    → IsTight (concatenated_blocks (s ∷ ss) axis base).source.layout
tight-joined files tasks axis s ss g gs base a j t =
    let common = common_layout (layouts_of (s ∷ ss)) in
    let zs = axis_sizes (s ∷ ss) axis in
    let as' = or_empty (along_all 0 zs) in
    let layout = set common axis (sizes_along as') in
    let lc : length common ≡ length s.layout = length-map-range_with_len (common_axis (layouts_of (s ∷ ss))) 0 (length s.layout) in
    let cut : lengths (set common axis (get_or s.layout axis [])) ≡ g.shape = joined-targets files tasks axis s ss g gs a j 0 (omega arith) in
    tight-each layout (λ k h. elim (cases_eq k axis) [
      | inl q ↦
          let b : axis < length common = omega (arith, length-set common axis (sizes_along as')) in
          subst AreTight (sym (ap (λ i. get_or layout i []) q ∙ get_or-set_same common axis (sizes_along as') [] b)) (tight-along zs)
      | inr q ↦
          let b : k < length s.layout = omega (arith, length-set common axis (sizes_along as')) in
          let at : get_or common k [] ≡ common_axis (layouts_of (s ∷ ss)) k = get_or-map-range_with_len (common_axis (layouts_of (s ∷ ss))) 0 (length s.layout) k k [] b (omega arith) in
          let own : total (get_or common k []) ≡ get_or g.shape k 0 =
          ap total (sym (get_or-set_other common axis k (get_or s.layout axis []) [] q)) ∙ total-on (set common axis (get_or s.layout axis [])) k ∙ ap (λ ns. get_or ns k 0) cut in
          subst AreTight (sym (get_or-set_other common axis k (sizes_along as') [] q)) (λ some.
          subst AreFull (sym at)
          (full-joined_all (map (λ (l : List (List ℕ)). get_or l k []) (layouts_of (s ∷ ss)))
          (all-full-axes files tasks (s ∷ ss) (g ∷ gs) k (get_or g.shape k 0) a t (λ p b. j.others k p q b) (λ z. some (own ∙ z)))))
    ])

-- ---- products

tight-with : (layout : List (List ℕ)) (axes : List ℕ) (pairs : List (List ℕ)) → IsTight layout → ((j : ℕ) → j < length axes → AreTight (get_or pairs j [])) → IsTight (with_sizes layout axes pairs)
tight-with layout axes pairs t p =
    tight-each (with_sizes layout axes pairs) (λ k h.
    let lt : k < length layout = omega (arith, length-with layout axes pairs) in
    subst AreTight (sym (with-at layout axes pairs k lt)) (axis k (is_among k axes) refl))
  where
    axis : (k : ℕ) (b : Bool) → is_among k axes ≡ b → AreTight (cond (is_among k axes) (get_or pairs (position_or_len (nat_eq k) axes) []) (get_or layout k []))
    axis k true e = subst (λ b. AreTight (cond b (get_or pairs (position_or_len (nat_eq k) axes) []) (get_or layout k []))) (sym e) (p _ (position-below axes k (among-contains axes k e)))
    axis k false e = subst (λ b. AreTight (cond b (get_or pairs (position_or_len (nat_eq k) axes) []) (get_or layout k []))) (sym e) (tight-at layout k t)

tight-pairs : (l r : List (List ℕ)) (la ra : List ℕ) → IsTight l → IsTight r → length la ≡ length ra → ((j : ℕ) → j < length la → get_or (lengths l) (get_or la j 0) 0 ≡ get_or (lengths r) (get_or ra j 0) 0)
    → (j : ℕ) → j < length la → AreTight (get_or (paired_sizes l r la ra) j [])
tight-pairs l r la ra tl tr n same j lt some =
    let totals = paired-totals l r la ra n same j lt in
    let x : total (get_or (paired_sizes l r la ra) j []) ≡ total (get_or l (get_or la j 0) []) = totals.0 ∙ sym (total-on l (get_or la j 0)) in
    let y : total (get_or (paired_sizes l r la ra) j []) ≡ total (get_or r (get_or ra j 0) []) = totals.1 ∙ sym (total-on r (get_or ra j 0)) in
    subst AreFull (sym (pair-at l r la ra j n lt))
    (full-union (get_or l (get_or la j 0) []) (get_or r (get_or ra j 0) []) (tight-at l (get_or la j 0) tl (λ z. some (x ∙ z))) (tight-at r (get_or ra j 0) tr (λ z. some (y ∙ z))))

tight-contracted : (la ra : List ℕ) (l r : Source) (base : ℕ) → IsTight l.layout → IsTight r.layout → length la ≡ length ra → ((j : ℕ) → j < length la → get_or (lengths l.layout) (get_or la j 0) 0 ≡ get_or (lengths r.layout) (get_or ra j 0) 0)
    → IsTight (contracted_blocks la ra l r base).source.layout
tight-contracted la ra l r base tl tr n same =
    let pairs = paired_sizes l.layout r.layout la ra in
    let fit_l = fitted base l (with_sizes l.layout la pairs) in
    let fit_r = fitted (base + length fit_l.tasks) r (with_sizes r.layout ra pairs) in
    let tp = tight-pairs l.layout r.layout la ra tl tr n same in
    tight-append (kept_axes 0 fit_l.source.layout la) (kept_axes 0 fit_r.source.layout ra)
    (tight-kept 0 fit_l.source.layout la (subst IsTight (sym (fitted-layout l (with_sizes l.layout la pairs) base)) (tight-with l.layout la pairs tl tp)))
    (tight-kept 0 fit_r.source.layout ra (subst IsTight (sym (fitted-layout r (with_sizes r.layout ra pairs) (base + length fit_l.tasks))) (tight-with r.layout ra pairs tr (λ j b. tp j (omega arith)))))

-- ---- each operation

abbrev pub AllTight : List Source → ℕ → Type 0
AllTight sources n = (k : ℕ) → k < n → IsTight (source_at sources k).layout

arg-at : (nodes : List Node) (sources : List Source) (n k : ℕ) → k < n → AllTight sources n → IsTight (arg_layout (arg_of nodes sources k))
arg-at nodes sources n k lt t = arg-tight (get_or nodes k no_node).op (source_at sources k) (t k lt)

all-tight : (sources : List Source) (n : ℕ) (of : List ℕ) → All (λ k. k < n) of → AllTight sources n → AllByRecursion (λ (s : Source). IsTight s.layout) (map (source_at sources) of)
all-tight sources n [] a t = tt
all-tight sources n (k ∷ of) a t = (t k (a 0 0 (omega arith)), all-tight sources n of (λ j d lt. a (suc j) d (omega (arith, lt))) t)

pub op-tight : (files : ℕ → List ℕ → ℤ) (tasks : List Task) (nodes : List Node) (sources : List Source) (n : ℕ) (op : Op) (taken : List Steps) (shape : List ℕ) (base : ℕ) → IsExpression nodes → n ≤ length nodes
    → NamesEarlier op n → Makes (take n nodes) op taken shape → AllHeld files tasks nodes sources n → AllTight sources n → IsTight (lower_op nodes sources n taken shape op base).source.layout
op-tight files tasks nodes sources n (Input dims chunks) taken shape base ex le names makes held t = tight-normalized dims chunks makes.0
op-tight files tasks nodes sources n (Full dims v chunks) taken shape base ex le names makes held t = tight-normalized dims chunks makes.0
op-tight files tasks nodes sources n (Ramp dims start step chunks) taken shape base ex le names makes held t = tight-normalized dims chunks makes.0
op-tight files tasks nodes sources n (Negate of) taken shape base ex le names makes held t =
    tight-pointwise files tasks shape (Literal (pos 0) ∷ arg_of nodes sources of ∷ []) (filled [] (pos 0) ∷ whole files nodes of ∷ [])
    (record { shape = refl; at = refl }, (arg-carries files tasks nodes sources of ex (omega (arith, names)) (held of names).carries, tt))
    (makes.0 ∙ shape-front nodes n of names ∙ sym (number-broadcast (shape_at nodes of))) (tt, (arg-at nodes sources n of names t, tt))
op-tight files tasks nodes sources n (Elementwise op left right) taken shape base ex le names makes held t =
    let same : shape_at (take n nodes) left ∷ shape_at (take n nodes) right ∷ [] ≡ shape_at nodes left ∷ shape_at nodes right ∷ [] =
    ap (λ ns. ns ∷ shape_at (take n nodes) right ∷ []) (shape-front nodes n left names.0) ∙ ap (λ ns. shape_at nodes left ∷ ns ∷ []) (shape-front nodes n right names.1) in
    tight-pointwise files tasks shape (arg_of nodes sources left ∷ arg_of nodes sources right ∷ []) (whole files nodes left ∷ whole files nodes right ∷ [])
    (arg-carries files tasks nodes sources left ex (omega (arith, names.0)) (held left names.0).carries, (arg-carries files tasks nodes sources right ex (omega (arith, names.1)) (held right names.1).carries, tt))
    (makes.1 ∙ ap broadcast same) (arg-at nodes sources n left names.0 t, (arg-at nodes sources n right names.1 t, tt))
op-tight files tasks nodes sources n (Where condition first second) taken shape base ex le names makes held t =
    let same : shape_at (take n nodes) condition ∷ shape_at (take n nodes) first ∷ shape_at (take n nodes) second ∷ [] ≡ shape_at nodes condition ∷ shape_at nodes first ∷ shape_at nodes second ∷ [] =
    ap (λ ns. ns ∷ shape_at (take n nodes) first ∷ shape_at (take n nodes) second ∷ []) (shape-front nodes n condition names.0)
    ∙ ap (λ ns. shape_at nodes condition ∷ ns ∷ shape_at (take n nodes) second ∷ []) (shape-front nodes n first names.1)
    ∙ ap (λ ns. shape_at nodes condition ∷ shape_at nodes first ∷ ns ∷ []) (shape-front nodes n second names.2) in
    tight-pointwise files tasks shape (arg_of nodes sources condition ∷ arg_of nodes sources first ∷ arg_of nodes sources second ∷ []) (whole files nodes condition ∷ whole files nodes first ∷ whole files nodes second ∷ [])
    (arg-carries files tasks nodes sources condition ex (omega (arith, names.0)) (held condition names.0).carries, (arg-carries files tasks nodes sources first ex (omega (arith, names.1)) (held first names.1).carries, (arg-carries files tasks nodes sources second ex (omega (arith, names.2)) (held second names.2).carries, tt)))
    (makes.1 ∙ ap broadcast same) (arg-at nodes sources n condition names.0 t, (arg-at nodes sources n first names.1 t, (arg-at nodes sources n second names.2 t, tt)))
op-tight files tasks nodes sources n (Slice of parts) taken shape base ex le names makes held t = tight-kept 0 _ (dropped parts) (tight-pieces (source_at sources of).layout taken)
op-tight files tasks nodes sources n (Transpose of axes) taken shape base ex le names makes held t = tight-turned axes (source_at sources of).layout (t of names)
op-tight files tasks nodes sources n (Rechunk of chunks) taken shape base ex le names makes held t = tight-normalized shape chunks (subst (λ ns. AreCut ns chunks) (sym makes.1) makes.0)
op-tight files tasks nodes sources n (Concatenate [] axis) taken shape base ex le names makes held t = absurd (let b = makes.0.there in omega arith)
op-tight files tasks nodes sources n (Concatenate (x ∷ xs) axis) taken shape base ex le names makes held t =
    tight-joined files tasks axis (source_at sources x) (map (source_at sources) xs) (whole files nodes x) (map (whole files nodes) xs) base (all-sources files tasks nodes sources n (x ∷ xs) names held) (joined-of files nodes n x xs axis names makes.0)
    (all-tight sources n (x ∷ xs) names t)
op-tight files tasks nodes sources n (Reduce fold of axes split) taken shape base ex le names makes held t = tight-kept 0 (source_at sources of).layout (folded_axes axes (length (shape_at nodes of))) (t of names)
op-tight files tasks nodes sources n (Tensordot left right left_axes right_axes) taken shape base ex le names makes held t =
    let fl : shape_at (take n nodes) left ≡ shape_at nodes left = shape-front nodes n left names.0 in
    let fr : shape_at (take n nodes) right ≡ shape_at nodes right = shape-front nodes n right names.1 in
    tight-contracted left_axes right_axes (source_at sources left) (source_at sources right) base (t left names.0) (t right names.1) makes.0.number
    (λ j h. ap (λ ns. get_or ns (get_or left_axes j 0) 0) ((held left names.0).carries.shape ∙ sym fl) ∙ makes.0.pairs j h ∙ ap (λ ns. get_or ns (get_or right_axes j 0) 0) (fr ∙ sym (held right names.1).carries.shape))
