-- Concatenations are well formed: each block is one whole piece.
use Rattle.std.proofs.Common.{◌≡◌, ℕ, zero, suc, ◌+◌, ◌<◌, cond, List, [], ◌∷◌, length, map, take, get_or, set, refl, ap, sym, subst, ◌∙◌, arith, ℤ}
use Rattle.std.specs.List.{AllByRecursion}
use Rattle.std.proofs.lemmas.List.{length-map, length-set, get_or-map}
use Rattle.std.proofs.lemmas.List.FromFn.{length-map-range_with_len}
use Rattle.std.proofs.lemmas.List.Elements.{All-from_recursion}
use Rattle.small_facts.proofs.Every.{all_join}
use Rattle.nd_shape.specs.Shape.{IsShape}
use Rattle.nd_shape.specs.Region.{IsPart}
use Rattle.nd_shape.specs.Chunk.{total}
use Rattle.nd_shape.specs.declared.region.Piece.{Piece}
use Rattle.nd_shape.proofs.Places.{IsIn-length}
use Rattle.nd_grid.specs.Grid.{Grid}
use Rattle.array_expr.specs.declared.expr.Node.{Node}
use Rattle.chunk_layout.specs.Layouts.{counts, lengths, lengths_at}
use Rattle.block_kernels.specs.Kernels.{no_grid}
use Rattle.block_kernels.specs.WellFormed.{FitsPiece, FitsAssemble}
use Rattle.task_graph.specs.declared.graph.Task.{Task}
use Rattle.lowering_laws.specs.Sources.{Source, fitted}
use Rattle.lowering_laws.specs.Stages.{Along, along_all, or_empty, no_along, along_at, whole_piece, fitted_along, no_source, common_axis, common_layout, joined_task, concatenated_blocks}
use Rattle.lowering_laws.proofs.Cutting.{chunks-on}
use Rattle.lowering_laws.proofs.Fitting.{fitted-layout}
use Rattle.lowering_laws.proofs.Joined.{AllSources, AreJoined, AlongFits, along-fits, along-number, sizes_along, starts-axis, lengths-set, axis_sizes, layouts_of, joined-targets, zeros-within}
use Rattle.lowering_laws.proofs.Formed.{IsFormed, AreFormed, formed-each, box-shape}
use Rattle.lowering_laws.proofs.FormedPieces.{formed-fitted}

-- ---- one whole piece

zero-at : (lens : List ℕ) (k : ℕ) → ◌≡◌ {A = ℕ} (get_or (map (λ (n : ℕ). 0) lens) k 0) 0
zero-at [] k = refl
zero-at (n ∷ lens) zero = refl
zero-at (n ∷ lens) (suc k) = zero-at lens k

whole-part : (lens : List ℕ) → IsPart (record { start = map (λ (n : ℕ). 0) lens; lengths = lens }) lens
whole-part lens = record { starts = length-map lens (λ (n : ℕ). 0); lengths = refl; ends = λ k h. omega (arith, zero-at lens k) }

whole-assembles : (lens input : List ℕ) → input ≡ lens → FitsAssemble (whole_piece lens ∷ []) (input ∷ []) lens
whole-assembles lens input e = record {
  each = All-from_recursion (λ (p : Piece). FitsPiece p (input ∷ []) lens) (whole_piece lens ∷ [])
      (record { source_in = omega arith; source = subst (IsPart (record { start = map (λ (n : ℕ). 0) lens; lengths = lens })) (sym e) (whole-part lens); result = whole-part lens; same = refl }, tt);
  once = λ i h. ap (λ b. cond b 1 0 + 0) (zeros-within lens i h);
}

-- ---- the operands in the common layout

along-layout : (common : List (List ℕ)) (axis : ℕ) (ss : List Source) (base p : ℕ) → p < length ss → (get_or (fitted_along common axis ss base).sources p no_source).layout ≡ set common axis (get_or (get_or ss p no_source).layout axis [])
along-layout common axis [] base p h = absurd (omega arith)
along-layout common axis (s ∷ ss) base zero h = fitted-layout s (set common axis (get_or s.layout axis [])) base
along-layout common axis (s ∷ ss) base (suc p) h = along-layout common axis ss (base + length (fitted base s (set common axis (get_or s.layout axis []))).tasks) p (omega arith)

along-formed : (nodes : List Node) (files : ℕ → List ℕ → ℤ) (tasks : List Task) (common : List (List ℕ)) (axis : ℕ) (ss : List Source) (gs : List Grid) (base : ℕ) → AllSources files tasks ss gs
    → ((p : ℕ) → p < length ss → lengths (set common axis (get_or (get_or ss p no_source).layout axis [])) ≡ (get_or gs p no_grid).shape) → AllByRecursion (λ (g : Grid). IsShape g.shape) gs → AreFormed nodes (fitted_along common axis ss base).tasks
along-formed nodes files tasks common axis [] gs base a cut sh = tt
along-formed nodes files tasks common axis (s ∷ ss) [] base a cut sh = absurd a
along-formed nodes files tasks common axis (s ∷ ss) (g ∷ gs) base a cut sh =
    let to = set common axis (get_or s.layout axis []) in
    let same : lengths (set common axis (get_or s.layout axis [])) ≡ g.shape = cut 0 (omega arith) in
    all_join (IsFormed nodes) (fitted base s to).tasks _ (formed-fitted nodes s to base (a.0.shape ∙ sym same) (subst IsShape (sym same) sh.0))
    (along-formed nodes files tasks common axis ss gs (base + length (fitted base s to).tasks) a.2 (λ p h. cut (suc p) (omega arith)) sh.1)

-- ---- the stage

pub formed-joined : (nodes : List Node) (files : ℕ → List ℕ → ℤ) (tasks : List Task) (axis : ℕ) (s : Source) (ss : List Source) (g : Grid) (gs : List Grid) (base : ℕ) → AllSources files tasks (s ∷ ss) (g ∷ gs) → AreJoined axis g gs
    → AllByRecursion (λ (g : Grid). IsShape g.shape) (g ∷ gs) → IsShape (lengths (concatenated_blocks (s ∷ ss) axis base).source.layout) → AreFormed nodes (concatenated_blocks (s ∷ ss) axis base).tasks
formed-joined nodes files tasks axis s ss g gs base a j sh is =
    let common = common_layout (layouts_of (s ∷ ss)) in
    let first : length s.layout ≡ length g.shape = sym (length-map s.layout (λ (sizes : List ℕ). total sizes)) ∙ ap length a.0.shape in
    let lc : length common ≡ length s.layout = length-map-range_with_len (common_axis (layouts_of (s ∷ ss))) 0 (length s.layout) in
    let inside-axis : axis < length common = omega (arith, j.there) in
    let fit = fitted_along common axis (s ∷ ss) base in
    let zs = axis_sizes (s ∷ ss) axis in
    let as' = or_empty (along_all 0 zs) in
    let along = along-fits (get_or s.layout axis []) (axis_sizes ss axis) (chunks-on s.layout axis a.1 (omega arith)) in
    let layout = set common axis (sizes_along as') in
    all_join (IsFormed nodes) fit.tasks _ (along-formed nodes files tasks common axis (s ∷ ss) (g ∷ gs) base a (joined-targets files tasks axis s ss g gs a j) sh)
    (formed-each nodes (base + length fit.tasks) layout (joined_task layout as' axis fit.sources) (λ bs inside.
    let it = along_at as' (get_or bs axis 0) in
    let ax = starts-axis common axis (sizes_along as') bs inside-axis inside in
    let few : get_or bs axis 0 < length as' = omega (arith, ax.1, length-map as' (λ (a : Along). a.size)) in
    let fits : AlongFits zs (0 + total (take (get_or bs axis 0) (sizes_along as'))) it = along-number zs 0 as' (get_or bs axis 0) along.0 few in
    let here : it.operand < length (s ∷ ss) = omega (arith, fits.there, length-map (s ∷ ss) (λ (s : Source). get_or s.layout axis [])) in
    let z = get_or zs it.operand [] in
    let z-at : get_or zs it.operand [] ≡ get_or (get_or (s ∷ ss) it.operand no_source).layout axis [] = get_or-map (λ (s : Source). get_or s.layout axis []) (s ∷ ss) it.operand no_source [] here in
    let target-is : (get_or fit.sources it.operand no_source).layout ≡ set common axis (get_or zs it.operand []) = along-layout common axis (s ∷ ss) base it.operand here ∙ ap (set common axis) (sym z-at) in
    let lb : length bs ≡ length common = IsIn-length (counts layout) bs inside ∙ length-map layout (λ (sizes : List ℕ). length sizes) ∙ length-set common axis (sizes_along as') in
    let size : get_or (get_or zs it.operand []) it.chunk 0 ≡ get_or (sizes_along as') (get_or bs axis 0) 0 = sym fits.size ∙ sym (get_or-map (λ (a : Along). a.size) as' (get_or bs axis 0) no_along 0 few) in
    let same : lengths_at (get_or fit.sources it.operand no_source).layout (set bs axis it.chunk) ≡ lengths_at layout bs =
    ap (λ (l : List (List ℕ)). lengths_at l (set bs axis it.chunk)) target-is ∙ lengths-set common axis z (sizes_along as') bs it.chunk inside-axis lb size in
    record { made = record { rules = whole-assembles (lengths_at layout bs) _ same; shape = box-shape layout bs is inside }; loads = tt }))
