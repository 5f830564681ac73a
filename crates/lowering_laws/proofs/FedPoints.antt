-- The inputs of elementwise stages and of concatenations have the shapes that their dependencies make.
use Rattle.std.proofs.Common.{◌≡◌, ℕ, zero, suc, ◌+◌, ◌-◌, ◌<◌, List, [], ◌∷◌, length, map, drop, take, get_or, set, refl, ap, sym, subst, ◌∙◌, arith}
use Rattle.std.specs.List.{AllByRecursion}
use Rattle.std.proofs.lemmas.List.{length-map, length-drop, length-set, get_or-map}
use Rattle.std.proofs.lemmas.List.FromFn.{length-map-range_with_len}
use Rattle.small_facts.proofs.Every.{all_join}
use Rattle.nd_shape.specs.Index.{IsIn}
use Rattle.nd_shape.specs.Chunk.{total}
use Rattle.chunk_layout.specs.Layouts.{counts, lengths, lengths_at}
use Rattle.block_kernels.specs.Kernels.{result_shape}
use Rattle.task_graph.specs.declared.graph.Task.{Task}
use Rattle.lowering_laws.specs.Sources.{Source, Made, one_each, fitted}
use Rattle.lowering_laws.specs.Stages.{Arg, Literal, Blocks, Point, Pair, Choice, arg_layout, arg_target, fitted_arg, fitted_args, chunks_under, uses_of, point_task, pointwise, point_layout, after, Along, along_all, or_empty, along_at, fitted_along, no_source, common_axis, common_layout, joined_task, concatenated_blocks}
use Rattle.lowering_laws.specs.Law.{Stand}
use Rattle.lowering_laws.proofs.Carrying.{Stand-front, Stand-back}
use Rattle.lowering_laws.proofs.Under.{length-layout}
use Rattle.lowering_laws.proofs.Points.{length-point}
use Rattle.lowering_laws.proofs.Joined.{AlongFits, along-fits, along-number, sizes_along, starts-axis, counts-set, axis_sizes, layouts_of}
use Rattle.lowering_laws.proofs.GoodPoints.{ArgBelow, ArgReady, ArgsMade, all-args}
use Rattle.lowering_laws.proofs.GoodJoined.{IsOperand, FitsAlong, AlongMade, along-made}
use Rattle.lowering_laws.proofs.Fed.{IsFed, AreFed, IsShaped, IsCut, UseFits, none-fed, fed-append, cut-each, cut-fitted, uses-fed}

pub cut-after : (all : List Task) (tasks : List Task) (more : ℕ → Made) (base : ℕ) → AreFed all tasks → IsCut all (more (base + length tasks)) → IsCut all (after tasks more base)
cut-after all tasks more base f c = record { fed = fed-append all tasks (more (base + length tasks)).tasks f c.fed; shaped = c.shaped }

abbrev pub ArgShaped : List Task → Arg → Type 0
ArgShaped all (Literal v) = Unit {0}
ArgShaped all (Blocks s) = IsShaped all s

pub record ArgsCut (all tasks : List Task) (args : List Arg) : Type 0 where
  pub fed : AreFed all tasks
  pub shaped : AllByRecursion (ArgShaped all) args

one-cut : (all : List Task) (layout : List (List ℕ)) (bound : ℕ) (a : Arg) (base : ℕ) → ArgBelow bound (length layout) a → ArgShaped all a → Stand all base (fitted_arg base layout a).tasks → ArgsCut all (fitted_arg base layout a).tasks (fitted_arg base layout a).args
one-cut all layout bound (Literal v) base h sh stand = record { fed = none-fed all; shaped = (tt, tt) }
one-cut all layout bound (Blocks s) base h sh stand =
    let nl : length (lengths s.layout) ≡ length s.layout = length-map s.layout (λ (sizes : List ℕ). total sizes) in
    let number : length s.layout ≡ length (arg_target layout (Blocks s)) =
    sym (length-layout (lengths s.layout) (drop (length layout - length s.layout) layout) (omega (arith, length-drop (length layout - length s.layout) layout, h.1)) ∙ nl) in
    let c : IsCut all (fitted base s (arg_target layout (Blocks s))) = cut-fitted all s (arg_target layout (Blocks s)) base number sh stand in
    record { fed = c.fed; shaped = (c.shaped, tt) }

pub all-cut : (all : List Task) (layout : List (List ℕ)) (bound : ℕ) (args : List Arg) (base : ℕ) → AllByRecursion (ArgBelow bound (length layout)) args → AllByRecursion (ArgShaped all) args → Stand all base (fitted_args layout args base).tasks
    → ArgsCut all (fitted_args layout args base).tasks (fitted_args layout args base).args
all-cut all layout bound [] base h sh stand = record { fed = none-fed all; shaped = tt }
all-cut all layout bound (a ∷ args) base h sh stand =
    let first = fitted_arg base layout a in
    let rest = fitted_args layout args (base + length first.tasks) in
    let one : ArgsCut all first.tasks first.args = one-cut all layout bound a base h.0 sh.0 (Stand-front all base first.tasks rest.tasks stand) in
    let more : ArgsCut all rest.tasks rest.args = all-cut all layout bound args (base + length first.tasks) h.1 sh.1 (Stand-back all base first.tasks rest.tasks stand) in
    record { fed = fed-append all first.tasks rest.tasks one.fed more.fed; shaped = all_join (ArgShaped all) first.args rest.args one.shaped more.shaped }

pub uses-fit : (all : List Task) (bound : ℕ) (layout : List (List ℕ)) (args : List Arg) (bs : List ℕ) → IsIn (counts layout) bs → AllByRecursion (ArgReady bound layout) args → AllByRecursion (ArgShaped all) args → AllByRecursion (UseFits all) (uses_of args bs)
uses-fit all bound layout [] bs i r sh = tt
uses-fit all bound layout (Literal v ∷ args) bs i r sh = uses-fit all bound layout args bs i r.1 sh.1
uses-fit all bound layout (Blocks s ∷ args) bs i r sh = (sh.0.at (chunks_under s bs) (r.0.1 bs i), uses-fit all bound layout args bs i r.1 sh.1)

point-fed : (all : List Task) (point : Point) (layout : List (List ℕ)) (args : List Arg) (bs : List ℕ) → AllByRecursion (UseFits all) (uses_of args bs) → IsFed all (point_task point layout args bs)
point-fed all (Pair op) layout args bs a = record { inputs = uses-fed all (uses_of args bs) a }
point-fed all Choice layout args bs a = record { inputs = uses-fed all (uses_of args bs) a }

point-shape : (point : Point) (layout : List (List ℕ)) (args : List Arg) (bs : List ℕ) → result_shape (point_task point layout args bs).spec ≡ lengths_at layout bs
point-shape (Pair op) layout args bs = refl
point-shape Choice layout args bs = refl

pub cut-pointwise : (all : List Task) (point : Point) (dims : List ℕ) (args : List Arg) (base : ℕ) → AllByRecursion (ArgBelow base (length dims)) args → AllByRecursion (ArgShaped all) args → Stand all base (pointwise point dims args base).tasks
    → IsCut all (pointwise point dims args base)
cut-pointwise all point dims args base h sh stand =
    let layout = point_layout dims (map arg_layout args) in
    let fit = fitted_args layout args base in
    let hl : AllByRecursion (ArgBelow base (length layout)) args = subst (λ n. AllByRecursion (ArgBelow base n) args) (sym (length-point dims (map arg_layout args))) h in
    let a : ArgsMade base layout (fitted_args layout args base).tasks (fitted_args layout args base).args = all-args layout args base hl in
    let c : ArgsCut all fit.tasks fit.args = all-cut all layout base args base hl sh (Stand-front all base fit.tasks _ stand) in
    cut-after all fit.tasks (λ b. one_each b layout (point_task point layout fit.args)) base c.fed
    (cut-each all (base + length fit.tasks) layout (point_task point layout fit.args) (Stand-back all base fit.tasks _ stand)
    (λ bs i. point-fed all point layout fit.args bs (uses-fit all (base + length fit.tasks) layout fit.args bs i a.ready c.shaped)) (λ bs i. point-shape point layout fit.args bs))

-- ---- concatenations

record AlongCut (all tasks : List Task) (ss ts : List Source) : Type 0 where
  fed : AreFed all tasks
  shaped : (p : ℕ) → p < length ss → IsShaped all (get_or ts p no_source)

along-cut : (all : List Task) (common : List (List ℕ)) (axis bound : ℕ) (ss : List Source) (base : ℕ) → AllByRecursion (IsOperand bound (length common)) ss → AllByRecursion (IsShaped all) ss → Stand all base (fitted_along common axis ss base).tasks
    → AlongCut all (fitted_along common axis ss base).tasks ss (fitted_along common axis ss base).sources
along-cut all common axis bound [] base h sh stand = record { fed = none-fed all; shaped = λ p l. absurd (omega arith) }
along-cut all common axis bound (s ∷ ss) base h sh stand =
    let to = set common axis (get_or s.layout axis []) in
    let m = fitted base s (set common axis (get_or s.layout axis [])) in
    let rest = fitted_along common axis ss (base + length m.tasks) in
    let one : IsCut all m = cut-fitted all s (set common axis (get_or s.layout axis [])) base (h.0.axes_are ∙ sym (length-set common axis (get_or s.layout axis []))) sh.0 (Stand-front all base m.tasks rest.tasks stand) in
    let more : AlongCut all rest.tasks ss rest.sources = along-cut all common axis bound ss (base + length m.tasks) h.1 sh.1 (Stand-back all base m.tasks rest.tasks stand) in
    record { fed = fed-append all m.tasks rest.tasks one.fed more.fed; shaped = λ p l. at all s ss m.source rest.sources one.shaped more.shaped p l }
  where
    at : (all : List Task) (s : Source) (ss : List Source) (t : Source) (ts : List Source) → IsShaped all t → ((p : ℕ) → p < length ss → IsShaped all (get_or ts p no_source)) → (p : ℕ) → p < length (s ∷ ss) → IsShaped all (get_or (t ∷ ts) p no_source)
    at all s ss t ts a b zero l = a
    at all s ss t ts a b (suc p) l = b p (omega arith)

pub cut-joined : (all : List Task) (axis : ℕ) (s : Source) (ss : List Source) (base : ℕ) → AllByRecursion (IsOperand base (length s.layout)) (s ∷ ss) → axis < length s.layout → 0 < length (get_or s.layout axis []) → AllByRecursion (IsShaped all) (s ∷ ss)
    → Stand all base (concatenated_blocks (s ∷ ss) axis base).tasks → IsCut all (concatenated_blocks (s ∷ ss) axis base)
cut-joined all axis s ss base h there some sh stand =
    let common = common_layout (layouts_of (s ∷ ss)) in
    let lc : length common ≡ length s.layout = length-map-range_with_len (common_axis (layouts_of (s ∷ ss))) 0 (length s.layout) in
    let hc : AllByRecursion (IsOperand base (length common)) (s ∷ ss) = subst (λ n. AllByRecursion (IsOperand base n) (s ∷ ss)) (sym lc) h in
    let fit = fitted_along common axis (s ∷ ss) base in
    let a : AlongMade base common axis (s ∷ ss) (fitted_along common axis (s ∷ ss) base).tasks (fitted_along common axis (s ∷ ss) base).sources = along-made common axis (s ∷ ss) base hc in
    let c : AlongCut all fit.tasks (s ∷ ss) fit.sources = along-cut all common axis base (s ∷ ss) base hc sh (Stand-front all base fit.tasks _ stand) in
    let zs = axis_sizes (s ∷ ss) axis in
    let as' = or_empty (along_all 0 zs) in
    let along = along-fits (get_or s.layout axis []) (axis_sizes ss axis) some in
    let layout = set common axis (sizes_along as') in
    cut-after all fit.tasks (λ b. one_each b layout (joined_task layout as' axis fit.sources)) base c.fed
    (cut-each all (base + length fit.tasks) layout (joined_task layout as' axis fit.sources) (Stand-back all base fit.tasks _ stand) (λ bs inside.
    let it = along_at as' (get_or bs axis 0) in
    let ax = starts-axis common axis (sizes_along as') bs (omega arith) inside in
    let few : get_or bs axis 0 < length as' = omega (arith, ax.1, length-map as' (λ (a : Along). a.size)) in
    let fits : AlongFits zs (0 + total (take (get_or bs axis 0) (sizes_along as'))) it = along-number zs 0 as' (get_or bs axis 0) along.0 few in
    let here : it.operand < length (s ∷ ss) = omega (arith, fits.there, length-map (s ∷ ss) (λ (s : Source). get_or s.layout axis [])) in
    let f : FitsAlong (base + length fit.tasks) common axis (get_or (s ∷ ss) it.operand no_source) (get_or fit.sources it.operand no_source) = a.each it.operand here in
    let src = get_or fit.sources it.operand no_source in
    let z-at : get_or zs it.operand [] ≡ get_or (get_or (s ∷ ss) it.operand no_source).layout axis [] = get_or-map (λ (s : Source). get_or s.layout axis []) (s ∷ ss) it.operand no_source [] here in
    let target-is : src.layout ≡ set common axis (get_or zs it.operand []) = f.layout_is ∙ ap (set common axis) (sym z-at) in
    let in' : IsIn (counts src.layout) (set bs axis it.chunk) =
    subst (λ (l : List (List ℕ)). IsIn (counts l) (set bs axis it.chunk)) (sym target-is) (counts-set common axis (get_or zs it.operand []) (sizes_along as') bs it.chunk (omega arith) inside fits.chunk) in
    record { inputs = ap (λ ns. ns ∷ []) ((c.shaped it.operand here).at (set bs axis it.chunk) in') }) (λ bs inside. refl))
