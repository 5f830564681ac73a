-- Concatenations make tasks in order.
use Rattle.std.proofs.Common.{◌≡◌, ℕ, zero, suc, ◌+◌, ◌<◌, ◌≤◌, List, [], ◌∷◌, ◌++◌, length, take, get_or, set, ap, sym, subst, ◌∙◌, arith, length-append}
use Rattle.std.specs.List.{AllByRecursion}
use Rattle.std.proofs.lemmas.List.{length-map, get_or-map, length-set}
use Rattle.std.proofs.lemmas.List.FromFn.{length-map-range_with_len}
use Rattle.nd_shape.specs.Index.{IsIn}
use Rattle.nd_shape.specs.Chunk.{total}
use Rattle.chunk_layout.specs.Layouts.{counts}
use Rattle.cluster_msgs.proofs.Dags.{all-weaker}
use Rattle.task_graph.specs.declared.graph.Task.{Task}
use Rattle.lowering_laws.specs.Sources.{Source, one_each, fitted}
use Rattle.lowering_laws.specs.Stages.{Along, along_all, or_empty, along_at, fitted_along, no_source, common_axis, common_layout, joined_task, concatenated_blocks}
use Rattle.lowering_laws.proofs.Joined.{AlongFits, along-fits, along-number, sizes_along, starts-axis, counts-set, axis_sizes, layouts_of}
use Rattle.lowering_laws.proofs.Good.{AreGood, IsBelow, IsMade, IsFit, below-weaker, none-good, good-append, made-after, key-below, made-each, made-fitted}

-- an operand of so many axes, whose keys are there
pub record IsOperand (bound axes : ℕ) (s : Source) : Type 0 where
  pub below : IsBelow bound s
  pub axes_are : length s.layout ≡ axes

operand-weaker : (b c axes : ℕ) (s : Source) → b ≤ c → IsOperand b axes s → IsOperand c axes s
operand-weaker b c axes s h o = record { below = below-weaker b c s h o.below; axes_are = o.axes_are }

pub record FitsAlong (bound : ℕ) (common : List (List ℕ)) (axis : ℕ) (s t : Source) : Type 0 where
  pub below : IsBelow bound t
  pub layout_is : t.layout ≡ set common axis (get_or s.layout axis [])

pub record AlongMade (base : ℕ) (common : List (List ℕ)) (axis : ℕ) (ss : List Source) (tasks : List Task) (ts : List Source) : Type 0 where
  pub good : AreGood base tasks
  pub each : (p : ℕ) → p < length ss → FitsAlong (base + length tasks) common axis (get_or ss p no_source) (get_or ts p no_source)

fits-weaker : (b c : ℕ) (common : List (List ℕ)) (axis : ℕ) (s t : Source) → b ≤ c → FitsAlong b common axis s t → FitsAlong c common axis s t
fits-weaker b c common axis s t h f = record { below = below-weaker b c t h f.below; layout_is = f.layout_is }

one-more : (base : ℕ) (common : List (List ℕ)) (axis : ℕ) (s : Source) (ss : List Source) (us vs : List Task) (t : Source) (ts : List Source) → AreGood base us → FitsAlong (base + length us) common axis s t → AlongMade (base + length us) common axis ss vs ts
    → AlongMade base common axis (s ∷ ss) (us ++ vs) (t ∷ ts)
one-more base common axis s ss us vs t ts g f m = record { good = good-append base us vs g m.good; each = λ p h. at p h }
  where
    at : (p : ℕ) → p < length (s ∷ ss) → FitsAlong (base + length (us ++ vs)) common axis (get_or (s ∷ ss) p no_source) (get_or (t ∷ ts) p no_source)
    at zero h = fits-weaker (base + length us) (base + length (us ++ vs)) common axis s t (omega (arith, length-append us vs)) f
    at (suc p) h = fits-weaker (base + length us + length vs) (base + length (us ++ vs)) common axis (get_or ss p no_source) (get_or ts p no_source) (omega (arith, length-append us vs)) (m.each p (omega arith))

pub along-made : (common : List (List ℕ)) (axis : ℕ) (ss : List Source) (base : ℕ) → AllByRecursion (IsOperand base (length common)) ss → AlongMade base common axis ss (fitted_along common axis ss base).tasks (fitted_along common axis ss base).sources
along-made common axis [] base h = record { good = none-good base; each = λ p l. absurd (omega arith) }
along-made common axis (s ∷ ss) base h =
    let to = set common axis (get_or s.layout axis []) in
    let m = fitted base s (set common axis (get_or s.layout axis [])) in
    let f : IsFit base (set common axis (get_or s.layout axis [])) (fitted base s (set common axis (get_or s.layout axis []))) = made-fitted s (set common axis (get_or s.layout axis [])) base (h.0.axes_are ∙ sym (length-set common axis (get_or s.layout axis []))) h.0.below in
    one-more base common axis s ss m.tasks (fitted_along common axis ss (base + length m.tasks)).tasks m.source (fitted_along common axis ss (base + length m.tasks)).sources f.made.good (record { below = f.made.below; layout_is = f.layout_is })
    (along-made common axis ss (base + length m.tasks) (all-weaker (IsOperand base (length common)) (IsOperand (base + length m.tasks) (length common)) ss (λ x o. operand-weaker base (base + length m.tasks) (length common) x (omega arith) o) h.1))

pub made-joined : (axis : ℕ) (s : Source) (ss : List Source) (base : ℕ) → AllByRecursion (IsOperand base (length s.layout)) (s ∷ ss) → axis < length s.layout → 0 < length (get_or s.layout axis []) → IsMade base (concatenated_blocks (s ∷ ss) axis base)
made-joined axis s ss base h there some =
    let common = common_layout (layouts_of (s ∷ ss)) in
    let lc : length common ≡ length s.layout = length-map-range_with_len (common_axis (layouts_of (s ∷ ss))) 0 (length s.layout) in
    let fit = fitted_along common axis (s ∷ ss) base in
    let a : AlongMade base common axis (s ∷ ss) (fitted_along common axis (s ∷ ss) base).tasks (fitted_along common axis (s ∷ ss) base).sources =
    along-made common axis (s ∷ ss) base (subst (λ n. AllByRecursion (IsOperand base n) (s ∷ ss)) (sym lc) h) in
    let zs = axis_sizes (s ∷ ss) axis in
    let as' = or_empty (along_all 0 zs) in
    let along = along-fits (get_or s.layout axis []) (axis_sizes ss axis) some in
    let layout = set common axis (sizes_along as') in
    made-after base fit.tasks (λ b. one_each b layout (joined_task layout as' axis fit.sources)) a.good (made-each (base + length fit.tasks) layout (joined_task layout as' axis fit.sources) (λ bs inside.
    let it = along_at as' (get_or bs axis 0) in
    let ax = starts-axis common axis (sizes_along as') bs (omega arith) inside in
    let few : get_or bs axis 0 < length as' = omega (arith, ax.1, length-map as' (λ (a : Along). a.size)) in
    let fits : AlongFits zs (0 + total (take (get_or bs axis 0) (sizes_along as'))) it = along-number zs 0 as' (get_or bs axis 0) along.0 few in
    let here : it.operand < length (s ∷ ss) = omega (arith, fits.there, length-map (s ∷ ss) (λ (s : Source). get_or s.layout axis [])) in
    let f : FitsAlong (base + length fit.tasks) common axis (get_or (s ∷ ss) it.operand no_source) (get_or fit.sources it.operand no_source) = a.each it.operand here in
    let src = get_or fit.sources it.operand no_source in
    let z-at : get_or zs it.operand [] ≡ get_or (get_or (s ∷ ss) it.operand no_source).layout axis [] = get_or-map (λ (s : Source). get_or s.layout axis []) (s ∷ ss) it.operand no_source [] here in
    let target-is : src.layout ≡ set common axis (get_or zs it.operand []) = f.layout_is ∙ ap (set common axis) (sym z-at) in
    let in' : IsIn (counts src.layout) (set bs axis it.chunk) =
    subst (λ (l : List (List ℕ)). IsIn (counts l) (set bs axis it.chunk)) (sym target-is) (counts-set common axis (get_or zs it.operand []) (sizes_along as') bs it.chunk (omega arith) inside fits.chunk) in
    record {
      below = (key-below (base + length fit.tasks) src (set bs axis it.chunk) f.below in', tt);
      rising = (tt, tt);
      places = (omega arith, tt);
    }))
