-- An operation that fits has no cause of refusal, operation by operation.
use Rattle.std.proofs.Common.{◌≡◌, ℕ, zero, suc, ◌<◌, ◌≤◌, ◌^◌, List, [], ◌∷◌, ◌++◌, length, map, take, get_or, Some, Any, All, Contains, ap, sym, subst, refl, ◌∙◌, arith, inl, inr, ◌⊎◌, ℤ, pos, ◌<ℤ◌, ◌≤ℤ◌, unwrap_or, slice_get, get_or-take, length-take, cond}
use Rattle.std.proofs.lemmas.Option.{none-some, slice_get-get_or, get_or_from_slice_get, slice_get_within}
use Rattle.std.proofs.lemmas.List.{get_or_default, length_push}
use Rattle.std.proofs.lemmas.Bool.{cases_lt}
use Rattle.std.proofs.lemmas.Int.{ints}
use Rattle.nd_shape.specs.declared.slice.Part.{Part}
use Rattle.nd_shape.specs.declared.slice.Part.TheVariants.{At, Range}
use Rattle.nd_shape.specs.declared.slice.Steps.{Steps}
use Rattle.nd_shape.specs.declared.chunk.ChunkSpec.{ChunkSpec}
use Rattle.nd_shape.specs.declared.chunk.ChunkSpec.TheVariants.{Even, List as Listed}
use Rattle.nd_shape.specs.declared.error.ShapeError.{ShapeError}
use Rattle.nd_shape.specs.declared.error.ShapeError.TheVariants.{Misfit, BadAxis, BadIndex, ZeroStep, EmptyReduce, TooManyParts, BadSplit, Elements as TooLarge, OutOfMemory as NoMemory}
use Rattle.nd_shape.specs.declared.error.ChunkError.{ChunkError}
use Rattle.nd_shape.specs.declared.error.ChunkError.TheVariants.{AxisCount, SumDiffers, ZeroChunk, OutOfMemory as NoChunkMemory}
use Rattle.nd_shape.specs.Shape.{IsShape, elements}
use Rattle.nd_shape.specs.Chunk.{CanCut, HasZeroChunk, RefusesChunks, total}
use Rattle.nd_shape.specs.Broadcast.{broadcast, Agree}
use Rattle.nd_shape.specs.Slice.{Resolves, RefusesPart, IsRange, IsIndex, from_end, first_index, end_index}
use Rattle.nd_grid.specs.declared.operation.Fold.{Fold}
use Rattle.nd_grid.specs.Grid.{sliced_shape, is_among, kept_shape}
use Rattle.array_expr.specs.declared.op.Op.{Op}
use Rattle.array_expr.specs.declared.op.Op.TheVariants.{Input, Full, Ramp, Negate, Elementwise, Where, Slice, Transpose, Rechunk, Concatenate, Reduce, Tensordot}
use Rattle.array_expr.specs.declared.expr.Node.{Node}
use Rattle.array_expr.specs.declared.error.Quantity.{Quantity}
use Rattle.array_expr.specs.declared.error.Quantity.TheVariants.{Nodes, Axes, Elements}
use Rattle.array_expr.specs.declared.error.NodeError.{NodeError}
use Rattle.array_expr.specs.declared.error.NodeError.TheVariants.{Shape, Chunks, Limit, OutOfMemory}
use Rattle.array_expr.specs.Axes.{AreAxes, AreCut, IsFirstBadAxis, RefusesCut}
use Rattle.array_expr.specs.Node.{shape_at, part_on, Takes, dropped, AreJoinable, joined, folded_axes, CanReduce, CanContract, Makes, IsExpression, Adds}
use Rattle.array_expr.specs.Refusal.{PassesLimit, RefusesLeaf, RefusesRechunk, RefusesNothing, IsMisfitOf, RefusesPairing, IsFirstBadPart, RefusesParts, RefusesSlice, RefusesOrder, RefusesTranspose, IsFirstOther, RefusesJoin, RefusesConcatenate, RefusesFold, RefusesReduce, RefusesContraction, RefusesTensordot, RefusesOp, Refuses}

-- ---- limits

pub not-passed : (quantity : Quantity) (dims : List ℕ) → IsShape dims → PassesLimit quantity dims → ⊥
not-passed Nodes dims s p = p
not-passed Axes dims s p = absurd (omega (arith, s.axes, p))
not-passed Elements dims s p = passed p.1
  where
    passed : Any (λ n. 2 ^ 31 < n) dims ⊎ (2 ^ 31 < elements dims) → ⊥
    passed (inl a) = absurd (let low : get_or dims a.0 a.1 ≤ 2 ^ 31 = s.lengths a.0 a.1 a.2 in omega (arith, low, a.3, a.4))
    passed (inr large) = absurd (omega (arith, s.product, large))

-- ---- chunks

pub zero-chunk : (len : ℕ) (spec : ChunkSpec) → CanCut len spec → HasZeroChunk len spec → ⊥
zero-chunk zero (Even size) c h = h
zero-chunk (suc n) (Even size) c h = c h
zero-chunk zero (Listed sizes) c h = h.0 c
zero-chunk (suc n) (Listed sizes) c h = c.0 h.0 0 h.1 h.2

pub wrong-sum : (axis len : ℕ) (spec : ChunkSpec) (a sum n : ℕ) → CanCut len spec → RefusesChunks axis len spec (SumDiffers a sum n) → ⊥
wrong-sum axis len (Even size) a sum n c r = r
wrong-sum axis zero (Listed sizes) a sum n c r = r.3 (ap total c)
wrong-sum axis (suc m) (Listed sizes) a sum n c r = r.3 c.1

cut-excluded : (dims : List ℕ) (chunks : List ChunkSpec) (e : ChunkError) → AreCut dims chunks → RefusesCut dims chunks e → ⊥
cut-excluded dims chunks (AxisCount given axes) c r = r.2 (r.0 ∙ c.axes ∙ sym r.1)
cut-excluded dims chunks (SumDiffers axis sum len) c r = wrong-sum axis (get_or dims axis 0) r.here axis sum len (c.each axis r.here r.is) r.refused
cut-excluded dims chunks (ZeroChunk axis) c r = zero-chunk (get_or dims axis 0) r.here (c.each axis r.here r.is) r.refused.1
cut-excluded dims chunks NoChunkMemory c r = r

leaf-excluded : (dims : List ℕ) (chunks : List ChunkSpec) (e : NodeError) → AreCut dims chunks → IsShape dims → RefusesLeaf dims chunks e → e ≡ OutOfMemory
leaf-excluded dims chunks (Shape x) c s r = absurd r
leaf-excluded dims chunks (Chunks x) c s r = absurd (cut-excluded dims chunks x c r.1)
leaf-excluded dims chunks (Limit quantity) c s r = absurd (not-passed quantity dims s r)
leaf-excluded dims chunks OutOfMemory c s r = refl

rechunk-excluded : (dims : List ℕ) (chunks : List ChunkSpec) (e : NodeError) → AreCut dims chunks → RefusesRechunk dims chunks e → e ≡ OutOfMemory
rechunk-excluded dims chunks (Shape x) c r = absurd r
rechunk-excluded dims chunks (Chunks x) c r = absurd (cut-excluded dims chunks x c r)
rechunk-excluded dims chunks (Limit quantity) c r = absurd r
rechunk-excluded dims chunks OutOfMemory c r = refl

nothing-excluded : (e : NodeError) → RefusesNothing e → e ≡ OutOfMemory
nothing-excluded (Shape x) r = absurd r
nothing-excluded (Chunks x) r = absurd r
nothing-excluded (Limit quantity) r = absurd r
nothing-excluded OutOfMemory r = refl

-- ---- element by element

pub misfit-excluded : (shapes : List (List ℕ)) (x : ShapeError) → Agree shapes → IsMisfitOf shapes x → ⊥
misfit-excluded shapes (Misfit axis left right) a m = none-some {A = ℕ × ℕ} (left, right) (sym (a.each axis m.inside) ∙ m.here)
misfit-excluded shapes (BadAxis axis) a m = m
misfit-excluded shapes (BadIndex index len) a m = m
misfit-excluded shapes ZeroStep a m = m
misfit-excluded shapes (EmptyReduce axis) a m = m
misfit-excluded shapes (TooManyParts parts axes) a m = m
misfit-excluded shapes (BadSplit split) a m = m
misfit-excluded shapes TooLarge a m = m
misfit-excluded shapes NoMemory a m = m

pairing-excluded : (shapes : List (List ℕ)) (e : NodeError) → Agree shapes → IsShape (broadcast shapes) → RefusesPairing shapes e → e ≡ OutOfMemory
pairing-excluded shapes (Shape x) a s r = absurd (misfit-excluded shapes x a r)
pairing-excluded shapes (Chunks x) a s r = absurd r
pairing-excluded shapes (Limit Nodes) a s r = absurd r
pairing-excluded shapes (Limit Axes) a s r = absurd r
pairing-excluded shapes (Limit Elements) a s r = absurd (omega (arith, s.product, r.1))
pairing-excluded shapes OutOfMemory a s r = refl

-- ---- slices

below-zero : (k : ℕ) → pos k <ℤ pos 0 → ⊥
below-zero k h = absurd (omega (arith, ints, h))

past-end : (k n : ℕ) → k < n → pos n ≤ℤ pos k → ⊥
past-end k n h p = absurd (omega (arith, ints, h, p))

index-excluded : (n : ℕ) (i : ℤ) (steps : Steps) → IsIndex n i steps → (from_end n i <ℤ pos 0) ⊎ (pos n ≤ℤ from_end n i) → ⊥
index-excluded n i steps t (inl low) = below-zero steps.start (subst (λ z. z <ℤ pos 0) (sym t.start_is) low)
index-excluded n i steps t (inr high) = past-end steps.start n t.inside (subst (λ z. pos n ≤ℤ z) (sym t.start_is) high)

pub part-excluded : (n : ℕ) (part : Part) (steps : Steps) (x : ShapeError) → Resolves n part steps → RefusesPart n part x → ⊥
part-excluded n (At i) steps (BadIndex index len) t r = index-excluded n i steps t r.2
part-excluded n (Range start stop step) steps ZeroStep t r = t.0 (ap (λ o. unwrap_or o (pos 1)) r)
part-excluded n part steps x t r = r

pub first-place : Steps
first-place = record { start = 0; step = pos 1; count = 0 }

bad-part : (dims : List ℕ) (parts : List Part) (taken : List Steps) (x : ShapeError) → Takes dims parts taken → IsFirstBadPart dims parts x → ⊥
bad-part dims parts taken x t b =
    let k : ℕ = length b.taken in
    let inside : k < length taken = omega (arith, b.inside, b.enough, t.axes) in
    part-excluded (get_or dims k 0) (part_on parts k) (get_or taken k first-place) x (t.first.each k (get_or taken k first-place) (slice_get-get_or taken k first-place inside)) b.here

pub parts-excluded : (dims : List ℕ) (parts : List Part) (taken : List Steps) (x : ShapeError) → Takes dims parts taken → RefusesParts dims parts x → ⊥
parts-excluded dims parts taken (TooManyParts given axes) t r = absurd (omega (arith, t.parts_fit, r.0, r.1, r.2))
parts-excluded dims parts taken (Misfit axis left right) t r = bad-part dims parts taken (Misfit axis left right) t r
parts-excluded dims parts taken (BadAxis axis) t r = bad-part dims parts taken (BadAxis axis) t r
parts-excluded dims parts taken (BadIndex index len) t r = bad-part dims parts taken (BadIndex index len) t r
parts-excluded dims parts taken ZeroStep t r = bad-part dims parts taken ZeroStep t r
parts-excluded dims parts taken (EmptyReduce axis) t r = bad-part dims parts taken (EmptyReduce axis) t r
parts-excluded dims parts taken (BadSplit split) t r = bad-part dims parts taken (BadSplit split) t r
parts-excluded dims parts taken TooLarge t r = bad-part dims parts taken TooLarge t r
parts-excluded dims parts taken NoMemory t r = bad-part dims parts taken NoMemory t r

-- what a part takes is as much, however it is written
pub range-count : (first end step : ℤ) (s t : Steps) → IsRange first end step s → IsRange first end step t → s.count ≡ t.count
range-count first end step s t a b = by_order (cases_lt s.count t.count) (cases_lt t.count s.count)
  where
    by_order : (s.count < t.count) ⊎ (t.count ≤ s.count) → (t.count < s.count) ⊎ (s.count ≤ t.count) → s.count ≡ t.count
    by_order (inl less) o = absurd (a.ended (b.taken s.count less))
    by_order (inr m) (inl less) = absurd (b.ended (a.taken t.count less))
    by_order (inr m) (inr l) = omega (arith, m, l)

part-count : (n : ℕ) (part : Part) (s t : Steps) → Resolves n part s → Resolves n part t → s.count ≡ t.count
part-count n (At i) s t a b = a.count_is ∙ sym b.count_is
part-count n (Range start stop step) s t a b =
    let k : ℤ = unwrap_or step (pos 1) in range-count (first_index n k start) (end_index n k stop) k s t a.1 b.1

sliced-same : (k : ℕ) (ss ts : List Steps) (gone : List ℕ) → length ss ≡ length ts → ((j : ℕ) (s t : Steps) → slice_get ss j ≡ Some s → slice_get ts j ≡ Some t → s.count ≡ t.count) → sliced_shape k ss gone ≡ sliced_shape k ts gone
sliced-same k [] [] gone l f = refl
sliced-same k [] (t ∷ ts) gone l f = absurd (omega (arith, l))
sliced-same k (s ∷ ss) [] gone l f = absurd (omega (arith, l))
sliced-same k (s ∷ ss) (t ∷ ts) gone l f =
    let here : s.count ≡ t.count = f 0 s t refl refl in
    let rest : sliced_shape (suc k) ss gone ≡ sliced_shape (suc k) ts gone = sliced-same (suc k) ss ts gone (omega (arith, l)) (λ j a b. f (suc j) a b) in
    ap (λ n. cond (is_among k gone) (sliced_shape (suc k) ss gone) (n ∷ sliced_shape (suc k) ss gone)) here
    ∙ ap (λ ns. cond (is_among k gone) ns (t.count ∷ ns)) rest

pub takes-same : (dims : List ℕ) (parts : List Part) (ss ts : List Steps) → Takes dims parts ss → Takes dims parts ts → sliced_shape 0 ss (dropped parts) ≡ sliced_shape 0 ts (dropped parts)
takes-same dims parts ss ts a b = sliced-same 0 ss ts (dropped parts) (a.axes ∙ sym b.axes) (λ j s t u v. part-count (get_or dims j 0) (part_on parts j) s t (a.first.each j s u) (b.first.each j t v))

slice-excluded : (dims : List ℕ) (parts : List Part) (taken : List Steps) (e : NodeError) → Takes dims parts taken → IsShape (sliced_shape 0 taken (dropped parts)) → RefusesSlice dims parts e → e ≡ OutOfMemory
slice-excluded dims parts taken (Shape x) t s r = absurd (parts-excluded dims parts taken x t r)
slice-excluded dims parts taken (Chunks x) t s r = absurd r
slice-excluded dims parts taken (Limit quantity) t s r =
    absurd (not-passed quantity (sliced_shape 0 taken (dropped parts)) s (subst (PassesLimit quantity) (takes-same dims parts r.taken taken r.takes t) r.passed))
slice-excluded dims parts taken OutOfMemory t s r = refl

-- ---- lists of axes

pub axis-excluded : (n : ℕ) (axes : List ℕ) (axis : ℕ) → AreAxes n axes → IsFirstBadAxis n axes axis → ⊥
axis-excluded n axes axis a b = at_fault b.here
  where
    at_fault : (n ≤ axis) ⊎ Contains (take b.at axes) axis → ⊥
    at_fault (inl out) = absurd (omega (arith, a.inside b.at b.inside, b.axis_is, out))
    at_fault (inr c) =
        let few : length (take b.at axes) ≤ b.at = omega (arith, length-take b.at axes) in
        let early : c.0 < b.at = omega (arith, c.1, few) in
        let same : get_or axes c.0 axis ≡ axis = sym (get_or-take b.at axes c.0 axis early) ∙ c.2 in
        a.distinct c.0 b.at early b.inside (get_or_default axes c.0 0 axis (omega (arith, early, b.inside)) ∙ same ∙ sym b.axis_is)

pub order-excluded : (dims axes : List ℕ) (x : ShapeError) → AreAxes (length dims) axes → length axes ≡ length dims → RefusesOrder dims axes x → ⊥
order-excluded dims axes (BadAxis axis) a l (inl b) = axis-excluded (length dims) axes axis a b
order-excluded dims axes (BadAxis axis) a l (inr d) = d.1 l
order-excluded dims axes (Misfit axis left right) a l r = r
order-excluded dims axes (BadIndex index len) a l r = r
order-excluded dims axes ZeroStep a l r = r
order-excluded dims axes (EmptyReduce axis) a l r = r
order-excluded dims axes (TooManyParts parts n) a l r = r
order-excluded dims axes (BadSplit split) a l r = r
order-excluded dims axes TooLarge a l r = r
order-excluded dims axes NoMemory a l r = r

transpose-excluded : (dims axes : List ℕ) (e : NodeError) → AreAxes (length dims) axes → length axes ≡ length dims → IsShape (map (λ a. get_or dims a 0) axes) → RefusesTranspose dims axes e → e ≡ OutOfMemory
transpose-excluded dims axes (Shape x) a l s r = absurd (order-excluded dims axes x a l r)
transpose-excluded dims axes (Chunks x) a l s r = absurd r
transpose-excluded dims axes (Limit quantity) a l s r = absurd (not-passed quantity (map (λ k. get_or dims k 0) axes) s r.2)
transpose-excluded dims axes OutOfMemory a l s r = refl

-- ---- concatenations

pub other-excluded : (see : List ℕ → ℕ) (shapes : List (List ℕ)) (left right : ℕ) → All (λ dims. see dims ≡ left) shapes → IsFirstOther see shapes left right → ⊥
other-excluded see shapes left right all o =
    let here : see (get_or shapes o.at []) ≡ left = all o.at [] (slice_get_within shapes o.at o.other o.is) in
    o.differs (o.right_is ∙ ap see (sym (get_or_from_slice_get shapes o.at o.other [] o.is)) ∙ here)

pub join-excluded : (shapes : List (List ℕ)) (axis : ℕ) (x : ShapeError) → AreJoinable shapes axis → RefusesJoin shapes axis x → ⊥
join-excluded shapes axis (Misfit bad left right) j (inl p) =
    other-excluded (λ dims. length dims) shapes left right (subst (λ n. All (λ dims. length dims ≡ n) shapes) (sym p.1.left_is) j.axes) p.1.first
join-excluded shapes axis (Misfit bad left right) j (inr o) =
    other-excluded (λ dims. get_or dims bad 0) shapes left right (subst (λ n. All (λ dims. get_or dims bad 0 ≡ n) shapes) (sym o.left_is) (j.others bad o.other_axis)) o.first
join-excluded shapes axis (BadAxis bad) j r = absurd (omega (arith, j.there, r.1.outside))
join-excluded shapes axis (BadIndex index len) j r = r
join-excluded shapes axis ZeroStep j r = r
join-excluded shapes axis (EmptyReduce k) j r = r
join-excluded shapes axis (TooManyParts parts n) j r = r
join-excluded shapes axis (BadSplit split) j r = r
join-excluded shapes axis TooLarge j r = r
join-excluded shapes axis NoMemory j r = r

concatenate-excluded : (shapes : List (List ℕ)) (axis : ℕ) (e : NodeError) → AreJoinable shapes axis → IsShape (joined shapes axis) → RefusesConcatenate shapes axis e → e ≡ OutOfMemory
concatenate-excluded shapes axis (Shape x) j s r = absurd (join-excluded shapes axis x j r)
concatenate-excluded shapes axis (Chunks x) j s r = absurd r
concatenate-excluded shapes axis (Limit quantity) j s r = absurd (not-passed quantity (joined shapes axis) s r.1)
concatenate-excluded shapes axis OutOfMemory j s r = refl

-- ---- reductions

pub fold-excluded : (fold : Fold) (dims axes : List ℕ) (split : ℕ) (x : ShapeError) → CanReduce fold dims axes split → RefusesFold fold dims axes split x → ⊥
fold-excluded fold dims axes split (BadAxis axis) c r = axis-excluded (length dims) axes axis c.axes_fit r
fold-excluded fold dims axes split (EmptyReduce axis) c r =
    let there : Contains axes axis = r.least.folded in
    let same : get_or axes there.0 0 ≡ axis = get_or_default axes there.0 0 axis there.1 ∙ there.2 in
    c.filled r.needs there.0 0 there.1 (ap (λ a. get_or dims a 0) same ∙ r.least.empty)
fold-excluded fold dims axes split (BadSplit given) c r = absurd (omega (arith, c.split_fits, r.1.small))
fold-excluded fold dims axes split (Misfit axis left right) c r = r
fold-excluded fold dims axes split (BadIndex index len) c r = r
fold-excluded fold dims axes split ZeroStep c r = r
fold-excluded fold dims axes split (TooManyParts parts n) c r = r
fold-excluded fold dims axes split TooLarge c r = r
fold-excluded fold dims axes split NoMemory c r = r

reduce-excluded : (fold : Fold) (dims axes : List ℕ) (split : ℕ) (e : NodeError) → CanReduce fold dims axes split → IsShape (kept_shape 0 dims axes) → RefusesReduce fold dims axes split e → e ≡ OutOfMemory
reduce-excluded fold dims axes split (Shape x) c s r = absurd (fold-excluded fold dims axes split x c r)
reduce-excluded fold dims axes split (Chunks x) c s r = absurd r
reduce-excluded fold dims axes split (Limit quantity) c s r = absurd (not-passed quantity (kept_shape 0 dims axes) s r.1)
reduce-excluded fold dims axes split OutOfMemory c s r = refl

-- ---- products

pub contraction-excluded : (left right left_axes right_axes : List ℕ) (x : ShapeError) → CanContract left right left_axes right_axes → RefusesContraction left right left_axes right_axes x → ⊥
contraction-excluded left right left_axes right_axes (BadAxis axis) c (inl b) = axis-excluded (length left) left_axes axis c.left_fit b
contraction-excluded left right left_axes right_axes (BadAxis axis) c (inr (inl b)) = axis-excluded (length right) right_axes axis c.right_fit b.right_bad
contraction-excluded left right left_axes right_axes (BadAxis axis) c (inr (inr o)) = o.differs c.number
contraction-excluded left right left_axes right_axes (Misfit place here there) c u = u.differs (u.here_is ∙ c.pairs place u.inside ∙ sym u.there_is)
contraction-excluded left right left_axes right_axes (BadIndex index len) c r = r
contraction-excluded left right left_axes right_axes ZeroStep c r = r
contraction-excluded left right left_axes right_axes (EmptyReduce axis) c r = r
contraction-excluded left right left_axes right_axes (TooManyParts parts axes) c r = r
contraction-excluded left right left_axes right_axes (BadSplit split) c r = r
contraction-excluded left right left_axes right_axes TooLarge c r = r
contraction-excluded left right left_axes right_axes NoMemory c r = r

tensordot-excluded : (left right left_axes right_axes : List ℕ) (e : NodeError) → CanContract left right left_axes right_axes → IsShape (kept_shape 0 left left_axes ++ kept_shape 0 right right_axes) → RefusesTensordot left right left_axes right_axes e → e ≡ OutOfMemory
tensordot-excluded left right left_axes right_axes (Shape x) c s r = absurd (contraction-excluded left right left_axes right_axes x c r)
tensordot-excluded left right left_axes right_axes (Chunks x) c s r = absurd r
tensordot-excluded left right left_axes right_axes (Limit quantity) c s r = absurd (not-passed quantity (kept_shape 0 left left_axes ++ kept_shape 0 right right_axes) s r.1)
tensordot-excluded left right left_axes right_axes OutOfMemory c s r = refl

-- ---- nodes

op-excluded : (nodes : List Node) (op : Op) (taken : List Steps) (shape : List ℕ) (e : NodeError) → Makes nodes op taken shape → IsShape shape → RefusesOp nodes op e → e ≡ OutOfMemory
op-excluded nodes (Input dims chunks) taken shape e m s r = leaf-excluded dims chunks e m.0 (subst IsShape m.1 s) r
op-excluded nodes (Full dims value chunks) taken shape e m s r = leaf-excluded dims chunks e m.0 (subst IsShape m.1 s) r
op-excluded nodes (Ramp dims start step chunks) taken shape e m s r = leaf-excluded dims chunks e m.0 (subst IsShape m.1 s) r
op-excluded nodes (Negate of) taken shape e m s r = nothing-excluded e r
op-excluded nodes (Elementwise op left right) taken shape e m s r = pairing-excluded (shape_at nodes left ∷ shape_at nodes right ∷ []) e m.0 (subst IsShape m.1 s) r
op-excluded nodes (Where condition first second) taken shape e m s r = pairing-excluded (shape_at nodes condition ∷ shape_at nodes first ∷ shape_at nodes second ∷ []) e m.0 (subst IsShape m.1 s) r
op-excluded nodes (Slice of parts) taken shape e m s r = slice-excluded (shape_at nodes of) parts taken e m.0 (subst IsShape m.1 s) r
op-excluded nodes (Transpose of axes) taken shape e m s r = transpose-excluded (shape_at nodes of) axes e m.0 m.1 (subst IsShape m.2 s) r
op-excluded nodes (Rechunk of chunks) taken shape e m s r = rechunk-excluded (shape_at nodes of) chunks e m.0 r
op-excluded nodes (Concatenate of axis) taken shape e m s r = concatenate-excluded (map (shape_at nodes) of) axis e m.0 (subst IsShape m.1 s) r
op-excluded nodes (Reduce fold of axes split) taken shape e m s r = reduce-excluded fold (shape_at nodes of) (folded_axes axes (length (shape_at nodes of))) split e m.0 (subst IsShape m.1 s) r
op-excluded nodes (Tensordot left right left_axes right_axes) taken shape e m s r = tensordot-excluded (shape_at nodes left) (shape_at nodes right) left_axes right_axes e m.0 (subst IsShape m.1 s) r

added : (nodes more : List Node) (op : Op) (e : NodeError) → Adds nodes op more → RefusesOp nodes op e → e ≡ OutOfMemory
added nodes more op e a r = op-excluded nodes op a.node.taken a.node.shape e (subst (λ o. Makes nodes o a.node.taken a.node.shape) a.op_is a.fits.makes) a.fits.limits r

pub fitting-excludes : (nodes more : List Node) (op : Op) (e : NodeError) → IsExpression more → Adds nodes op more → Refuses nodes op e → e ≡ OutOfMemory
fitting-excludes nodes more op (Shape x) sound a r = added nodes more op (Shape x) a r.cause
fitting-excludes nodes more op (Chunks x) sound a r = added nodes more op (Chunks x) a r.cause
fitting-excludes nodes more op (Limit Nodes) sound a r = absurd (omega (arith, sound.count, ap length a.more_is, length_push nodes a.node, r))
fitting-excludes nodes more op (Limit Axes) sound a r = added nodes more op (Limit Axes) a r.cause
fitting-excludes nodes more op (Limit Elements) sound a r = added nodes more op (Limit Elements) a r.cause
fitting-excludes nodes more op OutOfMemory sound a r = refl
