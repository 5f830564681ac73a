-- Two refusals of one operation are the same, operation by operation.
use Rattle.std.proofs.Common.{◌≡◌, ◌≢◌, ℕ, zero, suc, ◌<◌, ◌≤◌, ◌^◌, List, [], ◌∷◌, ◌++◌, length, map, take, get_or, Some, All, Contains, ap, sym, subst, refl, ◌∙◌, arith, inl, inr, ◌⊎◌, slice_get, get_or-take, length-take, ℤ, Option}
use Rattle.std.proofs.lemmas.Option.{none-some, same_Some, slice_get-get_or, get_or_from_slice_get, slice_get_within}
use Rattle.std.proofs.lemmas.List.{get_or_default, take-take}
use Rattle.std.proofs.lemmas.Bool.{cases_order}
use Rattle.nd_shape.specs.declared.slice.Part.{Part}
use Rattle.nd_shape.specs.declared.slice.Part.TheVariants.{At, Range}
use Rattle.nd_shape.specs.declared.slice.Steps.{Steps}
use Rattle.nd_shape.specs.declared.chunk.ChunkSpec.{ChunkSpec}
use Rattle.nd_shape.specs.declared.chunk.ChunkSpec.TheVariants.{Even, List as Listed}
use Rattle.nd_shape.specs.declared.error.ShapeError.{ShapeError}
use Rattle.nd_shape.specs.declared.error.ShapeError.TheVariants.{Misfit, BadAxis, BadIndex, ZeroStep, EmptyReduce, TooManyParts, BadSplit}
use Rattle.nd_shape.specs.declared.error.ChunkError.{ChunkError}
use Rattle.nd_shape.specs.declared.error.ChunkError.TheVariants.{AxisCount, SumDiffers, ZeroChunk, OutOfMemory as NoChunkMemory}
use Rattle.nd_shape.specs.Shape.{IsShape, elements}
use Rattle.nd_shape.specs.Chunk.{CanCut, HasZeroChunk, RefusesChunks, total}
use Rattle.nd_shape.specs.Broadcast.{broadcast, Agree, IsMisfit, lengths_on, first_misfit}
use Rattle.nd_shape.specs.Slice.{RefusesPart}
use Rattle.nd_grid.specs.declared.operation.Fold.{Fold}
use Rattle.nd_grid.specs.Grid.{sliced_shape, kept_shape}
use Rattle.array_expr.specs.declared.op.Op.{Op}
use Rattle.array_expr.specs.declared.op.Op.TheVariants.{Input, Full, Ramp, Negate, Elementwise, Where, Slice, Transpose, Rechunk, Concatenate, Reduce, Tensordot}
use Rattle.array_expr.specs.declared.expr.Node.{Node}
use Rattle.array_expr.specs.declared.error.Quantity.{Quantity}
use Rattle.array_expr.specs.declared.error.Quantity.TheVariants.{Nodes, Axes, Elements}
use Rattle.array_expr.specs.declared.error.NodeError.{NodeError}
use Rattle.array_expr.specs.declared.error.NodeError.TheVariants.{Shape, Chunks, Limit, OutOfMemory}
use Rattle.array_expr.specs.Axes.{AreAxes, IsFirstBadAxis, IsFirstUncut, IsLeastIn, RefusesCut}
use Rattle.array_expr.specs.Node.{shape_at, part_on, dropped, first_shape, AreJoinable, joined, folded_axes, CanReduce, CanContract}
use Rattle.array_expr.specs.Refusal.{PassesLimit, RefusesLeaf, RefusesRechunk, RefusesNothing, IsMisfitOf, RefusesPairing, IsFirstBadPart, RefusesParts, PassesSliced, RefusesSlice, RefusesOrder, RefusesTranspose, IsFirstOther, IsOtherNumber, IsOtherLength, RefusesJoin, RefusesConcatenate, IsLeastEmpty, IsBadSplit, RefusesFold, RefusesReduce, IsOtherCount, IsUnequalPair, IsBadRight, RefusesContraction, RefusesTensordot, RefusesOp, IsRefused, Refuses}
use Rattle.expr_laws.proofs.Excluded.{not-passed, zero-chunk, wrong-sum, misfit-excluded, part-excluded, first-place, parts-excluded, takes-same, axis-excluded, order-excluded, other-excluded, join-excluded, fold-excluded, contraction-excluded}

-- ---- the kinds of refusals

-- a refusal has a cause of its own kind
abbrev Caused : (ShapeError → Type 0) → (ChunkError → Type 0) → (Quantity → Type 0) → NodeError → Type 0
Caused S C L (Shape x) = S x
Caused S C L (Chunks x) = C x
Caused S C L (Limit q) = L q
Caused S C L OutOfMemory = Unit {0}

-- one cause of each kind, and no two kinds at once
record AreOne (S : ShapeError → Type 0) (C : ChunkError → Type 0) (L : Quantity → Type 0) : Type 0 where
  shapes : (x y : ShapeError) → S x → S y → x ≡ y
  cuts : (x y : ChunkError) → C x → C y → x ≡ y
  limits : (q r : Quantity) → L q → L r → q ≡ r
  shape_or_cut : (x : ShapeError) (y : ChunkError) → S x → C y → ⊥
  shape_or_limit : (x : ShapeError) (q : Quantity) → S x → L q → ⊥
  cut_or_limit : (x : ChunkError) (q : Quantity) → C x → L q → ⊥

caused-one : (S : ShapeError → Type 0) (C : ChunkError → Type 0) (L : Quantity → Type 0) → AreOne S C L → (e f : NodeError) → Caused S C L e → Caused S C L f → e ≢ OutOfMemory → f ≢ OutOfMemory → e ≡ f
caused-one S C L a (Shape x) (Shape y) p q m n = ap Shape (a.shapes x y p q)
caused-one S C L a (Shape x) (Chunks y) p q m n = absurd (a.shape_or_cut x y p q)
caused-one S C L a (Shape x) (Limit r) p q m n = absurd (a.shape_or_limit x r p q)
caused-one S C L a (Shape x) OutOfMemory p q m n = absurd (n refl)
caused-one S C L a (Chunks x) (Shape y) p q m n = absurd (a.shape_or_cut y x q p)
caused-one S C L a (Chunks x) (Chunks y) p q m n = ap Chunks (a.cuts x y p q)
caused-one S C L a (Chunks x) (Limit r) p q m n = absurd (a.cut_or_limit x r p q)
caused-one S C L a (Chunks x) OutOfMemory p q m n = absurd (n refl)
caused-one S C L a (Limit r) (Shape y) p q m n = absurd (a.shape_or_limit y r q p)
caused-one S C L a (Limit r) (Chunks y) p q m n = absurd (a.cut_or_limit y r q p)
caused-one S C L a (Limit r) (Limit s) p q m n = ap Limit (a.limits r s p q)
caused-one S C L a (Limit r) OutOfMemory p q m n = absurd (n refl)
caused-one S C L a OutOfMemory f p q m n = absurd (m refl)

-- ---- limits

limit-one : (dims : List ℕ) (q r : Quantity) → PassesLimit q dims → PassesLimit r dims → q ≡ r
limit-one dims Nodes r p s = absurd p
limit-one dims Axes Nodes p s = absurd s
limit-one dims Axes Axes p s = refl
limit-one dims Axes Elements p s = absurd (omega (arith, p, s.0))
limit-one dims Elements Nodes p s = absurd s
limit-one dims Elements Axes p s = absurd (omega (arith, s, p.0))
limit-one dims Elements Elements p s = refl

-- ---- chunks

sum-same : (a b s t m n : ℕ) → a ≡ b → s ≡ t → m ≡ n → SumDiffers a s m ≡ SumDiffers b t n
sum-same a b s t m n d e f = cc

sums-one : (axis len : ℕ) (spec : ChunkSpec) (a b s t m n : ℕ) → RefusesChunks axis len spec (SumDiffers a s m) → RefusesChunks axis len spec (SumDiffers b t n) → SumDiffers a s m ≡ SumDiffers b t n
sums-one axis len (Even size) a b s t m n p q = absurd p
sums-one axis len (Listed sizes) a b s t m n p q = sum-same a b s t m n (p.0 ∙ sym q.0) (p.1 ∙ sym q.1) (p.2 ∙ sym q.2)

zero-or-sum : (axis len : ℕ) (spec : ChunkSpec) (a s n : ℕ) → HasZeroChunk len spec → RefusesChunks axis len spec (SumDiffers a s n) → ⊥
zero-or-sum axis len (Even size) a s n z r = r
zero-or-sum axis zero (Listed sizes) a s n z r = elim z.1 [
  | inl none ↦ r.3 (ap total none)
  | inr c ↦ r.4 c.0 0 c.1 c.2
]
zero-or-sum axis (suc k) (Listed sizes) a s n z r = r.4 z.0 0 z.1 z.2

chunks-one : (axis len : ℕ) (spec : ChunkSpec) (d e : ChunkError) → d ≢ NoChunkMemory → e ≢ NoChunkMemory → RefusesChunks axis len spec d → RefusesChunks axis len spec e → d ≡ e
chunks-one axis len spec (AxisCount g k) e m n p q = absurd p
chunks-one axis len spec (SumDiffers a s k) (AxisCount g l) m n p q = absurd q
chunks-one axis len spec (SumDiffers a s k) (SumDiffers b t l) m n p q = sums-one axis len spec a b s t k l p q
chunks-one axis len spec (SumDiffers a s k) (ZeroChunk b) m n p q = absurd (zero-or-sum axis len spec a s k q.1 p)
chunks-one axis len spec (SumDiffers a s k) NoChunkMemory m n p q = absurd (n refl)
chunks-one axis len spec (ZeroChunk a) (AxisCount g l) m n p q = absurd q
chunks-one axis len spec (ZeroChunk a) (SumDiffers b t l) m n p q = absurd (zero-or-sum axis len spec b t l p.1 q)
chunks-one axis len spec (ZeroChunk a) (ZeroChunk b) m n p q = ap ZeroChunk (p.0 ∙ sym q.0)
chunks-one axis len spec (ZeroChunk a) NoChunkMemory m n p q = absurd (n refl)
chunks-one axis len spec NoChunkMemory e m n p q = absurd (m refl)

can-cut-excluded : (axis len : ℕ) (spec : ChunkSpec) (e : ChunkError) → e ≢ NoChunkMemory → CanCut len spec → RefusesChunks axis len spec e → ⊥
can-cut-excluded axis len spec (AxisCount g k) m c r = r
can-cut-excluded axis len spec (SumDiffers a s k) m c r = wrong-sum axis len spec a s k c r
can-cut-excluded axis len spec (ZeroChunk a) m c r = zero-chunk len spec c r.1
can-cut-excluded axis len spec NoChunkMemory m c r = m refl

-- no axis before the first one is refused
uncut-axis : (dims : List ℕ) (chunks : List ChunkSpec) (a b : ℕ) (d e : ChunkError) → d ≢ NoChunkMemory → e ≢ NoChunkMemory → IsFirstUncut dims chunks a d → IsFirstUncut dims chunks b e → a ≡ b
uncut-axis dims chunks a b d e m n p q = elim (cases_order a b) [
  | inl s ↦ s
  | inr o ↦ elim o [
    | inl l ↦ absurd (can-cut-excluded a (get_or dims a 0) p.here d m (q.before a p.here l p.is) p.refused)
    | inr l ↦ absurd (can-cut-excluded b (get_or dims b 0) q.here e n (p.before b q.here l q.is) q.refused)
  ]
]

uncut-one : (dims : List ℕ) (chunks : List ChunkSpec) (a b : ℕ) (d e : ChunkError) → d ≢ NoChunkMemory → e ≢ NoChunkMemory → IsFirstUncut dims chunks a d → IsFirstUncut dims chunks b e → d ≡ e
uncut-one dims chunks a b d e m n p q =
    let axis : a ≡ b = uncut-axis dims chunks a b d e m n p q in
    let spec : p.here ≡ q.here = same_Some p.here q.here (sym p.is ∙ (ap (slice_get chunks) axis ∙ q.is)) in
    let here : RefusesChunks a (get_or dims a 0) q.here d = subst (λ s. RefusesChunks a (get_or dims a 0) s d) spec p.refused in
    chunks-one b (get_or dims b 0) q.here d e m n (subst (λ k. RefusesChunks k (get_or dims k 0) q.here d) axis here) q.refused

sum-no-memory : (a s n : ℕ) → SumDiffers a s n ≢ NoChunkMemory
sum-no-memory a s n e = cc

zero-no-memory : (a : ℕ) → ZeroChunk a ≢ NoChunkMemory
zero-no-memory a e = cc

count-same : (a b m n : ℕ) → a ≡ b → m ≡ n → AxisCount a m ≡ AxisCount b n
count-same a b m n d e = cc

cut-one : (dims : List ℕ) (chunks : List ChunkSpec) (d e : ChunkError) → RefusesCut dims chunks d → RefusesCut dims chunks e → d ≡ e
cut-one dims chunks (AxisCount g n) (AxisCount h k) p q = count-same g h n k (p.0 ∙ sym q.0) (p.1 ∙ sym q.1)
cut-one dims chunks (AxisCount g n) (SumDiffers a s k) p q = absurd (p.2 (p.0 ∙ q.axes ∙ sym p.1))
cut-one dims chunks (AxisCount g n) (ZeroChunk a) p q = absurd (p.2 (p.0 ∙ q.axes ∙ sym p.1))
cut-one dims chunks (AxisCount g n) NoChunkMemory p q = absurd q
cut-one dims chunks (SumDiffers a s k) (AxisCount g n) p q = absurd (q.2 (q.0 ∙ p.axes ∙ sym q.1))
cut-one dims chunks (SumDiffers a s k) (SumDiffers b t l) p q = uncut-one dims chunks a b (SumDiffers a s k) (SumDiffers b t l) (sum-no-memory a s k) (sum-no-memory b t l) p q
cut-one dims chunks (SumDiffers a s k) (ZeroChunk b) p q = uncut-one dims chunks a b (SumDiffers a s k) (ZeroChunk b) (sum-no-memory a s k) (zero-no-memory b) p q
cut-one dims chunks (SumDiffers a s k) NoChunkMemory p q = absurd q
cut-one dims chunks (ZeroChunk a) (AxisCount g n) p q = absurd (q.2 (q.0 ∙ p.axes ∙ sym q.1))
cut-one dims chunks (ZeroChunk a) (SumDiffers b t l) p q = uncut-one dims chunks a b (ZeroChunk a) (SumDiffers b t l) (zero-no-memory a) (sum-no-memory b t l) p q
cut-one dims chunks (ZeroChunk a) (ZeroChunk b) p q = uncut-one dims chunks a b (ZeroChunk a) (ZeroChunk b) (zero-no-memory a) (zero-no-memory b) p q
cut-one dims chunks (ZeroChunk a) NoChunkMemory p q = absurd q
cut-one dims chunks NoChunkMemory e p q = absurd p

leaf-one : (dims : List ℕ) (chunks : List ChunkSpec) → AreOne (λ x. ⊥) (λ x. IsShape dims × RefusesCut dims chunks x) (λ q. PassesLimit q dims)
leaf-one dims chunks = record {
  shapes = λ x y p q. absurd p;
  cuts = λ x y p q. cut-one dims chunks x y p.1 q.1;
  limits = limit-one dims;
  shape_or_cut = λ x y p q. p;
  shape_or_limit = λ x q p l. p;
  cut_or_limit = λ x q p l. not-passed q dims p.0 l;
}

leaf-caused : (dims : List ℕ) (chunks : List ChunkSpec) (e : NodeError) → RefusesLeaf dims chunks e → Caused (λ x. ⊥) (λ x. IsShape dims × RefusesCut dims chunks x) (λ q. PassesLimit q dims) e
leaf-caused dims chunks (Shape x) r = r
leaf-caused dims chunks (Chunks x) r = r
leaf-caused dims chunks (Limit q) r = r
leaf-caused dims chunks OutOfMemory r = r

rechunk-one : (dims : List ℕ) (chunks : List ChunkSpec) → AreOne (λ x. ⊥) (RefusesCut dims chunks) (λ q. ⊥)
rechunk-one dims chunks = record {
  shapes = λ x y p q. absurd p;
  cuts = cut-one dims chunks;
  limits = λ q r p s. absurd p;
  shape_or_cut = λ x y p q. p;
  shape_or_limit = λ x q p l. p;
  cut_or_limit = λ x q p l. l;
}

rechunk-caused : (dims : List ℕ) (chunks : List ChunkSpec) (e : NodeError) → RefusesRechunk dims chunks e → Caused (λ x. ⊥) (RefusesCut dims chunks) (λ q. ⊥) e
rechunk-caused dims chunks (Shape x) r = r
rechunk-caused dims chunks (Chunks x) r = r
rechunk-caused dims chunks (Limit q) r = r
rechunk-caused dims chunks OutOfMemory r = r

nothing-one : (e f : NodeError) → RefusesNothing e → e ≢ OutOfMemory → e ≡ f
nothing-one (Shape x) f p m = absurd p
nothing-one (Chunks x) f p m = absurd p
nothing-one (Limit q) f p m = absurd p
nothing-one OutOfMemory f p m = absurd (m refl)

-- ---- element by element

misfit-same : (a b l m r s : ℕ) → a ≡ b → l ≡ m → r ≡ s → Misfit a l r ≡ Misfit b m s
misfit-same a b l m r s d e f = cc

pair-same : (o : Option (ℕ × ℕ)) (l m r s : ℕ) → o ≡ Some (l, r) → o ≡ Some (m, s) → (l ≡ m) × (r ≡ s)
pair-same o l m r s p q = let f = same_Some {A = ℕ × ℕ} (l, r) (m, s) (sym p ∙ q) in (ap (λ (x : ℕ × ℕ). x.0) f, ap (λ (x : ℕ × ℕ). x.1) f)

misfit-axis : (shapes : List (List ℕ)) (a b l m r s : ℕ) → IsMisfit shapes a l r → IsMisfit shapes b m s → a ≡ b
misfit-axis shapes a b l m r s p q = elim (cases_order a b) [
  | inl e ↦ e
  | inr o ↦ elim o [
    | inl h ↦ absurd (none-some {A = ℕ × ℕ} (l, r) (sym (q.before a h) ∙ p.here))
    | inr h ↦ absurd (none-some {A = ℕ × ℕ} (m, s) (sym (p.before b h) ∙ q.here))
  ]
]

misfit-one : (shapes : List (List ℕ)) (a b l m r s : ℕ) → IsMisfit shapes a l r → IsMisfit shapes b m s → Misfit a l r ≡ Misfit b m s
misfit-one shapes a b l m r s p q =
    let axis : a ≡ b = misfit-axis shapes a b l m r s p q in
    let pairs = pair-same (first_misfit (lengths_on shapes a)) l m r s p.here (ap (λ k. first_misfit (lengths_on shapes k)) axis ∙ q.here) in
    misfit-same a b l m r s axis pairs.0 pairs.1

misfits-one : (shapes : List (List ℕ)) (x y : ShapeError) → IsMisfitOf shapes x → IsMisfitOf shapes y → x ≡ y
misfits-one shapes (Misfit a l r) (Misfit b m s) p q = misfit-one shapes a b l m r s p q
misfits-one shapes (Misfit a l r) y p q = absurd q
misfits-one shapes x y p q = absurd p

-- the limit of what is broadcast
abbrev PassesPaired : List (List ℕ) → Quantity → Type 0
PassesPaired shapes Elements = Agree shapes × (2 ^ 31 < elements (broadcast shapes))
PassesPaired shapes Axes = ⊥
PassesPaired shapes Nodes = ⊥

paired-limit : (shapes : List (List ℕ)) (q r : Quantity) → PassesPaired shapes q → PassesPaired shapes r → q ≡ r
paired-limit shapes Elements Elements p s = refl
paired-limit shapes Elements r p s = absurd s
paired-limit shapes q r p s = absurd p

misfit-or-limit : (shapes : List (List ℕ)) (x : ShapeError) (q : Quantity) → IsMisfitOf shapes x → PassesPaired shapes q → ⊥
misfit-or-limit shapes x Elements p l = misfit-excluded shapes x l.0 p
misfit-or-limit shapes x q p l = l

pairing-one : (shapes : List (List ℕ)) → AreOne (IsMisfitOf shapes) (λ x. ⊥) (PassesPaired shapes)
pairing-one shapes = record {
  shapes = misfits-one shapes;
  cuts = λ x y p q. absurd p;
  limits = paired-limit shapes;
  shape_or_cut = λ x y p q. q;
  shape_or_limit = misfit-or-limit shapes;
  cut_or_limit = λ x q p l. p;
}

pairing-caused : (shapes : List (List ℕ)) (e : NodeError) → RefusesPairing shapes e → Caused (IsMisfitOf shapes) (λ x. ⊥) (PassesPaired shapes) e
pairing-caused shapes (Shape x) r = r
pairing-caused shapes (Chunks x) r = r
pairing-caused shapes (Limit Elements) r = r
pairing-caused shapes (Limit q) r = absurd r
pairing-caused shapes OutOfMemory r = r

-- ---- slices

index-same : (i j : ℤ) (m n : ℕ) → i ≡ j → m ≡ n → BadIndex i m ≡ BadIndex j n
index-same i j m n d e = cc

part-one : (n : ℕ) (part : Part) (x y : ShapeError) → RefusesPart n part x → RefusesPart n part y → x ≡ y
part-one n (At i) (BadIndex j m) (BadIndex k l) p q = index-same j k m l (p.0 ∙ sym q.0) (p.1 ∙ sym q.1)
part-one n (At i) (BadIndex j m) y p q = absurd q
part-one n (Range start stop step) ZeroStep ZeroStep p q = refl
part-one n (Range start stop step) ZeroStep y p q = absurd q
part-one n part x y p q = absurd p

-- no part before the first one is refused
earlier-part : (dims : List ℕ) (parts : List Part) (x y : ShapeError) (p : IsFirstBadPart dims parts x) (q : IsFirstBadPart dims parts y) → length p.taken < length q.taken → ⊥
earlier-part dims parts x y p q less =
    let k : ℕ = length p.taken in
    let steps : Steps = get_or q.taken k first-place in
    part-excluded (get_or dims k 0) (part_on parts k) steps x (q.before.each k steps (slice_get-get_or q.taken k first-place less)) p.here

bad-part-one : (dims : List ℕ) (parts : List Part) (x y : ShapeError) → IsFirstBadPart dims parts x → IsFirstBadPart dims parts y → x ≡ y
bad-part-one dims parts x y p q = elim (cases_order (length p.taken) (length q.taken)) [
  | inl e ↦ part-one (get_or dims (length q.taken) 0) (part_on parts (length q.taken)) x y (subst (λ k. RefusesPart (get_or dims k 0) (part_on parts k) x) e p.here) q.here
  | inr o ↦ elim o [
    | inl less ↦ absurd (earlier-part dims parts x y p q less)
    | inr less ↦ absurd (earlier-part dims parts y x q p less)
  ]
]

-- too many parts, or a first part that is refused
many-or-part : (dims : List ℕ) (parts : List Part) (x : ShapeError) → RefusesParts dims parts x → ((given : ℕ) × (axes : ℕ) × (x ≡ TooManyParts given axes) × (given ≡ length parts) × (axes ≡ length dims) × (axes < given)) ⊎ IsFirstBadPart dims parts x
many-or-part dims parts (TooManyParts given axes) p = inl (given, axes, refl, p.0, p.1, p.2)
many-or-part dims parts x p = inr p

many-same : (g h m n : ℕ) → g ≡ h → m ≡ n → TooManyParts g m ≡ TooManyParts h n
many-same g h m n d e = cc

parts-one : (dims : List ℕ) (parts : List Part) (x y : ShapeError) → RefusesParts dims parts x → RefusesParts dims parts y → x ≡ y
parts-one dims parts x y p q = elim (many-or-part dims parts x p) [
  | inl a ↦ elim (many-or-part dims parts y q) [
    | inl b ↦ a.2 ∙ (many-same a.0 b.0 a.1 b.1 (a.3 ∙ sym b.3) (a.4 ∙ sym b.4) ∙ sym b.2)
    | inr b ↦ absurd (omega (arith, a.3, a.4, a.5, b.enough))
  ]
  | inr a ↦ elim (many-or-part dims parts y q) [
    | inl b ↦ absurd (omega (arith, b.3, b.4, b.5, a.enough))
    | inr b ↦ bad-part-one dims parts x y a b
  ]
]

sliced-limit : (dims : List ℕ) (parts : List Part) (q r : Quantity) → PassesSliced dims parts q → PassesSliced dims parts r → q ≡ r
sliced-limit dims parts q r p s =
    limit-one (sliced_shape 0 p.taken (dropped parts)) q r p.passed (subst (PassesLimit r) (takes-same dims parts s.taken p.taken s.takes p.takes) s.passed)

slice-one : (dims : List ℕ) (parts : List Part) → AreOne (RefusesParts dims parts) (λ x. ⊥) (PassesSliced dims parts)
slice-one dims parts = record {
  shapes = parts-one dims parts;
  cuts = λ x y p q. absurd p;
  limits = sliced-limit dims parts;
  shape_or_cut = λ x y p q. q;
  shape_or_limit = λ x q p l. parts-excluded dims parts l.taken x l.takes p;
  cut_or_limit = λ x q p l. p;
}

slice-caused : (dims : List ℕ) (parts : List Part) (e : NodeError) → RefusesSlice dims parts e → Caused (RefusesParts dims parts) (λ x. ⊥) (PassesSliced dims parts) e
slice-caused dims parts (Shape x) r = r
slice-caused dims parts (Chunks x) r = r
slice-caused dims parts (Limit q) r = r
slice-caused dims parts OutOfMemory r = r

-- ---- lists of axes

-- a front of the list that holds the bad axis isn't a list of axes
front-excluded : (n m : ℕ) (axes : List ℕ) (axis : ℕ) (p : IsFirstBadAxis n axes axis) → p.at < m → AreAxes n (take m axes) → ⊥
front-excluded n m axes axis p less a =
    axis-excluded n (take m axes) axis a (record {
      at = p.at;
      inside = omega (arith, length-take m axes, p.inside, less);
      axis_is = get_or-take m axes p.at 0 less ∙ p.axis_is;
      before = subst (AreAxes n) (sym same) p.before;
      here = subst (λ xs. (n ≤ axis) ⊎ Contains xs axis) (sym same) p.here;
    })
  where
    same : take p.at (take m axes) ≡ take p.at axes
    same = take-take p.at m axes (omega (arith, less))

axis-one : (n : ℕ) (axes : List ℕ) (a b : ℕ) → IsFirstBadAxis n axes a → IsFirstBadAxis n axes b → a ≡ b
axis-one n axes a b p q = elim (cases_order p.at q.at) [
  | inl e ↦ sym p.axis_is ∙ (ap (λ k. get_or axes k 0) e ∙ q.axis_is)
  | inr o ↦ elim o [
    | inl less ↦ absurd (front-excluded n q.at axes a p less q.before)
    | inr less ↦ absurd (front-excluded n p.at axes b q less p.before)
  ]
]

-- the axes are all right, and are too few or too many
abbrev IsOtherLengthOf : ℕ → List ℕ → ℕ → Type 0
IsOtherLengthOf n axes axis = AreAxes n axes × (length axes ≢ n) × (axis ≡ length axes)

order-axis : (n : ℕ) (axes : List ℕ) (a b : ℕ) → IsFirstBadAxis n axes a ⊎ IsOtherLengthOf n axes a → IsFirstBadAxis n axes b ⊎ IsOtherLengthOf n axes b → a ≡ b
order-axis n axes a b (inl p) (inl q) = axis-one n axes a b p q
order-axis n axes a b (inl p) (inr q) = absurd (axis-excluded n axes a q.0 p)
order-axis n axes a b (inr p) (inl q) = absurd (axis-excluded n axes b p.0 q)
order-axis n axes a b (inr p) (inr q) = p.2 ∙ sym q.2

order-one : (dims axes : List ℕ) (x y : ShapeError) → RefusesOrder dims axes x → RefusesOrder dims axes y → x ≡ y
order-one dims axes (BadAxis a) (BadAxis b) p q = ap BadAxis (order-axis (length dims) axes a b p q)
order-one dims axes (BadAxis a) y p q = absurd q
order-one dims axes x y p q = absurd p

abbrev PassesTransposed : List ℕ → List ℕ → Quantity → Type 0
PassesTransposed dims axes q = AreAxes (length dims) axes × (length axes ≡ length dims) × PassesLimit q (map (λ a. get_or dims a 0) axes)

transpose-one : (dims axes : List ℕ) → AreOne (RefusesOrder dims axes) (λ x. ⊥) (PassesTransposed dims axes)
transpose-one dims axes = record {
  shapes = order-one dims axes;
  cuts = λ x y p q. absurd p;
  limits = λ q r p s. limit-one (map (λ a. get_or dims a 0) axes) q r p.2 s.2;
  shape_or_cut = λ x y p q. q;
  shape_or_limit = λ x q p l. order-excluded dims axes x l.0 l.1 p;
  cut_or_limit = λ x q p l. p;
}

transpose-caused : (dims axes : List ℕ) (e : NodeError) → RefusesTranspose dims axes e → Caused (RefusesOrder dims axes) (λ x. ⊥) (PassesTransposed dims axes) e
transpose-caused dims axes (Shape x) r = r
transpose-caused dims axes (Chunks x) r = r
transpose-caused dims axes (Limit q) r = r
transpose-caused dims axes OutOfMemory r = r

-- ---- concatenations

-- no shape before the first other one differs
earlier-other : (see : List ℕ → ℕ) (shapes : List (List ℕ)) (left r s : ℕ) (p : IsFirstOther see shapes left r) (q : IsFirstOther see shapes left s) → p.at < q.at → ⊥
earlier-other see shapes left r s p q less =
    let inside : p.at < length shapes = slice_get_within shapes p.at p.other p.is in
    let front : p.at < length (take q.at shapes) = omega (arith, length-take q.at shapes, inside, less) in
    let there : get_or (take q.at shapes) p.at [] ≡ p.other = get_or-take q.at shapes p.at [] less ∙ get_or_from_slice_get shapes p.at p.other [] p.is in
    let seen : see (get_or (take q.at shapes) p.at []) ≡ left = q.before p.at [] front in
    p.differs (p.right_is ∙ (ap see (sym there) ∙ seen))

other-one : (see : List ℕ → ℕ) (shapes : List (List ℕ)) (left r s : ℕ) → IsFirstOther see shapes left r → IsFirstOther see shapes left s → r ≡ s
other-one see shapes left r s p q = elim (cases_order p.at q.at) [
  | inl e ↦ p.right_is ∙ (ap see (same_Some p.other q.other (sym p.is ∙ (ap (slice_get shapes) e ∙ q.is))) ∙ sym q.right_is)
  | inr o ↦ elim o [
    | inl less ↦ absurd (earlier-other see shapes left r s p q less)
    | inr less ↦ absurd (earlier-other see shapes left s r q p less)
  ]
]

number-one : (shapes : List (List ℕ)) (l m r s : ℕ) → IsOtherNumber shapes l r → IsOtherNumber shapes m s → (l ≡ m) × (r ≡ s)
number-one shapes l m r s p q =
    let left : l ≡ m = p.left_is ∙ sym q.left_is in
    (left, other-one (λ dims. length dims) shapes m r s (subst (λ n. IsFirstOther (λ dims. length dims) shapes n r) left p.first) q.first)

-- no axis before the first one on which lengths differ
earlier-length : (shapes : List (List ℕ)) (axis a b l m r s : ℕ) → IsOtherLength shapes axis a l r → IsOtherLength shapes axis b m s → a < b → ⊥
earlier-length shapes axis a b l m r s p q less =
    other-excluded (λ dims. get_or dims a 0) shapes l r (subst (λ n. All (λ dims. get_or dims a 0 ≡ n) shapes) (sym p.left_is) (q.axes_before a less p.other_axis)) p.first

length-axis : (shapes : List (List ℕ)) (axis a b l m r s : ℕ) → IsOtherLength shapes axis a l r → IsOtherLength shapes axis b m s → a ≡ b
length-axis shapes axis a b l m r s p q = elim (cases_order a b) [
  | inl e ↦ e
  | inr o ↦ elim o [
    | inl less ↦ absurd (earlier-length shapes axis a b l m r s p q less)
    | inr less ↦ absurd (earlier-length shapes axis b a m l s r q p less)
  ]
]

length-one : (shapes : List (List ℕ)) (axis a b l m r s : ℕ) → IsOtherLength shapes axis a l r → IsOtherLength shapes axis b m s → Misfit a l r ≡ Misfit b m s
length-one shapes axis a b l m r s p q =
    let at : a ≡ b = length-axis shapes axis a b l m r s p q in
    let left : l ≡ m = p.left_is ∙ (ap (λ k. get_or (first_shape shapes) k 0) at ∙ sym q.left_is) in
    let here : IsFirstOther (λ dims. get_or dims b 0) shapes m r = subst (λ k. IsFirstOther (λ dims. get_or dims k 0) shapes m r) at (subst (λ n. IsFirstOther (λ dims. get_or dims a 0) shapes n r) left p.first) in
    misfit-same a b l m r s at left (other-one (λ dims. get_or dims b 0) shapes m r s here q.first)

-- other numbers of axes, or another length on one
abbrev IsOther : List (List ℕ) → ℕ → ℕ → ℕ → ℕ → Type 0
IsOther shapes axis bad left right = ((bad ≡ 0) × IsOtherNumber shapes left right) ⊎ IsOtherLength shapes axis bad left right

number-excluded : (shapes : List (List ℕ)) (l r : ℕ) → All (λ dims. length dims ≡ length (first_shape shapes)) shapes → IsOtherNumber shapes l r → ⊥
number-excluded shapes l r all p = other-excluded (λ dims. length dims) shapes l r (subst (λ n. All (λ dims. length dims ≡ n) shapes) (sym p.left_is) all) p.first

other-same : (shapes : List (List ℕ)) (axis a b l m r s : ℕ) → IsOther shapes axis a l r → IsOther shapes axis b m s → Misfit a l r ≡ Misfit b m s
other-same shapes axis a b l m r s (inl p) (inl q) = let n = number-one shapes l m r s p.1 q.1 in misfit-same a b l m r s (p.0 ∙ sym q.0) n.0 n.1
other-same shapes axis a b l m r s (inl p) (inr q) = absurd (number-excluded shapes l r q.axes p.1)
other-same shapes axis a b l m r s (inr p) (inl q) = absurd (number-excluded shapes m s p.axes q.1)
other-same shapes axis a b l m r s (inr p) (inr q) = length-one shapes axis a b l m r s p q

other-or-axis : (shapes : List (List ℕ)) (axis a l r : ℕ) → All (λ dims. length dims ≡ length (first_shape shapes)) shapes → length (first_shape shapes) ≤ axis → IsOther shapes axis a l r → ⊥
other-or-axis shapes axis a l r all out (inl p) = number-excluded shapes l r all p.1
other-or-axis shapes axis a l r all out (inr p) = absurd (omega (arith, p.there, out))

join-one : (shapes : List (List ℕ)) (axis : ℕ) (x y : ShapeError) → RefusesJoin shapes axis x → RefusesJoin shapes axis y → x ≡ y
join-one shapes axis (Misfit a l r) (Misfit b m s) p q = other-same shapes axis a b l m r s p q
join-one shapes axis (Misfit a l r) (BadAxis b) p q = absurd (other-or-axis shapes axis a l r q.1.axes q.1.outside p)
join-one shapes axis (Misfit a l r) y p q = absurd q
join-one shapes axis (BadAxis a) (Misfit b m s) p q = absurd (other-or-axis shapes axis b m s p.1.axes p.1.outside q)
join-one shapes axis (BadAxis a) (BadAxis b) p q = ap BadAxis (p.0 ∙ sym q.0)
join-one shapes axis (BadAxis a) y p q = absurd q
join-one shapes axis x y p q = absurd p

abbrev PassesJoined : List (List ℕ) → ℕ → Quantity → Type 0
PassesJoined shapes axis q = AreJoinable shapes axis × PassesLimit q (joined shapes axis)

concatenate-one : (shapes : List (List ℕ)) (axis : ℕ) → AreOne (RefusesJoin shapes axis) (λ x. ⊥) (PassesJoined shapes axis)
concatenate-one shapes axis = record {
  shapes = join-one shapes axis;
  cuts = λ x y p q. absurd p;
  limits = λ q r p s. limit-one (joined shapes axis) q r p.1 s.1;
  shape_or_cut = λ x y p q. q;
  shape_or_limit = λ x q p l. join-excluded shapes axis x l.0 p;
  cut_or_limit = λ x q p l. p;
}

concatenate-caused : (shapes : List (List ℕ)) (axis : ℕ) (e : NodeError) → RefusesConcatenate shapes axis e → Caused (RefusesJoin shapes axis) (λ x. ⊥) (PassesJoined shapes axis) e
concatenate-caused shapes axis (Shape x) r = r
concatenate-caused shapes axis (Chunks x) r = r
concatenate-caused shapes axis (Limit q) r = r
concatenate-caused shapes axis OutOfMemory r = r

-- ---- reductions

least-one : (dims axes : List ℕ) (a b : ℕ) → IsLeastIn dims axes a → IsLeastIn dims axes b → a ≡ b
least-one dims axes a b p q = elim (cases_order a b) [
  | inl e ↦ e
  | inr o ↦ elim o [
    | inl less ↦ absurd (q.least a less p.folded p.empty)
    | inr less ↦ absurd (p.least b less q.folded q.empty)
  ]
]

empty-or-split : (fold : Fold) (dims axes : List ℕ) (axis split : ℕ) → IsLeastEmpty fold dims axes axis → IsBadSplit fold dims axes split → ⊥
empty-or-split fold dims axes axis split p q =
    let there : Contains axes axis = p.least.folded in
    let same : get_or axes there.0 0 ≡ axis = get_or_default axes there.0 0 axis there.1 ∙ there.2 in
    q.filled p.needs there.0 0 there.1 (ap (λ a. get_or dims a 0) same ∙ p.least.empty)

fold-one : (fold : Fold) (dims axes : List ℕ) (split : ℕ) (x y : ShapeError) → RefusesFold fold dims axes split x → RefusesFold fold dims axes split y → x ≡ y
fold-one fold dims axes split (BadAxis a) (BadAxis b) p q = ap BadAxis (axis-one (length dims) axes a b p q)
fold-one fold dims axes split (BadAxis a) (EmptyReduce b) p q = absurd (axis-excluded (length dims) axes a q.axes_fit p)
fold-one fold dims axes split (BadAxis a) (BadSplit g) p q = absurd (axis-excluded (length dims) axes a q.1.axes_fit p)
fold-one fold dims axes split (BadAxis a) y p q = absurd q
fold-one fold dims axes split (EmptyReduce a) (BadAxis b) p q = absurd (axis-excluded (length dims) axes b p.axes_fit q)
fold-one fold dims axes split (EmptyReduce a) (EmptyReduce b) p q = ap EmptyReduce (least-one dims axes a b p.least q.least)
fold-one fold dims axes split (EmptyReduce a) (BadSplit g) p q = absurd (empty-or-split fold dims axes a split p q.1)
fold-one fold dims axes split (EmptyReduce a) y p q = absurd q
fold-one fold dims axes split (BadSplit g) (BadAxis b) p q = absurd (axis-excluded (length dims) axes b p.1.axes_fit q)
fold-one fold dims axes split (BadSplit g) (EmptyReduce b) p q = absurd (empty-or-split fold dims axes b split q p.1)
fold-one fold dims axes split (BadSplit g) (BadSplit h) p q = ap BadSplit (p.0 ∙ sym q.0)
fold-one fold dims axes split (BadSplit g) y p q = absurd q
fold-one fold dims axes split x y p q = absurd p

abbrev PassesReduced : Fold → List ℕ → List ℕ → ℕ → Quantity → Type 0
PassesReduced fold dims axes split q = CanReduce fold dims axes split × PassesLimit q (kept_shape 0 dims axes)

reduce-one : (fold : Fold) (dims axes : List ℕ) (split : ℕ) → AreOne (RefusesFold fold dims axes split) (λ x. ⊥) (PassesReduced fold dims axes split)
reduce-one fold dims axes split = record {
  shapes = fold-one fold dims axes split;
  cuts = λ x y p q. absurd p;
  limits = λ q r p s. limit-one (kept_shape 0 dims axes) q r p.1 s.1;
  shape_or_cut = λ x y p q. q;
  shape_or_limit = λ x q p l. fold-excluded fold dims axes split x l.0 p;
  cut_or_limit = λ x q p l. p;
}

reduce-caused : (fold : Fold) (dims axes : List ℕ) (split : ℕ) (e : NodeError) → RefusesReduce fold dims axes split e → Caused (RefusesFold fold dims axes split) (λ x. ⊥) (PassesReduced fold dims axes split) e
reduce-caused fold dims axes split (Shape x) r = r
reduce-caused fold dims axes split (Chunks x) r = r
reduce-caused fold dims axes split (Limit q) r = r
reduce-caused fold dims axes split OutOfMemory r = r

-- ---- products

-- why the paired axes of a product are none
abbrev IsBadPairing : List ℕ → List ℕ → List ℕ → List ℕ → ℕ → Type 0
IsBadPairing left right left_axes right_axes axis =
    IsFirstBadAxis (length left) left_axes axis ⊎ (IsBadRight left right left_axes right_axes axis ⊎ IsOtherCount left right left_axes right_axes axis)

bad-pairing-one : (left right left_axes right_axes : List ℕ) (a b : ℕ) → IsBadPairing left right left_axes right_axes a → IsBadPairing left right left_axes right_axes b → a ≡ b
bad-pairing-one left right left_axes right_axes a b (inl p) (inl q) = axis-one (length left) left_axes a b p q
bad-pairing-one left right left_axes right_axes a b (inl p) (inr (inl q)) = absurd (axis-excluded (length left) left_axes a q.left_fit p)
bad-pairing-one left right left_axes right_axes a b (inl p) (inr (inr q)) = absurd (axis-excluded (length left) left_axes a q.left_fit p)
bad-pairing-one left right left_axes right_axes a b (inr (inl p)) (inl q) = absurd (axis-excluded (length left) left_axes b p.left_fit q)
bad-pairing-one left right left_axes right_axes a b (inr (inl p)) (inr (inl q)) = axis-one (length right) right_axes a b p.right_bad q.right_bad
bad-pairing-one left right left_axes right_axes a b (inr (inl p)) (inr (inr q)) = absurd (axis-excluded (length right) right_axes a q.right_fit p.right_bad)
bad-pairing-one left right left_axes right_axes a b (inr (inr p)) (inl q) = absurd (axis-excluded (length left) left_axes b p.left_fit q)
bad-pairing-one left right left_axes right_axes a b (inr (inr p)) (inr (inl q)) = absurd (axis-excluded (length right) right_axes b p.right_fit q.right_bad)
bad-pairing-one left right left_axes right_axes a b (inr (inr p)) (inr (inr q)) = p.axis_is ∙ sym q.axis_is

pairing-or-pair : (left right left_axes right_axes : List ℕ) (a place here there : ℕ) → IsBadPairing left right left_axes right_axes a → IsUnequalPair left right left_axes right_axes place here there → ⊥
pairing-or-pair left right left_axes right_axes a place here there (inl p) u = axis-excluded (length left) left_axes a u.left_fit p
pairing-or-pair left right left_axes right_axes a place here there (inr (inl p)) u = axis-excluded (length right) right_axes a u.right_fit p.right_bad
pairing-or-pair left right left_axes right_axes a place here there (inr (inr p)) u = p.differs u.number

-- no pair before the first unequal one is unequal
earlier-pair : (left right left_axes right_axes : List ℕ) (j k l m r s : ℕ) → IsUnequalPair left right left_axes right_axes j l r → IsUnequalPair left right left_axes right_axes k m s → j < k → ⊥
earlier-pair left right left_axes right_axes j k l m r s p q less = p.differs (p.here_is ∙ (q.before j less ∙ sym p.there_is))

pair-place : (left right left_axes right_axes : List ℕ) (j k l m r s : ℕ) → IsUnequalPair left right left_axes right_axes j l r → IsUnequalPair left right left_axes right_axes k m s → j ≡ k
pair-place left right left_axes right_axes j k l m r s p q = elim (cases_order j k) [
  | inl e ↦ e
  | inr o ↦ elim o [
    | inl less ↦ absurd (earlier-pair left right left_axes right_axes j k l m r s p q less)
    | inr less ↦ absurd (earlier-pair left right left_axes right_axes k j m l s r q p less)
  ]
]

unequal-one : (left right left_axes right_axes : List ℕ) (j k l m r s : ℕ) → IsUnequalPair left right left_axes right_axes j l r → IsUnequalPair left right left_axes right_axes k m s → Misfit j l r ≡ Misfit k m s
unequal-one left right left_axes right_axes j k l m r s p q =
    let at : j ≡ k = pair-place left right left_axes right_axes j k l m r s p q in
    let here : l ≡ m = p.here_is ∙ (ap (λ i. get_or left (get_or left_axes i 0) 0) at ∙ sym q.here_is) in
    let there : r ≡ s = p.there_is ∙ (ap (λ i. get_or right (get_or right_axes i 0) 0) at ∙ sym q.there_is) in
    misfit-same j k l m r s at here there

contraction-one : (left right left_axes right_axes : List ℕ) (x y : ShapeError) → RefusesContraction left right left_axes right_axes x → RefusesContraction left right left_axes right_axes y → x ≡ y
contraction-one left right left_axes right_axes (BadAxis a) (BadAxis b) p q = ap BadAxis (bad-pairing-one left right left_axes right_axes a b p q)
contraction-one left right left_axes right_axes (BadAxis a) (Misfit k m s) p q = absurd (pairing-or-pair left right left_axes right_axes a k m s p q)
contraction-one left right left_axes right_axes (BadAxis a) y p q = absurd q
contraction-one left right left_axes right_axes (Misfit j l r) (BadAxis b) p q = absurd (pairing-or-pair left right left_axes right_axes b j l r q p)
contraction-one left right left_axes right_axes (Misfit j l r) (Misfit k m s) p q = unequal-one left right left_axes right_axes j k l m r s p q
contraction-one left right left_axes right_axes (Misfit j l r) y p q = absurd q
contraction-one left right left_axes right_axes x y p q = absurd p

abbrev PassesContracted : List ℕ → List ℕ → List ℕ → List ℕ → Quantity → Type 0
PassesContracted left right left_axes right_axes q =
    CanContract left right left_axes right_axes × PassesLimit q (kept_shape 0 left left_axes ++ kept_shape 0 right right_axes)

tensordot-one : (left right left_axes right_axes : List ℕ) → AreOne (RefusesContraction left right left_axes right_axes) (λ x. ⊥) (PassesContracted left right left_axes right_axes)
tensordot-one left right left_axes right_axes = record {
  shapes = contraction-one left right left_axes right_axes;
  cuts = λ x y p q. absurd p;
  limits = λ q r p s. limit-one (kept_shape 0 left left_axes ++ kept_shape 0 right right_axes) q r p.1 s.1;
  shape_or_cut = λ x y p q. q;
  shape_or_limit = λ x q p l. contraction-excluded left right left_axes right_axes x l.0 p;
  cut_or_limit = λ x q p l. p;
}

tensordot-caused : (left right left_axes right_axes : List ℕ) (e : NodeError) → RefusesTensordot left right left_axes right_axes e → Caused (RefusesContraction left right left_axes right_axes) (λ x. ⊥) (PassesContracted left right left_axes right_axes) e
tensordot-caused left right left_axes right_axes (Shape x) r = r
tensordot-caused left right left_axes right_axes (Chunks x) r = r
tensordot-caused left right left_axes right_axes (Limit q) r = r
tensordot-caused left right left_axes right_axes OutOfMemory r = r

-- ---- nodes

leaves : (dims : List ℕ) (chunks : List ChunkSpec) (e f : NodeError) → RefusesLeaf dims chunks e → RefusesLeaf dims chunks f → e ≢ OutOfMemory → f ≢ OutOfMemory → e ≡ f
leaves dims chunks e f p q m n = caused-one (λ x. ⊥) (λ x. IsShape dims × RefusesCut dims chunks x) (λ r. PassesLimit r dims) (leaf-one dims chunks) e f (leaf-caused dims chunks e p) (leaf-caused dims chunks f q) m n

pairings : (shapes : List (List ℕ)) (e f : NodeError) → RefusesPairing shapes e → RefusesPairing shapes f → e ≢ OutOfMemory → f ≢ OutOfMemory → e ≡ f
pairings shapes e f p q m n = caused-one (IsMisfitOf shapes) (λ x. ⊥) (PassesPaired shapes) (pairing-one shapes) e f (pairing-caused shapes e p) (pairing-caused shapes f q) m n

op-one : (nodes : List Node) (op : Op) (e f : NodeError) → RefusesOp nodes op e → RefusesOp nodes op f → e ≢ OutOfMemory → f ≢ OutOfMemory → e ≡ f
op-one nodes (Input dims chunks) e f p q m n = leaves dims chunks e f p q m n
op-one nodes (Full dims value chunks) e f p q m n = leaves dims chunks e f p q m n
op-one nodes (Ramp dims start step chunks) e f p q m n = leaves dims chunks e f p q m n
op-one nodes (Negate of) e f p q m n = nothing-one e f p m
op-one nodes (Elementwise op left right) e f p q m n = pairings (shape_at nodes left ∷ shape_at nodes right ∷ []) e f p q m n
op-one nodes (Where condition first second) e f p q m n = pairings (shape_at nodes condition ∷ shape_at nodes first ∷ shape_at nodes second ∷ []) e f p q m n
op-one nodes (Slice of parts) e f p q m n =
    let dims = shape_at nodes of in
    caused-one (RefusesParts dims parts) (λ x. ⊥) (PassesSliced dims parts) (slice-one dims parts) e f (slice-caused dims parts e p) (slice-caused dims parts f q) m n
op-one nodes (Transpose of axes) e f p q m n =
    let dims = shape_at nodes of in
    caused-one (RefusesOrder dims axes) (λ x. ⊥) (PassesTransposed dims axes) (transpose-one dims axes) e f (transpose-caused dims axes e p) (transpose-caused dims axes f q) m n
op-one nodes (Rechunk of chunks) e f p q m n =
    let dims = shape_at nodes of in
    caused-one (λ x. ⊥) (RefusesCut dims chunks) (λ r. ⊥) (rechunk-one dims chunks) e f (rechunk-caused dims chunks e p) (rechunk-caused dims chunks f q) m n
op-one nodes (Concatenate of axis) e f p q m n =
    let shapes = map (shape_at nodes) of in
    caused-one (RefusesJoin shapes axis) (λ x. ⊥) (PassesJoined shapes axis) (concatenate-one shapes axis) e f (concatenate-caused shapes axis e p) (concatenate-caused shapes axis f q) m n
op-one nodes (Reduce fold of axes split) e f p q m n =
    let dims = shape_at nodes of in
    let folded = folded_axes axes (length dims) in
    caused-one (RefusesFold fold dims folded split) (λ x. ⊥) (PassesReduced fold dims folded split) (reduce-one fold dims folded split) e f (reduce-caused fold dims folded split e p) (reduce-caused fold dims folded split f q) m n
op-one nodes (Tensordot left right left_axes right_axes) e f p q m n =
    let l = shape_at nodes left in
    let r = shape_at nodes right in
    caused-one (RefusesContraction l r left_axes right_axes) (λ x. ⊥) (PassesContracted l r left_axes right_axes) (tensordot-one l r left_axes right_axes) e f (tensordot-caused l r left_axes right_axes e p) (tensordot-caused l r left_axes right_axes f q) m n

-- there is no room for a node, or the operation doesn't fit
full-or-unfit : (nodes : List Node) (op : Op) (e : NodeError) → Refuses nodes op e → e ≢ OutOfMemory → ((65536 ≤ length nodes) × (e ≡ Limit Nodes)) ⊎ IsRefused nodes op e
full-or-unfit nodes op (Shape x) r m = inr r
full-or-unfit nodes op (Chunks x) r m = inr r
full-or-unfit nodes op (Limit Nodes) r m = inl (r, refl)
full-or-unfit nodes op (Limit Axes) r m = inr r
full-or-unfit nodes op (Limit Elements) r m = inr r
full-or-unfit nodes op OutOfMemory r m = absurd (m refl)

pub refusal-one : (nodes : List Node) (op : Op) (e f : NodeError) → Refuses nodes op e → Refuses nodes op f → e ≢ OutOfMemory → f ≢ OutOfMemory → e ≡ f
refusal-one nodes op e f p q m n = elim (full-or-unfit nodes op e p m) [
  | inl a ↦ elim (full-or-unfit nodes op f q n) [
    | inl b ↦ a.1 ∙ sym b.1
    | inr b ↦ absurd (omega (arith, a.0, b.room))
  ]
  | inr a ↦ elim (full-or-unfit nodes op f q n) [
    | inl b ↦ absurd (omega (arith, b.0, a.room))
    | inr b ↦ op-one nodes op e f a.cause b.cause m n
  ]
]
