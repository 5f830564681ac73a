-- Slices of chunks are well formed.
use Rattle.std.proofs.Common.{◌≡◌, ℕ, zero, suc, ◌+◌, ◌-◌, ◌<◌, ◌≤◌, cond, Bool, true, false, List, [], ◌∷◌, length, map, drop, take, get_or, refl, ap, sym, subst, ◌∙◌, arith, ℤ, pos, ◌+ℤ◌, ◌*ℤ◌, ◌<ℤ◌, ◌≤ℤ◌}
use Rattle.std.specs.Prelude.{unsigned_abs}
use Rattle.std.specs.List.{AllByRecursion, range_with_len}
use Rattle.std.proofs.lemmas.Int.{ints}
use Rattle.std.proofs.lemmas.List.{length-map}
use Rattle.std.proofs.lemmas.List.Elements.{All-from_recursion}
use Rattle.nd_shape.specs.declared.slice.Part.{Part}
use Rattle.nd_shape.specs.declared.slice.Steps.{Steps}
use Rattle.nd_shape.specs.Shape.{IsShape}
use Rattle.nd_shape.specs.Slice.{position, coordinate, StepsFitAxis}
use Rattle.nd_shape.specs.Index.{IsIn}
use Rattle.nd_shape.specs.Chunk.{total}
use Rattle.nd_grid.specs.Grid.{is_among, SlicesFit}
use Rattle.array_expr.specs.declared.expr.Node.{Node}
use Rattle.array_expr.specs.Node.{is_index, dropped_from, dropped}
use Rattle.cluster_msgs.proofs.Dags.{all-weaker}
use Rattle.chunk_layout.specs.Layouts.{counts, lengths, lengths_at, chunk_of}
use Rattle.chunk_layout.specs.Slices.{Taken, Run, taken_of, or_nothing, taken_from, runs, pieces_of, counts_taken}
use Rattle.chunk_layout.proofs.Parting.{length-lengths}
use Rattle.chunk_layout.proofs.Slicings.{PieceFits, PiecesFit, pieces-fit, counts-pieces, spread, abs-of}
use Rattle.block_kernels.specs.WellFormed.{FitsSlice}
use Rattle.lowering_laws.specs.Sources.{Source}
use Rattle.lowering_laws.specs.Stages.{kept_axes, nothing_taken, pieces_at, chunks_taken, steps_taken, slice_task, sliced_blocks}
use Rattle.lowering_laws.specs.Law.{HaveChunks}
use Rattle.lowering_laws.proofs.Sliced.{slice-of, lists_of, some-pieces, first-one}
use Rattle.task_graph.proofs.Rising.{Rising, rising-at}
use Rattle.lowering_laws.proofs.Formed.{AreFormed, formed-each, made-shape}

-- ---- one piece

counted-from : (a b l : ℕ) (d : ℤ) → pos b ≡ pos a +ℤ d → l ≤ a → l ≤ b → pos (a - l) +ℤ d ≡ pos (b - l)
counted-from a b l d e h g = omega (arith, ints)

-- the places of a piece are those of the slice, counted from the first of its chunk
piece-position : (sizes : List ℕ) (s : Steps) (t : ℕ) (p : Taken) → StepsFitAxis s (total sizes) → PieceFits sizes s t p → p.steps.step ≡ s.step → p.steps.start ≡ coordinate s t - total (take p.chunk sizes) → t + p.steps.count ≤ s.count
    → (i : ℕ) → i < p.steps.count → position p.steps i ≡ pos (coordinate s (t + i) - total (take p.chunk sizes))
piece-position sizes s t p f fit step start few i lt =
    let z : t + 0 ≡ t = omega arith in
    let low = total (take p.chunk sizes) in
    let a0 : pos (coordinate s t) ≡ position s t = abs-of (position s t) (f.low t (omega arith)) in
    let b0 : pos (coordinate s (t + i)) ≡ position s (t + i) = abs-of (position s (t + i)) (f.low (t + i) (omega arith)) in
    let e : pos (coordinate s (t + i)) ≡ pos (coordinate s t) +ℤ (s.step *ℤ pos i) = b0 ∙ spread (pos s.start) s.step t i ∙ ap (λ x. x +ℤ (s.step *ℤ pos i)) (sym a0) in
    let first : coordinate s t ≡ total (take p.chunk sizes) + coordinate p.steps 0 = ap (coordinate s) (sym z) ∙ fit.same 0 (omega arith) in
    let here : coordinate s (t + i) ≡ total (take p.chunk sizes) + coordinate p.steps i = fit.same i lt in
    ap (λ k. pos k +ℤ (p.steps.step *ℤ pos i)) start ∙ ap (λ d. pos (coordinate s t - low) +ℤ (d *ℤ pos i)) step
    ∙ counted-from (coordinate s t) (coordinate s (t + i)) (total (take p.chunk sizes)) (s.step *ℤ pos i) e (omega (arith, first)) (omega (arith, here))

within-axis : (z : ℤ) (m n : ℕ) → z ≡ pos m → unsigned_abs z < n → (pos 0 ≤ℤ z) × (z <ℤ pos n)
within-axis z m n e h =
    let a : unsigned_abs z ≡ m = ap unsigned_abs e in
    let b : m < n = omega arith in
    (subst (λ y. pos 0 ≤ℤ y) (sym e) (low m), subst (λ y. y <ℤ pos n) (sym e) (high m n b))
  where
    low : (m : ℕ) → pos 0 ≤ℤ pos m
    low m = omega (arith, ints)

    high : (m n : ℕ) → m < n → pos m <ℤ pos n
    high m n h = omega (arith, ints)

abbrev FitsChunk : List ℕ → Taken → Type 0
FitsChunk sizes p = StepsFitAxis p.steps (get_or sizes p.chunk 0)

piece-steps : (sizes : List ℕ) (s : Steps) (t : ℕ) (p : Taken) → StepsFitAxis s (total sizes) → PieceFits sizes s t p → p.steps.step ≡ s.step → p.steps.start ≡ coordinate s t - total (take p.chunk sizes) → t + p.steps.count ≤ s.count → FitsChunk sizes p
piece-steps sizes s t p f fit step start few =
    let at : (i : ℕ) → i < p.steps.count → (pos 0 ≤ℤ position p.steps i) × (position p.steps i <ℤ pos (get_or sizes p.chunk 0)) = λ i lt.
    within-axis (position p.steps i) (coordinate s (t + i) - total (take p.chunk sizes)) (get_or sizes p.chunk 0) (piece-position sizes s t p f fit step start few i lt) (fit.inside i lt) in
    record { low = λ i lt. (at i lt).0; high = λ i lt. (at i lt).1 }

-- ---- the pieces of an axis

runs-fit : (sizes : List ℕ) (s : Steps) (t : ℕ) (rs : List Run) → StepsFitAxis s (total sizes) → PiecesFit sizes s t (taken_from sizes s t rs) → t + total (counts_taken (taken_from sizes s t rs)) ≤ s.count
    → AllByRecursion (FitsChunk sizes) (taken_from sizes s t rs)
runs-fit sizes s t [] f p h = tt
runs-fit sizes s t (r ∷ rs) f p h =
    (piece-steps sizes s t _ f p.0 refl refl (omega arith), runs-fit sizes s (t + r.count) rs f p.1 (omega arith))

nothing-fits : (sizes : List ℕ) (s : Steps) (ps : List Taken) → (PiecesFit sizes s 0 ps → total (counts_taken ps) ≤ s.count → AllByRecursion (FitsChunk sizes) ps) → PiecesFit sizes s 0 (or_nothing s ps) → total (counts_taken (or_nothing s ps)) ≡ s.count
    → AllByRecursion (FitsChunk sizes) (or_nothing s ps)
nothing-fits sizes s [] h p e = (record { low = λ i lt. absurd (omega arith); high = λ i lt. absurd (omega arith) }, tt)
nothing-fits sizes s (q ∷ ps) h p e = h p (omega arith)

taken-fit : (sizes : List ℕ) (s : Steps) → StepsFitAxis s (total sizes) → 0 < length sizes → AllByRecursion (FitsChunk sizes) (taken_of sizes s)
taken-fit sizes s f some =
    let rs = runs (map (λ t. chunk_of sizes (coordinate s t)) (range_with_len 0 s.count)) in
    nothing-fits sizes s (taken_from sizes s 0 rs) (λ p h. runs-fit sizes s 0 rs f p (omega arith)) (pieces-fit sizes s f some) (counts-pieces sizes s)

piece-fits : (sizes : List ℕ) (ps : List Taken) (b : ℕ) (d : Taken) → AllByRecursion (FitsChunk sizes) ps → b < length ps → FitsChunk sizes (get_or ps b d)
piece-fits sizes [] b d a h = absurd (omega arith)
piece-fits sizes (p ∷ ps) zero d a h = a.0
piece-fits sizes (p ∷ ps) (suc b) d a h = piece-fits sizes ps b d a.1 (omega arith)

-- ---- all axes

-- what is taken of a block's chunks lies in them
slices-fit : (k : ℕ) (dropped : List ℕ) (layout : List (List ℕ)) (steps : List Steps) (bs : List ℕ) → HaveChunks layout → SlicesFit k steps (lengths layout) dropped → IsIn (counts (kept_axes k (lists_of layout steps) dropped)) bs
    → SlicesFit k (steps_taken (pieces_at k (pieces_of layout steps) dropped bs)) (lengths_at layout (chunks_taken (pieces_at k (pieces_of layout steps) dropped bs))) dropped
slices-fit k dropped [] [] bs c f h = tt
slices-fit k dropped [] (s ∷ steps) bs c f h = absurd f
slices-fit k dropped (sizes ∷ layout) [] bs c f h = absurd f
slices-fit k dropped (sizes ∷ layout) (s ∷ steps) bs c f h =
    let ps = taken_of sizes s in
    let pieces = pieces_of layout steps in
    let rest = kept_axes (suc k) (lists_of layout steps) dropped in
    let cs = counts_taken (taken_of sizes s) in
    let fits : AllByRecursion (FitsChunk sizes) (taken_of sizes s) = taken-fit sizes s f.0 c.0 in
    elim (is_among k dropped) as (λ b. is_among k dropped ≡ b → IsIn (counts (cond b rest (cs ∷ rest))) bs
    → SlicesFit k (steps_taken (cond b (get_or ps 0 nothing_taken ∷ pieces_at (suc k) pieces dropped bs) (get_or ps (get_or bs 0 0) nothing_taken ∷ pieces_at (suc k) pieces dropped (drop 1 bs))))
    (lengths_at (sizes ∷ layout) (chunks_taken (cond b (get_or ps 0 nothing_taken ∷ pieces_at (suc k) pieces dropped bs) (get_or ps (get_or bs 0 0) nothing_taken ∷ pieces_at (suc k) pieces dropped (drop 1 bs))))) dropped) [
      | true ↦ λ e i.
          (piece-fits sizes (taken_of sizes s) 0 nothing_taken fits (some-pieces sizes s), (λ m. first-one sizes s (f.1 e)), slices-fit (suc k) dropped layout steps bs c.1 f.2 i)
      | false ↦ λ e i. kept-case k dropped sizes layout s steps bs e fits i (λ bs' i'. slices-fit (suc k) dropped layout steps bs' c.1 f.2 i')
    ] refl h
  where
    not-both : (b : Bool) (P : Type 0) → b ≡ false → b ≡ true → P
    not-both b P e h = absurd cc

    kept-case : (k : ℕ) (dropped sizes : List ℕ) (layout : List (List ℕ)) (s : Steps) (steps : List Steps) (bs : List ℕ) → is_among k dropped ≡ false → AllByRecursion (FitsChunk sizes) (taken_of sizes s)
        → IsIn (counts (counts_taken (taken_of sizes s) ∷ kept_axes (suc k) (lists_of layout steps) dropped)) bs
        → ((bs' : List ℕ) → IsIn (counts (kept_axes (suc k) (lists_of layout steps) dropped)) bs' → SlicesFit (suc k) (steps_taken (pieces_at (suc k) (pieces_of layout steps) dropped bs')) (lengths_at layout (chunks_taken (pieces_at (suc k) (pieces_of layout steps) dropped bs'))) dropped)
        → SlicesFit k (steps_taken (get_or (taken_of sizes s) (get_or bs 0 0) nothing_taken ∷ pieces_at (suc k) (pieces_of layout steps) dropped (drop 1 bs)))
        (lengths_at (sizes ∷ layout) (chunks_taken (get_or (taken_of sizes s) (get_or bs 0 0) nothing_taken ∷ pieces_at (suc k) (pieces_of layout steps) dropped (drop 1 bs)))) dropped
    kept-case k dropped sizes layout s steps [] e fits i rec = absurd i
    kept-case k dropped sizes layout s steps (b ∷ bs) e fits i rec =
        let p : Taken = get_or (taken_of sizes s) b nothing_taken in
        let few : b < length (taken_of sizes s) = omega (arith, i.0, length-map (taken_of sizes s) (λ (p : Taken). p.steps.count)) in
        (piece-fits sizes (taken_of sizes s) b nothing_taken fits few, (λ m. not-both (is_among k dropped) (p.steps.count ≡ 1) e m), rec bs i.1)

-- ---- dropped axes

dropped-rise : (k : ℕ) (parts : List Part) → Rising (dropped_from k parts) × AllByRecursion (λ a. k ≤ a) (dropped_from k parts) × AllByRecursion (λ a. a < k + length parts) (dropped_from k parts)
dropped-rise k [] = (tt, tt, tt)
dropped-rise k (part ∷ parts) =
    let r = dropped-rise (suc k) parts in
    let rest = dropped_from (suc k) parts in
    step (is_index part) k (length parts) rest r.0 r.1 (all-weaker (λ a. a < suc k + length parts) (λ a. a < k + suc (length parts)) rest (λ a h. omega arith) r.2)
  where
    step : (b : Bool) (k n : ℕ) (rest : List ℕ) → Rising rest → AllByRecursion (λ a. suc k ≤ a) rest → AllByRecursion (λ a. a < k + suc n) rest
        → Rising (cond b (k ∷ rest) rest) × AllByRecursion (λ a. k ≤ a) (cond b (k ∷ rest) rest) × AllByRecursion (λ a. a < k + suc n) (cond b (k ∷ rest) rest)
    step true k n rest r low high = ((all-weaker (λ a. suc k ≤ a) (λ a. k < a) rest (λ a h. omega arith) low, r), (omega arith, all-weaker (λ a. suc k ≤ a) (λ a. k ≤ a) rest (λ a h. omega arith) low), (omega arith, high))
    step false k n rest r low high = (r, all-weaker (λ a. suc k ≤ a) (λ a. k ≤ a) rest (λ a h. omega arith) low, high)

-- the axes that an index was given for ascend, and are among the operand's
pub record AreDropped (axes : List ℕ) (n : ℕ) : Type 0 where
  pub rise : Rising axes
  pub inside : AllByRecursion (λ a. a < n) axes

pub dropped-are : (parts : List Part) (n : ℕ) → length parts ≤ n → AreDropped (dropped parts) n
dropped-are parts n h =
    let r = dropped-rise 0 parts in
    record { rise = r.0; inside = all-weaker (λ a. a < 0 + length parts) (λ a. a < n) (dropped parts) (λ a l. omega arith) r.2 }

-- ---- the stage

pub formed-sliced : (nodes : List Node) (s : Source) (steps : List Steps) (dropped : List ℕ) (base : ℕ) → HaveChunks s.layout → SlicesFit 0 steps (lengths s.layout) dropped → AreDropped dropped (length s.layout)
    → IsShape (lengths (sliced_blocks s steps dropped base).source.layout) → AreFormed nodes (sliced_blocks s steps dropped base).tasks
formed-sliced nodes s steps dropped base some fits d sh =
    formed-each nodes base (kept_axes 0 (lists_of s.layout steps) dropped) (slice_task s (pieces_of s.layout steps) dropped) (λ bs h.
    let r = slice-of 0 dropped s.layout steps bs some fits h in
    let chunks = chunks_taken (pieces_at 0 (pieces_of s.layout steps) dropped bs) in
    let axes : length (lengths_at s.layout (chunks_taken (pieces_at 0 (pieces_of s.layout steps) dropped bs))) ≡ length s.layout = length-lengths s.layout (chunks_taken (pieces_at 0 (pieces_of s.layout steps) dropped bs)) r.inside in
    let rules : FitsSlice (steps_taken (pieces_at 0 (pieces_of s.layout steps) dropped bs)) dropped (lengths_at s.layout (chunks_taken (pieces_at 0 (pieces_of s.layout steps) dropped bs))) = record {
      fits = slices-fit 0 dropped s.layout steps bs some fits h;
      dropped_in = All-from_recursion (λ a. a < length (lengths_at s.layout chunks)) dropped (all-weaker (λ a. a < length s.layout) (λ a. a < length (lengths_at s.layout chunks)) dropped (λ a l. omega arith) d.inside);
      ascending = λ i j l b. rising-at dropped i j d.rise l b;
    } in
    record { made = record { rules = rules; shape = made-shape (kept_axes 0 (lists_of s.layout steps) dropped) bs _ sh h r.shape }; loads = tt })
