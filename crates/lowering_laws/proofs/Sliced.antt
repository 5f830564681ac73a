-- Slices carry their formula.
use Rattle.std.proofs.Common.{◌≡◌, ℕ, suc, ◌+◌, ◌<◌, cond, Bool, true, false, List, [], ◌∷◌, length, map, drop, take, get_or, refl, ap, sym, subst, ◌∙◌, arith, ℤ, pos, ◌+ℤ◌, ◌*ℤ◌}
use Rattle.std.specs.Prelude.{unsigned_abs}
use Rattle.std.specs.List.{range_with_len}
use Rattle.std.proofs.lemmas.Int.{ints}
use Rattle.std.proofs.lemmas.List.{length-map, get_or-map}
use Rattle.nd_shape.specs.declared.slice.Steps.{Steps}
use Rattle.nd_shape.specs.Slice.{position, coordinate}
use Rattle.nd_shape.specs.Index.{IsIn}
use Rattle.nd_shape.specs.Region.{moved}
use Rattle.nd_shape.specs.Chunk.{total}
use Rattle.nd_grid.specs.Grid.{Grid, Holds, grid_of, is_among, sliced, sliced_shape, sliced_from, SlicesFit}
use Rattle.chunk_layout.specs.Layouts.{counts, lengths, starts_at, lengths_at, box_at, chunk_of}
use Rattle.chunk_layout.specs.Slices.{Taken, taken_of, or_nothing, taken_from, runs, pieces_of, counts_taken}
use Rattle.chunk_layout.proofs.Slicings.{PieceFits, PiecesFit, pieces-fit, piece-number, counts-pieces}
use Rattle.cluster_msgs.specs.Dags.{IsEarlier}
use Rattle.cluster_msgs.specs.Shape.{deps_of}
use Rattle.block_kernels.specs.Kernels.{nth}
use Rattle.task_graph.specs.declared.graph.Task.{Task}
use Rattle.task_graph.specs.Graphs.{shape_of}
use Rattle.lowering_laws.specs.Sources.{Source}
use Rattle.lowering_laws.specs.Stages.{kept_axes, nothing_taken, pieces_at, chunks_taken, steps_taken, slice_task, sliced_blocks}
use Rattle.lowering_laws.specs.Law.{Carries, Stand, HaveChunks}
use Rattle.lowering_laws.proofs.Carrying.{carries-each, one-input}
use Rattle.nd_grid.proofs.Slicing.{SlicesFit-length}

-- what own steps take of a block, against what the steps take of the whole
pub record IsSlice (k : ℕ) (dropped : List ℕ) (layout : List (List ℕ)) (own steps : List Steps) (chunks starts lens : List ℕ) : Type 0 where
  pub inside : IsIn (counts layout) chunks
  pub shape : sliced_shape k own dropped ≡ lens
  pub within : (is : List ℕ) → IsIn lens is → IsIn (lengths_at layout chunks) (sliced_from k own dropped is)
  pub same : (is : List ℕ) → IsIn lens is → sliced_from k steps dropped (moved starts is) ≡ moved (starts_at layout chunks) (sliced_from k own dropped is)

at-zero : (s : Steps) → coordinate s 0 ≡ s.start
at-zero s = let e : position s 0 ≡ pos s.start = start s.start s.step in ap unsigned_abs e
  where
    start : (a : ℕ) (d : ℤ) → pos a +ℤ (d *ℤ pos 0) ≡ pos a
    start a d = omega (arith, ints)

-- a dropped axis
slice-dropped : (k : ℕ) (dropped : List ℕ) (sizes : List ℕ) (layout : List (List ℕ)) (s : Steps) (own steps : List Steps) (p : Taken) (chunks starts lens : List ℕ) → is_among k dropped ≡ true → PieceFits sizes s 0 p → p.steps.count ≡ 1
    → IsSlice (suc k) dropped layout own steps chunks starts lens → IsSlice k dropped (sizes ∷ layout) (p.steps ∷ own) (s ∷ steps) (p.chunk ∷ chunks) starts lens
slice-dropped k dropped sizes layout s own steps p chunks starts lens e f one r =
    let first : p.steps.start < get_or sizes p.chunk 0 = omega (arith, f.inside 0 (omega arith), at-zero p.steps) in
    let same : s.start ≡ total (take p.chunk sizes) + p.steps.start = sym (at-zero s) ∙ f.same 0 (omega arith) ∙ ap (λ j. total (take p.chunk sizes) + j) (at-zero p.steps) in
    let own-at : (is : List ℕ) → sliced_from k (p.steps ∷ own) dropped is ≡ p.steps.start ∷ sliced_from (suc k) own dropped is = λ is.
    ap (λ b. cond b (p.steps.start ∷ sliced_from (suc k) own dropped is) (coordinate p.steps (get_or is 0 0) ∷ sliced_from (suc k) own dropped (drop 1 is))) e in
    record {
      inside = (f.there, r.inside);
      shape = ap (λ b. cond b (sliced_shape (suc k) own dropped) (p.steps.count ∷ sliced_shape (suc k) own dropped)) e ∙ r.shape;
      within = λ is h. subst (IsIn (lengths_at (sizes ∷ layout) (p.chunk ∷ chunks))) (sym (own-at is)) (first, r.within is h);
      same = λ is h.
          ap (λ b. cond b (s.start ∷ sliced_from (suc k) steps dropped (moved starts is)) (coordinate s (get_or (moved starts is) 0 0) ∷ sliced_from (suc k) steps dropped (drop 1 (moved starts is)))) e
          ∙ ap (λ x. x ∷ sliced_from (suc k) steps dropped (moved starts is)) same
          ∙ ap (λ xs. (total (take p.chunk sizes) + p.steps.start) ∷ xs) (r.same is h)
          ∙ ap (moved (starts_at (sizes ∷ layout) (p.chunk ∷ chunks))) (sym (own-at is));
    }

-- an axis that stays
kept-within : (k : ℕ) (dropped sizes : List ℕ) (layout : List (List ℕ)) (s : Steps) (own steps : List Steps) (p : Taken) (t : ℕ) (chunks starts lens : List ℕ) → is_among k dropped ≡ false → PieceFits sizes s t p → IsSlice (suc k) dropped layout own steps chunks starts lens
    → (is : List ℕ) → IsIn (p.steps.count ∷ lens) is → IsIn (lengths_at (sizes ∷ layout) (p.chunk ∷ chunks)) (sliced_from k (p.steps ∷ own) dropped is)
kept-within k dropped sizes layout s own steps p t chunks starts lens e f r [] h = absurd h
kept-within k dropped sizes layout s own steps p t chunks starts lens e f r (i ∷ is) h =
    subst (IsIn (lengths_at (sizes ∷ layout) (p.chunk ∷ chunks))) (sym (ap (λ b. cond b (p.steps.start ∷ sliced_from (suc k) own dropped (i ∷ is)) (coordinate p.steps i ∷ sliced_from (suc k) own dropped is)) e))
    (f.inside i h.0, r.within is h.1)

kept-same : (k : ℕ) (dropped sizes : List ℕ) (layout : List (List ℕ)) (s : Steps) (own steps : List Steps) (p : Taken) (t : ℕ) (chunks starts lens : List ℕ) → is_among k dropped ≡ false → PieceFits sizes s t p → IsSlice (suc k) dropped layout own steps chunks starts lens
    → (is : List ℕ) → IsIn (p.steps.count ∷ lens) is → sliced_from k (s ∷ steps) dropped (moved (t ∷ starts) is) ≡ moved (starts_at (sizes ∷ layout) (p.chunk ∷ chunks)) (sliced_from k (p.steps ∷ own) dropped is)
kept-same k dropped sizes layout s own steps p t chunks starts lens e f r [] h = absurd h
kept-same k dropped sizes layout s own steps p t chunks starts lens e f r (i ∷ is) h =
    ap (λ b. cond b (s.start ∷ sliced_from (suc k) steps dropped ((t + i) ∷ moved starts is)) (coordinate s (t + i) ∷ sliced_from (suc k) steps dropped (moved starts is))) e
    ∙ ap (λ x. x ∷ sliced_from (suc k) steps dropped (moved starts is)) (f.same i h.0)
    ∙ ap (λ xs. (total (take p.chunk sizes) + coordinate p.steps i) ∷ xs) (r.same is h.1)
    ∙ ap (moved (starts_at (sizes ∷ layout) (p.chunk ∷ chunks))) (sym (ap (λ b. cond b (p.steps.start ∷ sliced_from (suc k) own dropped (i ∷ is)) (coordinate p.steps i ∷ sliced_from (suc k) own dropped is)) e))

slice-kept : (k : ℕ) (dropped sizes : List ℕ) (layout : List (List ℕ)) (s : Steps) (own steps : List Steps) (p : Taken) (t : ℕ) (chunks starts lens : List ℕ) → is_among k dropped ≡ false → PieceFits sizes s t p
    → IsSlice (suc k) dropped layout own steps chunks starts lens → IsSlice k dropped (sizes ∷ layout) (p.steps ∷ own) (s ∷ steps) (p.chunk ∷ chunks) (t ∷ starts) (p.steps.count ∷ lens)
slice-kept k dropped sizes layout s own steps p t chunks starts lens e f r = record {
  inside = (f.there, r.inside);
  shape = ap (λ b. cond b (sliced_shape (suc k) own dropped) (p.steps.count ∷ sliced_shape (suc k) own dropped)) e ∙ ap (λ ns. p.steps.count ∷ ns) r.shape;
  within = kept-within k dropped sizes layout s own steps p t chunks starts lens e f r;
  same = kept-same k dropped sizes layout s own steps p t chunks starts lens e f r;
}

-- ---- all axes

pub some-pieces : (sizes : List ℕ) (s : Steps) → 0 < length (taken_of sizes s)
some-pieces sizes s = some s (taken_from sizes s 0 (runs (map (λ t. chunk_of sizes (coordinate s t)) (range_with_len 0 s.count))))
  where
    some : (s : Steps) (ps : List Taken) → 0 < length (or_nothing s ps)
    some s [] = omega arith
    some s (p ∷ ps) = omega arith

pub first-one : (sizes : List ℕ) (s : Steps) → s.count ≡ 1 → (get_or (taken_of sizes s) 0 nothing_taken).steps.count ≡ 1
first-one sizes s e = ap (λ n. (get_or (or_nothing s (taken_from sizes s 0 (runs (map (λ t. chunk_of sizes (coordinate s t)) (range_with_len 0 n))))) 0 nothing_taken).steps.count) e

abbrev pub lists_of : List (List ℕ) → List Steps → List (List ℕ)
lists_of layout steps = map counts_taken (pieces_of layout steps)

pub slice-of : (k : ℕ) (dropped : List ℕ) (layout : List (List ℕ)) (steps : List Steps) (bs : List ℕ) → HaveChunks layout → SlicesFit k steps (lengths layout) dropped → IsIn (counts (kept_axes k (lists_of layout steps) dropped)) bs
    → IsSlice k dropped layout (steps_taken (pieces_at k (pieces_of layout steps) dropped bs)) steps (chunks_taken (pieces_at k (pieces_of layout steps) dropped bs))
    (starts_at (kept_axes k (lists_of layout steps) dropped) bs) (lengths_at (kept_axes k (lists_of layout steps) dropped) bs)
slice-of k dropped [] [] [] c f h = record { inside = tt; shape = refl; within = λ is g. tt; same = λ is g. refl }
slice-of k dropped [] [] (b ∷ bs) c f h = absurd h
slice-of k dropped [] (s ∷ steps) bs c f h = absurd f
slice-of k dropped (sizes ∷ layout) [] bs c f h = absurd f
slice-of k dropped (sizes ∷ layout) (s ∷ steps) bs c f h =
    let ps = taken_of sizes s in
    let pieces = pieces_of layout steps in
    let rest = kept_axes (suc k) (lists_of layout steps) dropped in
    let cs = counts_taken (taken_of sizes s) in
    let fits : PiecesFit sizes s 0 (taken_of sizes s) = pieces-fit sizes s f.0 c.0 in
    elim (is_among k dropped) as (λ b. is_among k dropped ≡ b → IsIn (counts (cond b rest (cs ∷ rest))) bs
    → IsSlice k dropped (sizes ∷ layout)
    (steps_taken (cond b (get_or ps 0 nothing_taken ∷ pieces_at (suc k) pieces dropped bs) (get_or ps (get_or bs 0 0) nothing_taken ∷ pieces_at (suc k) pieces dropped (drop 1 bs)))) (s ∷ steps)
    (chunks_taken (cond b (get_or ps 0 nothing_taken ∷ pieces_at (suc k) pieces dropped bs) (get_or ps (get_or bs 0 0) nothing_taken ∷ pieces_at (suc k) pieces dropped (drop 1 bs))))
    (starts_at (cond b rest (cs ∷ rest)) bs) (lengths_at (cond b rest (cs ∷ rest)) bs)) [
      | true ↦ λ e i.
          slice-dropped k dropped sizes layout s _ steps (get_or ps 0 nothing_taken) _ _ _ e
          (piece-number sizes s 0 (taken_of sizes s) 0 nothing_taken fits (some-pieces sizes s)) (first-one sizes s (f.1 e))
          (slice-of (suc k) dropped layout steps bs c.1 f.2 i)
      | false ↦ λ e i. kept-case k dropped sizes layout s steps bs e fits i (λ bs' i'. slice-of (suc k) dropped layout steps bs' c.1 f.2 i')
    ] refl h
  where
    kept-case : (k : ℕ) (dropped sizes : List ℕ) (layout : List (List ℕ)) (s : Steps) (steps : List Steps) (bs : List ℕ) → is_among k dropped ≡ false → PiecesFit sizes s 0 (taken_of sizes s)
        → IsIn (counts (counts_taken (taken_of sizes s) ∷ kept_axes (suc k) (lists_of layout steps) dropped)) bs
        → ((bs' : List ℕ) → IsIn (counts (kept_axes (suc k) (lists_of layout steps) dropped)) bs' → IsSlice (suc k) dropped layout (steps_taken (pieces_at (suc k) (pieces_of layout steps) dropped bs')) steps (chunks_taken (pieces_at (suc k) (pieces_of layout steps) dropped bs'))
        (starts_at (kept_axes (suc k) (lists_of layout steps) dropped) bs') (lengths_at (kept_axes (suc k) (lists_of layout steps) dropped) bs'))
        → IsSlice k dropped (sizes ∷ layout) (steps_taken (get_or (taken_of sizes s) (get_or bs 0 0) nothing_taken ∷ pieces_at (suc k) (pieces_of layout steps) dropped (drop 1 bs))) (s ∷ steps)
        (chunks_taken (get_or (taken_of sizes s) (get_or bs 0 0) nothing_taken ∷ pieces_at (suc k) (pieces_of layout steps) dropped (drop 1 bs)))
        (starts_at (counts_taken (taken_of sizes s) ∷ kept_axes (suc k) (lists_of layout steps) dropped) bs) (lengths_at (counts_taken (taken_of sizes s) ∷ kept_axes (suc k) (lists_of layout steps) dropped) bs)
    kept-case k dropped sizes layout s steps [] e fits i rec = absurd i
    kept-case k dropped sizes layout s steps (b ∷ bs) e fits i rec =
        let p : Taken = get_or (taken_of sizes s) b nothing_taken in
        let few : b < length (taken_of sizes s) = omega (arith, i.0, length-map (taken_of sizes s) (λ (p : Taken). p.steps.count)) in
        let count : (get_or (taken_of sizes s) b nothing_taken).steps.count ≡ get_or (counts_taken (taken_of sizes s)) b 0 = sym (get_or-map (λ (p : Taken). p.steps.count) (taken_of sizes s) b nothing_taken 0 few) in
        let z : 0 + total (take b (counts_taken (taken_of sizes s))) ≡ total (take b (counts_taken (taken_of sizes s))) = omega arith in
        subst (λ n. IsSlice k dropped (sizes ∷ layout) (steps_taken (get_or (taken_of sizes s) b nothing_taken ∷ pieces_at (suc k) (pieces_of layout steps) dropped bs)) (s ∷ steps)
        (chunks_taken (get_or (taken_of sizes s) b nothing_taken ∷ pieces_at (suc k) (pieces_of layout steps) dropped bs))
        (total (take b (counts_taken (taken_of sizes s))) ∷ starts_at (kept_axes (suc k) (lists_of layout steps) dropped) bs) (n ∷ lengths_at (kept_axes (suc k) (lists_of layout steps) dropped) bs)) count
        (slice-kept k dropped sizes layout s _ steps (get_or (taken_of sizes s) b nothing_taken) (total (take b (counts_taken (taken_of sizes s)))) _ _ _ e
        (subst (λ t. PieceFits sizes s t (get_or (taken_of sizes s) b nothing_taken)) z (piece-number sizes s 0 (taken_of sizes s) b nothing_taken fits few)) (rec bs i.1))

sliced-local : (dropped : List ℕ) (layout : List (List ℕ)) (own steps : List Steps) (chunks starts lens : List ℕ) (a g : Grid) → IsSlice 0 dropped layout own steps chunks starts lens → Holds a g (box_at layout chunks)
    → Holds (sliced own dropped a) (sliced steps dropped g) (record { start = starts; lengths = lens })
sliced-local dropped layout own steps chunks starts lens a g s ha = record {
  shape = s.shape;
  at = λ i h. ha.at (sliced_from 0 own dropped i) (s.within i h) ∙ ap g.at (sym (s.same i h));
}

-- the layout of a slice cuts its shape
lengths-sliced : (k : ℕ) (dropped : List ℕ) (layout : List (List ℕ)) (steps : List Steps) → length steps ≡ length layout → lengths (kept_axes k (lists_of layout steps) dropped) ≡ sliced_shape k steps dropped
lengths-sliced k dropped [] [] e = refl
lengths-sliced k dropped [] (s ∷ steps) e = absurd (omega arith)
lengths-sliced k dropped (sizes ∷ layout) [] e = absurd (omega arith)
lengths-sliced k dropped (sizes ∷ layout) (s ∷ steps) e =
    axis (is_among k dropped) (counts_taken (taken_of sizes s)) s.count (kept_axes (suc k) (lists_of layout steps) dropped) (sliced_shape (suc k) steps dropped) (counts-pieces sizes s) (lengths-sliced (suc k) dropped layout steps (omega arith))
  where
    axis : (b : Bool) (cs : List ℕ) (n : ℕ) (rest : List (List ℕ)) (ns : List ℕ) → total cs ≡ n → lengths rest ≡ ns → lengths (cond b rest (cs ∷ rest)) ≡ cond b ns (n ∷ ns)
    axis true cs n rest ns a r = r
    axis false cs n rest ns a r = ap (λ m. m ∷ lengths rest) a ∙ ap (λ ms. n ∷ ms) r

pub carries-sliced : (files : ℕ → List ℕ → ℤ) (tasks : List Task) → IsEarlier (deps_of (shape_of tasks)) → (s : Source) (g : Grid) (steps : List Steps) (dropped : List ℕ) (base : ℕ) → HaveChunks s.layout → SlicesFit 0 steps (lengths s.layout) dropped → Carries files tasks s g
    → Stand tasks base (sliced_blocks s steps dropped base).tasks → Carries files tasks (sliced_blocks s steps dropped base).source (sliced steps dropped g)
carries-sliced files tasks e s g steps dropped base some fits c stand =
    let number : length steps ≡ length s.layout = SlicesFit-length 0 steps (lengths s.layout) dropped fits ∙ length-map s.layout (λ (sizes : List ℕ). total sizes) in
    carries-each files tasks e base (kept_axes 0 (lists_of s.layout steps) dropped) (slice_task s (pieces_of s.layout steps) dropped) (sliced steps dropped g) (lengths-sliced 0 dropped s.layout steps number) stand
    (λ bs h. record {
      holds = λ blocks v.
          let r = slice-of 0 dropped s.layout steps bs some fits h in
          sliced-local dropped s.layout _ steps _ _ _ (nth (map grid_of blocks) 0) g r (one-input files tasks s g (chunks_taken (pieces_at 0 (pieces_of s.layout steps) dropped bs)) blocks c r.inside v);
    })

-- and has chunks on each axis
pub some-sliced : (k : ℕ) (dropped : List ℕ) (layout : List (List ℕ)) (steps : List Steps) → HaveChunks (kept_axes k (lists_of layout steps) dropped)
some-sliced k dropped [] steps = tt
some-sliced k dropped (sizes ∷ layout) [] = tt
some-sliced k dropped (sizes ∷ layout) (s ∷ steps) =
    axis (is_among k dropped) (counts_taken (taken_of sizes s)) (kept_axes (suc k) (lists_of layout steps) dropped) (omega (arith, some-pieces sizes s, length-map (taken_of sizes s) (λ (p : Taken). p.steps.count))) (some-sliced (suc k) dropped layout steps)
  where
    axis : (b : Bool) (cs : List ℕ) (rest : List (List ℕ)) → 0 < length cs → HaveChunks rest → HaveChunks (cond b rest (cs ∷ rest))
    axis true cs rest a r = r
    axis false cs rest a r = (a, r)
