-- Rechunking into a layout that stands for the one that was asked for.
use Rattle.std.proofs.Common.{◌≡◌, ℕ, ◌+◌, List, [], ◌∷◌, ◌++◌, length, map, refl, ap, sym, ◌∙◌}
use Rattle.nd_shape.specs.Index.{index_at}
use Rattle.nd_shape.specs.Region.{Box}
use Rattle.chunk_layout.specs.Layouts.{counts, starts_at, lengths_at, box_at, region}
use Rattle.chunk_layout.specs.Plans.{Overlap, overlaps_from, overlaps_at, tuples, chunks_in}
use Rattle.cluster_msgs.specs.Shape.{IsShape}
use Rattle.block_kernels.specs.declared.spec.Spec.TheVariants.{Assemble}
use Rattle.task_graph.specs.declared.graph.Task.{Task}
use Rattle.task_graph.specs.Graphs.{shape_of, task}
use Rattle.lowering_laws.specs.Sources.{Source, key_at, placed, rechunk_task, rechunked}
use Rattle.lowering_laws.specs.Stages.{rechunked_blocks}
use Rattle.block_lowering.specs.Growing.{Refuses, IsGrown}
use Rattle.block_lowering.specs.Standing.{StandsFor}
use Rattle.block_lowering.specs.declared.error.LowerError.{LowerError}
use Rattle.block_lowering.proofs.Standing.{one-grown, one-refused}

-- what blocks of a layout have of a box
overlaps_in : List (List ℕ) → List ℕ → List ℕ → List (List Overlap)
overlaps_in [] starts lens = []
overlaps_in (xs ∷ from) [] lens = []
overlaps_in (xs ∷ from) (at ∷ starts) [] = []
overlaps_in (xs ∷ from) (at ∷ starts) (n ∷ lens) = overlaps_from 0 0 at (at + n) xs ∷ overlaps_in from starts lens

by-box : (from to : List (List ℕ)) (bs : List ℕ) → overlaps_at from to bs ≡ overlaps_in from (starts_at to bs) (lengths_at to bs)
unfolding overlaps_in
by-box [] to bs = refl
by-box (xs ∷ from) [] bs = refl
by-box (xs ∷ from) (ys ∷ to) [] = refl
by-box (xs ∷ from) (ys ∷ to) (b ∷ bs) = ap (λ (oss : List (List Overlap)). overlaps_at (xs ∷ []) (ys ∷ []) (b ∷ []) ++ oss) (by-box from to bs)

-- the task of overlaps
abbrev put_together : Source → List (List Overlap) → List ℕ → Task
put_together s oss shape = task (Assemble (placed 0 oss) (map (λ os. lengths_at s.layout (chunks_in os)) oss) shape) (map (λ os. key_at s (chunks_in os)) oss)

box-task : Source → Box → Task
box-task s b = put_together s (tuples (overlaps_in s.layout b.start b.lengths)) b.lengths

task-by-box : (s : Source) (layout : List (List ℕ)) (bs : List ℕ) → rechunk_task s layout bs ≡ box-task s (box_at layout bs)
unfolding box-task
task-by-box s layout bs = ap (λ (oss : List (List Overlap)). put_together s (tuples oss) (lengths_at layout bs)) (by-box s.layout layout bs)

alike : (s : Source) (exact given : List (List ℕ)) (c : ℕ) → region given c ≡ region exact c → rechunk_task s given (index_at (counts given) c) ≡ rechunk_task s exact (index_at (counts exact) c)
alike s exact given c h = task-by-box s given (index_at (counts given) c) ∙ ap (box-task s) h ∙ sym (task-by-box s exact (index_at (counts exact) c))

pub rechunked-grown : (old new : List Task) (s made : Source) (exact given : List (List ℕ)) → StandsFor exact given → IsShape (shape_of new) → IsGrown old (rechunked (length old) s given) new made → IsGrown old (rechunked_blocks s exact (length old)) new made
rechunked-grown old new s made exact given stands shape g = one-grown old new exact given (rechunk_task s exact) (rechunk_task s given) (counts given) made stands refl (alike s exact given) shape g.tasks g.source

pub rechunked-refused : (old : List Task) (s : Source) (exact given : List (List ℕ)) (e : LowerError) → StandsFor exact given → Refuses old (rechunked (length old) s given).tasks e → Refuses old (rechunked_blocks s exact (length old)).tasks e
rechunked-refused old s exact given e stands r = one-refused old exact given (rechunk_task s exact) (rechunk_task s given) (counts given) e stands refl (alike s exact given) r
