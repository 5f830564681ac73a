-- The tasks of a block, partial results and their tree, block after block.
use Rattle.std.proofs.Common.{◌≡◌, ℕ, ◌+◌, ◌*◌, ◌<◌, List, ◌++◌, length, take, drop, ap, sym, subst, ◌∙◌, append_assoc, append-nil, length-append, arith}
use Rattle.std.specs.List.{range_with_len, flat_map}
use Rattle.std.proofs.lemmas.List.{take_all, take-append-le}
use Rattle.std.proofs.lemmas.Grind.{flat_map-append}
use Rattle.small_facts.proofs.Ranges.{range_parts}
use Rattle.nd_shape.specs.Index.{index_at}
use Rattle.nd_grid.specs.declared.operation.Fold.{Fold}
use Rattle.chunk_layout.specs.Layouts.{counts, blocks, lengths_at}
use Rattle.task_graph.specs.declared.graph.Task.{Task}
use Rattle.lowering_laws.specs.Stages.{folded_tasks, block_tasks, tree_count}
use Rattle.lowering_laws.proofs.Reductions.{length-strides, length-folded}
use Rattle.block_lowering.specs.Growing.{Refuses}
use Rattle.block_lowering.specs.declared.error.LowerError.{LowerError}
use Rattle.block_lowering.proofs.Refusing.{refuses-same, refuses-block}

-- numbers that were written over, all of them
pub all-written : (xs ys : List ℕ) (n : ℕ) → length xs ≡ n → take n (xs ++ drop (length xs) ys) ≡ xs
all-written xs ys n e = take-append-le n xs (drop (length xs) ys) (omega arith) ∙ take_all n xs (omega arith)

-- the tasks of a block that is known by equations
pub block-same : (fold : Fold) (n split : ℕ) (partial : List ℕ → ℕ → Task) (layout : List (List ℕ)) (bs own dims : List ℕ) (at : ℕ) → own ≡ bs → dims ≡ lengths_at layout own
    → folded_tasks fold n split (partial own) dims at ≡ folded_tasks fold n split (partial bs) (lengths_at layout bs) at
block-same fold n split partial layout bs own dims at e d =
    ap (λ ds. folded_tasks fold n split (partial own) ds at) d ∙ ap (λ xs. folded_tasks fold n split (partial xs) (lengths_at layout xs) at) e

-- the tasks of one block more
flat-more : (f : ℕ → List Task) (c : ℕ) → flat_map f (range_with_len 0 (c + 1)) ≡ flat_map f (range_with_len 0 c) ++ f c
flat-more f c =
    let at : 0 + c ≡ c = omega arith in
    ap (flat_map f) (range_parts 0 c 1) ∙ flat_map-append f (range_with_len 0 c) (range_with_len (0 + c) 1)
    ∙ ap (λ ts. flat_map f (range_with_len 0 c) ++ ts) (append-nil (f (0 + c)) ∙ ap f at)

-- the next block stands behind as many keys as the blocks before it have
pub blocks-length : (old : List Task) (f : ℕ → List Task) (stride c : ℕ) → ((k : ℕ) → length (f k) ≡ stride) → length (old ++ flat_map f (range_with_len 0 c)) ≡ length old + stride * c
blocks-length old f stride c h = length-append old (flat_map f (range_with_len 0 c)) ∙ ap (λ k. length old + k) (length-strides f stride 0 c h)

-- the same of a graph that is known by equations
pub block-refused : (old now : List Task) (fold : Fold) (n split : ℕ) (layout : List (List ℕ)) (partial : List ℕ → ℕ → Task) (c : ℕ) (e : LowerError) → c < blocks layout
    → now ≡ old ++ flat_map (block_tasks fold n split layout partial (length old)) (range_with_len 0 c)
    → Refuses now (folded_tasks fold n split (partial (index_at (counts layout) c)) (lengths_at layout (index_at (counts layout) c)) (length now)) e
    → Refuses old (flat_map (block_tasks fold n split layout partial (length old)) (range_with_len 0 (blocks layout))) e
block-refused old now fold n split layout partial c e lt is r =
    let f = block_tasks fold n split layout partial (length old) in
    let bs = index_at (counts layout) c in
    let here : length now ≡ length old + (n + tree_count n split) * c = ap length is ∙ blocks-length old f (n + tree_count n split) c (λ k. length-folded fold n split (partial (index_at (counts layout) k)) (lengths_at layout (index_at (counts layout) k)) (length old + (n + tree_count n split) * k)) in
    refuses-block old f (blocks layout) c e lt (refuses-same (old ++ flat_map f (range_with_len 0 c)) _ _ e (ap (folded_tasks fold n split (partial bs) (lengths_at layout bs)) here)
    (subst (λ ts. Refuses ts (folded_tasks fold n split (partial bs) (lengths_at layout bs) (length now)) e) is r))

pub block-pushed : (old now new : List Task) (fold : Fold) (n split : ℕ) (layout : List (List ℕ)) (partial : List ℕ → ℕ → Task) (c : ℕ) → now ≡ old ++ flat_map (block_tasks fold n split layout partial (length old)) (range_with_len 0 c)
    → new ≡ now ++ folded_tasks fold n split (partial (index_at (counts layout) c)) (lengths_at layout (index_at (counts layout) c)) (length now)
    → new ≡ old ++ flat_map (block_tasks fold n split layout partial (length old)) (range_with_len 0 (c + 1))
block-pushed old now new fold n split layout partial c is push =
    let f = block_tasks fold n split layout partial (length old) in
    let bs = index_at (counts layout) c in
    let here : length now ≡ length old + (n + tree_count n split) * c = ap length is ∙ blocks-length old f (n + tree_count n split) c (λ k. length-folded fold n split (partial (index_at (counts layout) k)) (lengths_at layout (index_at (counts layout) k)) (length old + (n + tree_count n split) * k)) in
    push ∙ ap (λ k. now ++ folded_tasks fold n split (partial bs) (lengths_at layout bs) k) here ∙ ap (λ ts. ts ++ f c) is ∙ append_assoc old (flat_map f (range_with_len 0 c)) (f c) ∙ ap (λ ts. old ++ ts) (sym (flat-more f c))
