use Rattle.std.proofs.Common.{◌≡◌, ℕ, ◌<◌, ◌++◌, List, length, ap, ◌∙◌, refl, arith}
use Rattle.std.proofs.lemmas.Result.{err_from_is_err_and}
use Rattle.nd_shape.specs.Shape.{elements}
use Rattle.nd_shape.specs.Index.{index_at}
use Rattle.chunk_layout.specs.Layouts.{counts, blocks, lengths_at}
use Rattle.task_graph.specs.declared.graph.Task.{Task}
use Rattle.lowering_laws.specs.Stages.{folded_tasks}
use Rattle.block_lowering.specs.Growing.{Refuses}
use Rattle.block_lowering.proofs.Refusing.{refuses-same}
use Rattle.block_lowering.proofs.FoldedBlocks.{block-same, block-refused, block-pushed}
use Rattle.block_lowering.proofs.folds.push_folded.Goals as goal

pub returns-in_err-push_block_at-clause-err : goal.returns-in_err-push_block_at-clause-err
returns-in_err-push_block_at-clause-err g c =
    let p = err_from_is_err_and c.from_residual-in_err-push_block_at.result c.from_residual-in_err-push_block_at.ensures.1 in
    let n = elements c.args.parts.now in
    let fold = c.args.fold in
    let split = c.args.split in
    let layout = c.args.layout in
    let now = c.loop-place.graph in
    let place = c.loop-place.place in
    let partial : List ℕ → ℕ → Task = λ bs p. g.P.Parted.part_of c.args.of.now bs (index_at c.args.parts.now p) in
    let ns = c.as_slice-in-loop-place.result.now in
    let e = c.in_err-push_block_at.field-0.0 in
    let r : Refuses now (folded_tasks fold n split (partial (index_at ns place)) (lengths_at layout (index_at ns place)) (length now)) e = c.in_err-push_block_at.ensures.err in
    let counted : ns ≡ counts layout = c.as_slice-in-loop-place.ensures.value ∙ c.in_ok-counts.ensures ∙ ap counts c.axes.ensures.value in
    let all : elements c.as_slice-2.result.now ≡ blocks layout = ap elements (c.as_slice-2.ensures.value ∙ c.in_ok-counts.ensures ∙ ap counts c.axes.ensures.value) in
    let lt : place < blocks layout = omega (arith, c.loop-place-test.true, c.product_of-place-end.ensures, all) in
    let same = block-same fold n split partial layout (index_at (counts layout) place) (index_at ns place) (lengths_at layout (index_at ns place)) (length now) (ap (λ ms. index_at ms place) counted) refl in
    rw (p.1, p.2) (block-refused c.args.graph.now now fold n split layout partial place e lt c.loop-place.invariant (refuses-same now _ _ e same r))

pub loop-place-preserved : goal.loop-place-preserved
loop-place-preserved g c =
    let n = elements c.args.parts.now in
    let fold = c.args.fold in
    let split = c.args.split in
    let layout = c.args.layout in
    let now = c.loop-place.graph in
    let place = c.loop-place.place in
    let partial : List ℕ → ℕ → Task = λ bs p. g.P.Parted.part_of c.args.of.now bs (index_at c.args.parts.now p) in
    let ns = c.as_slice-in-loop-place.result.now in
    let push : c.push_block_at.new.graph ≡ now ++ folded_tasks fold n split (partial (index_at ns place)) (lengths_at layout (index_at ns place)) (length now) = c.in_ok-push_block_at.ensures.ok in
    let counted : ns ≡ counts layout = c.as_slice-in-loop-place.ensures.value ∙ c.in_ok-counts.ensures ∙ ap counts c.axes.ensures.value in
    let same = block-same fold n split partial layout (index_at (counts layout) place) (index_at ns place) (lengths_at layout (index_at ns place)) (length now) (ap (λ ms. index_at ms place) counted) refl in
    block-pushed c.args.graph.now now c.push_block_at.new.graph fold n split layout partial place c.loop-place.invariant (push ∙ ap (λ ts. now ++ ts) same)
