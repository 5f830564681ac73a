use Rattle.std.proofs.Common.{List, ℕ, map, ap, ◌∙◌, subst}
use Rattle.std.specs.List.{range_with_len}
use Rattle.std.proofs.lemmas.Result.{err_from_is_err_and}
use Rattle.nd_shape.specs.Shape.{elements}
use Rattle.nd_shape.specs.Index.{index_at}
use Rattle.chunk_layout.specs.Layouts.{counts}
use Rattle.lowering_laws.specs.Sources.{rechunk_task}
use Rattle.block_lowering.specs.Growing.{Refuses}
use Rattle.block_lowering.proofs.rechunk.push_layout.Goals as goal

pub returns-in_err-push_blocks-clause-err : goal.returns-in_err-push_blocks-clause-err
returns-in_err-push_blocks-clause-err c =
    let p = err_from_is_err_and c.from_residual-in_err-push_blocks.result c.from_residual-in_err-push_blocks.ensures.1 in
    rw (p.1, p.2)
    (subst (λ (ns : List ℕ). Refuses c.args.graph.now (map (λ k. rechunk_task c.args.source.now c.args.layout (index_at ns k)) (range_with_len 0 (elements ns))) c.in_err-push_blocks.field-0.0)
    (c.as_slice.ensures.value ∙ c.in_ok-counts.ensures ∙ ap counts c.axes.ensures.value) c.in_err-push_blocks.ensures.err)
