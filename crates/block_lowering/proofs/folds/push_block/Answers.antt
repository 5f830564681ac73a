use Rattle.std.proofs.Common.{length, map}
use Rattle.std.specs.List.{range_with_len}
use Rattle.std.proofs.lemmas.Result.{err_from_is_err_and}
use Rattle.nd_shape.specs.Shape.{elements}
use Rattle.nd_shape.specs.Index.{index_at}
use Rattle.lowering_laws.specs.Stages.{tree_tasks}
use Rattle.block_lowering.proofs.Refusing.{refuses-more}
use Rattle.block_lowering.proofs.folds.push_block.Goals as goal

pub returns-in_err-push_blocks-clause-err : goal.returns-in_err-push_blocks-clause-err
returns-in_err-push_blocks-clause-err g c =
    let p = err_from_is_err_and c.from_residual.result c.from_residual.ensures.1 in
    let f = c.args.folding.now in
    let n = elements f.counts.now in
    let old = c.args.graph.now in
    rw (p.1, p.2)
    (refuses-more old (map (λ k. g.P.Parted.part_of c.args.of.now c.args.block.now (index_at f.counts.now k)) (range_with_len 0 n)) (tree_tasks f.fold c.args.dims.now (length old) n f.split) c.in_err-push_blocks.field-0.0 c.in_err-push_blocks.ensures.err)
