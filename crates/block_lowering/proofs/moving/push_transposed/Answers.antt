use Rattle.std.proofs.Common.{◌≡◌, refl}
use Rattle.std.proofs.lemmas.Result.{err_from_is_err_and}
use Rattle.chunk_layout.specs.Layouts.{counts}
use Rattle.lowering_laws.specs.Stages.{turned_layout}
use Rattle.block_lowering.specs.Tasks.{turn_task}
use Rattle.block_lowering.proofs.Refusing.{refuses-same}
use Rattle.block_lowering.proofs.MovingStages.{blocks-same}
use Rattle.block_lowering.proofs.moving.push_transposed.Goals as goal

pub returns-in_err-push_blocks-clause-err : goal.returns-in_err-push_blocks-clause-err
returns-in_err-push_blocks-clause-err c =
    let p = err_from_is_err_and c.from_residual-in_err-push_blocks.result c.from_residual-in_err-push_blocks.ensures.1 in
    let cut : c.as_slice-2.result.now ≡ counts (turned_layout c.args.axes.now c.args.source.now.layout) = cc (c.in_ok-layout.ensures, c.in_ok-counts.ensures) in
    rw (p.1, p.2)
    (refuses-same c.args.graph.now _ _ c.in_err-push_blocks.field-0.0
    (blocks-same (turn_task c.args.axes.now c.args.source.now) (turn_task c.args.axes.now c.args.source.now) c.as_slice-2.result.now (turned_layout c.args.axes.now c.args.source.now.layout) refl cut) c.in_err-push_blocks.ensures.err)
