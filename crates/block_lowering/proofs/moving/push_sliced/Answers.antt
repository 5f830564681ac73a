use Rattle.std.proofs.Common.{◌≡◌, ◌≤◌, List, length, map, ap, sym, subst}
use Rattle.std.proofs.lemmas.Result.{err_from_is_err_and}
use Rattle.chunk_layout.specs.Layouts.{counts}
use Rattle.chunk_layout.specs.Slices.{Taken, pieces_of, counts_taken}
use Rattle.lowering_laws.specs.Stages.{kept_axes, slice_task}
use Rattle.block_lowering.proofs.Refusing.{refuses-same}
use Rattle.block_lowering.proofs.MovingStages.{blocks-same, pieces-few}
use Rattle.block_lowering.proofs.moving.push_sliced.Goals as goal

pub push_blocks-requires-clause-sound : goal.push_blocks-requires-clause-sound
push_blocks-requires-clause-sound c =
    let taken : c.as_slice-3.result.now ≡ pieces_of c.layout.result.now c.args.steps.now = cc (c.in_ok-pieces.ensures) in
    subst (λ (ps : List (List Taken)). length ps ≤ 8) (sym taken) (pieces-few c.layout.result.now c.args.steps.now c.axes.ensures.sound)

pub returns-in_err-push_blocks-clause-err : goal.returns-in_err-push_blocks-clause-err
returns-in_err-push_blocks-clause-err c =
    let p = err_from_is_err_and c.from_residual-in_err-push_blocks.result c.from_residual-in_err-push_blocks.ensures.1 in
    let pieces : List (List Taken) = pieces_of c.args.source.now.layout c.args.steps.now in
    let taken : c.as_slice-3.result.now ≡ pieces_of c.args.source.now.layout c.args.steps.now = cc (c.in_ok-pieces.ensures) in
    let cut : c.as_slice-5.result.now ≡ counts (kept_axes 0 (map counts_taken (pieces_of c.args.source.now.layout c.args.steps.now)) c.args.dropped.now) = cc (c.in_ok-pieces.ensures, c.in_ok-layout.ensures, c.in_ok-counts.ensures) in
    rw (p.1, p.2)
    (refuses-same c.args.graph.now _ _ c.in_err-push_blocks.field-0.0
    (blocks-same (slice_task c.args.source.now c.as_slice-3.result.now c.args.dropped.now) (slice_task c.args.source.now (pieces_of c.args.source.now.layout c.args.steps.now) c.args.dropped.now) c.as_slice-5.result.now
    (kept_axes 0 (map counts_taken (pieces_of c.args.source.now.layout c.args.steps.now)) c.args.dropped.now) (ap (λ (ps : List (List Taken)). slice_task c.args.source.now ps c.args.dropped.now) taken) cut)
    c.in_err-push_blocks.ensures.err)
