use Rattle.std.proofs.Common.{arith, ◌≡◌, ◌≤◌, ◌^◌, ap}
use Rattle.chunk_layout.specs.Slices.{Taken}
use Rattle.chunk_layout.proofs.Running.{count-small_of}
use Rattle.chunk_layout.proofs.slices.counts_of.Goals as goal

pub overflow_cast-piece-inside : goal.overflow_cast-piece-inside
overflow_cast-piece-inside c =
    let v : c.piece.inside.steps.count ≡ c.piece-item.result.steps.count = ap (λ (q : Taken). q.steps.count) c.piece.view_is in
    let b : c.piece-item.result.steps.count ≤ 2 ^ 31 = count-small_of c.args.pieces.now c.loop-piece.piece-index c.piece-item.result c.loop-piece-test.true c.piece-item.is c.requires in
    omega arith
