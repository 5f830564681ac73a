use Rattle.std.proofs.Common.{arith, ◌≡◌, ◌≤◌, ◌+◌, map, ap}
use Rattle.std.specs.List.{range_with_len}
use Rattle.nd_shape.specs.Slice.{coordinate}
use Rattle.chunk_layout.specs.Layouts.{chunk_of}
use Rattle.chunk_layout.specs.Slices.{Taken, taken_from, runs}
use Rattle.chunk_layout.proofs.Running.{taken-more}
use Rattle.chunk_layout.proofs.slices.chunks_taken.Goals as goal

pub loop-at-preserved : goal.loop-at-preserved
loop-at-preserved c =
    let v : c.piece.inside.steps.count ≡ c.taken_at-piece.result.steps.count = ap (λ (q : Taken). q.steps.count) c.piece.view_is in
    let w : c.loop-at.at + c.taken_at-piece.result.steps.count ≤ c.args.steps.count = c.taken_at-piece.ensures.within in
    let m = taken-more c.args.cuts.now c.args.steps c.loop-at.at c.taken_at-piece.result c.loop-at.list.items (taken_from c.args.cuts.now c.args.steps 0 (runs (map (λ t. chunk_of c.args.cuts.now (coordinate c.args.steps t)) (range_with_len 0 c.args.steps.count)))) c.taken_at-piece.ensures c.loop-at.invariant.value in
    record {
      there = omega arith;
      value = rw (c.in_ok-push.ensures.items, v) m;
    }
