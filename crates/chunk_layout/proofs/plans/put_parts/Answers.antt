use Rattle.std.proofs.Common.{arith, ◌≡◌, ◌<◌, ◌≤◌, ◌+◌, ◌-◌, ◌++◌, ◌∷◌, [], ℕ, List, length, get_or, map, take, min, ap, sym, subst, ◌∙◌}
use Rattle.nd_shape.specs.declared.region.Piece.{Piece}
use Rattle.nd_shape.specs.Chunk.{total}
use Rattle.chunk_layout.specs.Plans.{overlaps_from, Overlap}
use Rattle.chunk_layout.specs.Crossings.{extended}
use Rattle.chunk_layout.proofs.Merging.{some-cut}
use Rattle.chunk_layout.proofs.Crossing.{IsWalked, walked-begin, walked-here, walked-more, walked-end}
use Rattle.chunk_layout.proofs.plans.put_parts.Goals as goal

pub loop-chunk-init : goal.loop-chunk-init
loop-chunk-init c = walked-begin c.args.from.now (length c.args.from.now) c.args.piece.now c.args.low c.args.high c.chunk_at-chunk.result c.args.out.now.items (omega arith) c.chunk_at-chunk.ensures.chunk

pub overflow_sub-end : goal.overflow_sub-end
overflow_sub-end c =
    let h = walked-here c.args.from.now c.starts-starts.result.now (length c.args.from.now) c.args.piece.now c.args.low c.args.high c.loop-chunk.chunk c.loop-chunk.out.items _ c.starts-starts.ensures.starts c.loop-chunk.invariant c.loop-chunk-test.true c.requires.top in
    let a : get_or c.starts-starts.result.now c.loop-chunk.chunk 0 ≡ total (take c.loop-chunk.chunk c.args.from.now) = h.at_is in
    let n : get_or c.starts-starts.result.now (c.loop-chunk.chunk + 1) 0 ≡ total (take (c.loop-chunk.chunk + 1) c.args.from.now) = h.next_is in
    let p : c.args.low < total (take (c.loop-chunk.chunk + 1) c.args.from.now) = h.past in
    let g : total (take c.loop-chunk.chunk c.args.from.now) ≤ total (take (c.loop-chunk.chunk + 1) c.args.from.now) = h.grows in
    let t : get_or c.starts-starts.result.now c.loop-chunk.chunk 0 < c.args.high = c.loop-chunk-test.true in
    omega (arith, c.min-end.ensures, c.max-begin.ensures, c.requires.some)

pub loop-chunk-preserved : goal.loop-chunk-preserved
loop-chunk-preserved c =
    let res : List Piece = c.args.out.now.items ++ map (extended (length c.args.from.now) c.args.piece.now) (overlaps_from 0 0 c.args.low c.args.high c.args.from.now) in
    let at = get_or c.starts-starts.result.now c.loop-chunk.chunk 0 in
    let h = walked-here c.args.from.now c.starts-starts.result.now (length c.args.from.now) c.args.piece.now c.args.low c.args.high c.loop-chunk.chunk c.loop-chunk.out.items res c.starts-starts.ensures.starts c.loop-chunk.invariant c.loop-chunk-test.true c.requires.top in
    let here : Overlap = record { chunk = c.loop-chunk.chunk; from = c.max-begin.result - at; to = c.max-begin.result - c.args.low; len = c.min-end.result - c.max-begin.result } in
    let w = walked-more c.args.from.now (length c.args.from.now) c.args.piece.now c.args.low c.args.high c.loop-chunk.chunk at c.min-end.result c.max-begin.result c.loop-chunk.out.items res
    (some-cut c.args.from.now c.starts-starts.ensures.cut (omega arith)) c.requires.some h.inside h.at_is c.loop-chunk-test.true (c.min-end.ensures ∙ ap (λ (x : ℕ). min x c.args.high) h.next_is) c.max-begin.ensures c.loop-chunk.invariant in
    let p : c.part.result ≡ extended (length c.args.from.now) c.args.piece.now here = c.part.ensures ∙ ap (λ (n : ℕ). extended n c.args.piece.now here) c.count-count.ensures.count in
    subst (λ (os : List Piece). IsWalked c.args.from.now (length c.args.from.now) c.args.piece.now c.args.low c.args.high (c.loop-chunk.chunk + 1) os res)
    (sym (c.in_ok-push.ensures.items ∙ ap (λ (x : Piece). c.loop-chunk.out.items ++ x ∷ []) p)) w

pub returns : goal.returns
returns c =
    let a : get_or c.starts-starts.result.now c.loop-chunk.chunk 0 ≡ total (take c.loop-chunk.chunk c.args.from.now) = c.starts-starts.ensures.starts.at c.loop-chunk.chunk c.loop-chunk.invariant.there in
    walked-end c.args.from.now (length c.args.from.now) c.args.piece.now c.args.low c.args.high c.loop-chunk.chunk c.loop-chunk.out.items _ c.loop-chunk.invariant (omega (arith, c.loop-chunk-test.false))
