use Rattle.std.proofs.Common.{arith, ◌≡◌, ◌≤◌, ◌+◌, sym, ap, ◌∙◌, take, get_or, length}
use Rattle.std.proofs.lemmas.List.{length_push}
use Rattle.nd_shape.specs.Chunk.{total}
use Rattle.nd_shape.proofs.Totals.{total-more}
use Rattle.chunk_layout.proofs.Parting.{total-before}
use Rattle.chunk_layout.proofs.Cutting.{starts-more}
use Rattle.chunk_layout.proofs.cuts.starts_of.Goals as goal

pub overflow_add-end : goal.overflow_add-end
overflow_add-end c =
    let b : total (take c.loop-size.size-index c.args.sizes.now) + get_or c.args.sizes.now c.loop-size.size-index 0 ≤ total c.args.sizes.now =
    total-before c.args.sizes.now c.loop-size.size-index c.loop-size-test.true in
    let e : c.loop-size.end ≡ total (take c.loop-size.size-index c.args.sizes.now) = c.loop-size.invariant.end_is in
    omega (arith, c.from-end.ensures)

pub loop-size-preserved : goal.loop-size-preserved
loop-size-preserved c = record {
  end_is = ap (λ x. c.loop-size.end + x) c.from-end.ensures ∙ ap (λ x. x + get_or c.args.sizes.now c.loop-size.size-index 0) c.loop-size.invariant.end_is ∙ sym (total-more c.args.sizes.now c.loop-size.size-index c.loop-size-test.true);
  count = let n : length c.loop-size.starts.items ≡ c.loop-size.size-index + 1 = omega (arith, c.loop-size.invariant.count) in
      ap length c.in_ok-push.ensures.items ∙ length_push c.loop-size.starts.items _ ∙ omega arith;
  at = λ k b. rw c.in_ok-push.ensures.items (rw c.from-end.ensures (starts-more c.args.sizes.now c.loop-size.starts.items c.loop-size.size-index c.loop-size.end
      c.loop-size-test.true c.loop-size.invariant.count c.loop-size.invariant.end_is c.loop-size.invariant.at k b));
}
