use Rattle.std.proofs.Common.{arith, sym, ap, ◌∙◌, ◌+◌, get_or}
use Rattle.nd_shape.proofs.Totals.{total-more}
use Rattle.nd_shape.proofs.chunk.sum_of.Goals as goal

pub loop-size-preserved : goal.loop-size-preserved
loop-size-preserved c = record {
  sum = ap (λ x. c.loop-size.sum + x) c.from-sum.ensures ∙ ap (λ x. x + get_or c.args.sizes.now c.loop-size.size-index 0) c.loop-size.invariant.sum ∙ sym (total-more c.args.sizes.now c.loop-size.size-index c.loop-size-test.true);
  bound = omega (arith, c.type_inv.sizes c.loop-size.size-index);
}
