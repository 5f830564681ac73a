use Rattle.std.proofs.Common.{◌-◌, ◌^◌, get_or, refl}
use Rattle.block_lowering.proofs.CountsSteps.{product-step}
use Rattle.block_lowering.proofs.counts.product_of.Goals as goal

pub loop-count-preserved : goal.loop-count-preserved
loop-count-preserved c =
    product-step (2 ^ 64 - 1) c.args.counts.now c.loop-count.count-index c.loop-count.product (get_or c.args.counts.now c.loop-count.count-index 0) c.saturating_mul-product.result c.loop-count-test.true refl c.loop-count.invariant c.saturating_mul-product.ensures
