use Rattle.std.proofs.Common.{arith}
use Rattle.block_lowering.proofs.FoldedNumbers.{kept-more}
use Rattle.block_lowering.proofs.products.product_kept.Goals as goal
use Rattle.block_lowering.proofs.products.product_kept.Goals.{then-not-is_in_list, else-not-is_in_list}

pub loop-axis-preserved : goal.loop-axis-preserved
loop-axis-preserved c =
    let more = kept-more c.args.axes.now c.args.listed.now c.loop-axis.axis c.loop-axis-test.true in
    elim c.if-not-is_in_list.branch [
      | then-not-is_in_list w ↦ record { small = omega arith; counted = grind (arith, more) }
      | else-not-is_in_list w ↦ record { small = omega arith; counted = grind (arith, more) }
    ]
