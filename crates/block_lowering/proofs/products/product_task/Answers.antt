use Rattle.std.proofs.Common.{arith}
use Rattle.block_lowering.proofs.FoldedNumbers.{few-places}
use Rattle.block_lowering.proofs.products.product_task.Goals as goal

pub overflow_cast-result : goal.overflow_cast-result
overflow_cast-result c = omega (arith, c.place-first.ensures, few-places c.args.uses c.args.left c.requires)

pub overflow_cast-result-2 : goal.overflow_cast-result-2
overflow_cast-result-2 c = omega (arith, c.place-second.ensures, few-places c.args.uses c.args.right c.requires)
