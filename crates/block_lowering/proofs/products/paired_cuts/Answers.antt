use Rattle.std.proofs.Common.{arith}
use Rattle.block_lowering.proofs.FoldedNumbers.{paired-all}
use Rattle.block_lowering.proofs.products.paired_cuts.Goals as goal

pub returns : goal.returns
returns c = paired-all c.args.left.now c.args.right.now c.args.left_axes.now c.args.right_axes.now c.loop-k.pairs.items _ c.loop-k.k (omega arith) c.loop-k.invariant
