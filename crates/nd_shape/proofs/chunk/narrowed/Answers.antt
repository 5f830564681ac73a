use Rattle.std.proofs.Common.{arith, ◌≤◌, get_or}
use Rattle.nd_shape.specs.Chunk.{total}
use Rattle.nd_shape.proofs.Totals.{total-ge}
use Rattle.nd_shape.proofs.chunk.narrowed.Goals as goal

pub overflow_cast-size : goal.overflow_cast-size
overflow_cast-size c = let b : get_or c.args.sizes.now c.loop-size.size-index 0 ≤ total c.args.sizes.now = total-ge c.args.sizes.now c.loop-size.size-index c.loop-size-test.true in omega arith
