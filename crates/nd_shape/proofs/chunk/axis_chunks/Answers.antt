use Rattle.nd_shape.proofs.Totals.{total-chunks_of}
use Rattle.nd_shape.proofs.chunk.axis_chunks.Goals as goal

pub returns-clause-sum : goal.returns-clause-sum
returns-clause-sum c = total-chunks_of c.args.len c.args.spec.now c.in_ok-count.ensures.cut
