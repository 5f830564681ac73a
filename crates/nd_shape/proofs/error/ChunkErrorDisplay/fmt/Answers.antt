use Rattle.std.proofs.Common.{append_assoc}
use Rattle.nd_shape.proofs.error.ChunkErrorDisplay.fmt.Goals as goal

pub returns-in-AxisCount-clause-writes : goal.returns-in-AxisCount-clause-writes
returns-in-AxisCount-clause-writes g c = rw c.in-AxisCount.is (λ plain ok. simp append_assoc (c.write.ensures.writes plain ok))
