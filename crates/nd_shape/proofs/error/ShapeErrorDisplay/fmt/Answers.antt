use Rattle.std.proofs.Common.{append_assoc}
use Rattle.nd_shape.proofs.error.ShapeErrorDisplay.fmt.Goals as goal

pub returns-in-BadIndex-clause-writes : goal.returns-in-BadIndex-clause-writes
returns-in-BadIndex-clause-writes g c = rw c.in-BadIndex.is (λ plain ok. simp append_assoc (c.write-in-BadIndex.ensures.writes plain ok))

pub returns-in-TooManyParts-clause-writes : goal.returns-in-TooManyParts-clause-writes
returns-in-TooManyParts-clause-writes g c = rw c.in-TooManyParts.is (λ plain ok. simp append_assoc (c.write-in-TooManyParts.ensures.writes plain ok))
