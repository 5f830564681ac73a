use Rattle.chunk_layout.proofs.Crossing.{IsCrossed}
use Rattle.chunk_layout.proofs.plans.crossings.Given as goal

abbrev pub invariant-loop-axis : goal.invariant-loop-axis
invariant-loop-axis l = IsCrossed l.from l.to l.numbers l.axis l.pieces.items
