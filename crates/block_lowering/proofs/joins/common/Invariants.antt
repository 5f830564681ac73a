use Rattle.block_lowering.proofs.JoinedSteps.{CommonTo}
use Rattle.block_lowering.proofs.joins.common.Given as goal

abbrev pub invariant-loop-k : goal.invariant-loop-k
invariant-loop-k l = CommonTo l.sources l.axis l.k l.axes.items
