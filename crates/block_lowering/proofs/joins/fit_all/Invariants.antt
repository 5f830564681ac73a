use Rattle.std.proofs.Common.{ℕ, List}
use Rattle.block_lowering.specs.Args.{AreCommon}
use Rattle.block_lowering.proofs.JoinedFits.{FittedTo}
use Rattle.block_lowering.proofs.joins.fit_all.Given as goal

abbrev pub invariant-loop-source : goal.invariant-loop-source
invariant-loop-source l = (common : List (List ℕ)) → AreCommon common l.axis l.axes → FittedTo common l.axis l.sources l.initial.graph l.graph l.fitted.items l.source-index
