use Rattle.std.proofs.Common.{List, ℕ, ◌++◌, drop}
use Rattle.block_lowering.proofs.Standing.{AllShort}
use Rattle.block_lowering.proofs.layouts.shortened.Given as goal

abbrev pub invariant-loop-axis : goal.invariant-loop-axis
invariant-loop-axis l = (rest : List (List ℕ)) → AllShort (drop l.axis l.dims) (drop l.axis l.specs) rest → AllShort l.dims l.specs (l.axes.items ++ rest)
