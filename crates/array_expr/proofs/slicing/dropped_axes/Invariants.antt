use Rattle.std.proofs.Common.{◌≡◌, ◌++◌, drop}
use Rattle.array_expr.specs.Node.{dropped_from}
use Rattle.array_expr.proofs.slicing.dropped_axes.Given as goal

abbrev pub invariant-loop-axis : goal.invariant-loop-axis
invariant-loop-axis l = l.axes.items ++ dropped_from l.axis (drop l.axis l.parts) ≡ dropped_from 0 l.parts
