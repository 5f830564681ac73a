use Rattle.std.proofs.Common.{◌≡◌, length}
use Rattle.array_expr.specs.Node.{TakesFirst}
use Rattle.array_expr.proofs.slicing.resolved.Given as goal

abbrev pub invariant-loop-axis : goal.invariant-loop-axis
invariant-loop-axis l = record { count : length l.taken.items ≡ l.axis; first : TakesFirst l.dims l.parts l.taken.items }
