use Rattle.std.proofs.Common.{◌≡◌, map, take, get_or}
use Rattle.array_expr.proofs.axes.dims_on.Given as goal

abbrev pub invariant-loop-axis : goal.invariant-loop-axis
invariant-loop-axis l = l.on.items ≡ map (λ a. get_or l.dims a 0) (take l.axis-index l.axes)
