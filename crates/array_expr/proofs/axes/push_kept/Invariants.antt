use Rattle.std.proofs.Common.{◌≡◌, ◌++◌, drop}
use Rattle.nd_grid.specs.Grid.{kept_shape}
use Rattle.array_expr.proofs.axes.push_kept.Given as goal

abbrev pub invariant-loop-axis : goal.invariant-loop-axis
invariant-loop-axis l = l.kept.items ++ kept_shape l.axis (drop l.axis l.dims) l.axes ≡ l.initial.kept.items ++ kept_shape 0 l.dims l.axes
