use Rattle.std.proofs.Common.{take}
use Rattle.array_expr.specs.Axes.{AreAxes}
use Rattle.array_expr.proofs.axes.first_bad_axis.Given as goal

abbrev pub invariant-loop-place : goal.invariant-loop-place
invariant-loop-place l = AreAxes l.count (take l.place l.axes)
