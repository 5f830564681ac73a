use Rattle.std.proofs.Common.{◌≡◌, ◌≤◌, ◌+◌, length, drop}
use Rattle.nd_grid.specs.Grid.{kept_shape}
use Rattle.plain_eval.proofs.weaving.kept_count.Given as goal

abbrev pub invariant-loop-axis : goal.invariant-loop-axis
invariant-loop-axis l = record {
  few : l.count ≤ l.axis;
  count : l.count + length (kept_shape l.axis (drop l.axis l.dims) l.axes) ≡ length (kept_shape 0 l.dims l.axes);
}
