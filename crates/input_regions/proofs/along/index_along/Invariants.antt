use Rattle.std.proofs.Common.{◌≡◌, ◌≤◌, ◌++◌, drop}
use Rattle.nd_shape.specs.Index.{IsIn}
use Rattle.nd_grid.specs.Grid.{kept_shape}
use Rattle.input_regions.specs.Widening.{end_along}
use Rattle.input_regions.proofs.along.index_along.Given as goal

abbrev pub invariant-loop-axis : goal.invariant-loop-axis
invariant-loop-axis l = record {
  small : l.used ≤ l.axis;
  inside : IsIn (kept_shape l.axis (drop l.axis l.dims) l.axes) (drop l.used l.kept);
  value : l.index.items ++ end_along l.axis (drop l.axis l.dims) l.axes (drop l.used l.kept) l.last ≡ end_along 0 l.dims l.axes l.kept l.last;
}
