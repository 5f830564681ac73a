use Rattle.std.proofs.Common.{◌≡◌, ◌++◌, drop}
use Rattle.nd_grid.specs.Grid.{kept_shape}
use Rattle.block_kernels.proofs.reduce.kept_dims.Given as goal

abbrev pub invariant-loop-axis : goal.invariant-loop-axis
invariant-loop-axis l = l.lengths.items ++ kept_shape l.axis (drop l.axis l.dims) l.axes ≡ kept_shape 0 l.dims l.axes
