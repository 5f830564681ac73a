use Rattle.std.proofs.Common.{◌≡◌, ◌++◌, drop}
use Rattle.nd_grid.specs.Grid.{folded_shape}
use Rattle.block_kernels.proofs.reduce.folded_dims.Given as goal

abbrev pub invariant-loop-axis : goal.invariant-loop-axis
invariant-loop-axis l = l.lengths.items ++ folded_shape l.axis (drop l.axis l.dims) l.axes ≡ folded_shape 0 l.dims l.axes
