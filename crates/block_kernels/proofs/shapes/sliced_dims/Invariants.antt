use Rattle.std.proofs.Common.{◌≡◌, ◌++◌, drop}
use Rattle.nd_grid.specs.Grid.{sliced_shape}
use Rattle.block_kernels.proofs.shapes.sliced_dims.Given as goal

abbrev pub invariant-loop-axis : goal.invariant-loop-axis
invariant-loop-axis l = l.dims.items ++ sliced_shape l.axis (drop l.axis l.taken) l.gone ≡ sliced_shape 0 l.taken l.gone
