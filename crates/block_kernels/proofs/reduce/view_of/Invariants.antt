use Rattle.std.proofs.Common.{◌≤◌, length, drop}
use Rattle.block_kernels.specs.Viewing.{IsView}
use Rattle.block_kernels.proofs.reduce.view_of.Given as goal

abbrev pub invariant-loop-axis : goal.invariant-loop-axis
invariant-loop-axis l = record {
  inside : l.axis ≤ length l.dims;
  seen : IsView l.axis (drop l.axis l.dims) l.axes l.view.outer l.view.rows l.view.inner;
}

abbrev pub decreases-loop-axis : goal.decreases-loop-axis
decreases-loop-axis l = l.axis
