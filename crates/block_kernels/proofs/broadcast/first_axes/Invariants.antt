use Rattle.std.proofs.Common.{◌≤◌, length}
use Rattle.block_kernels.proofs.broadcast.first_axes.Given as goal

abbrev pub invariant-loop-axes : goal.invariant-loop-axes
invariant-loop-axes l = l.axes ≤ length l.shape

abbrev pub decreases-loop-axes : goal.decreases-loop-axes
decreases-loop-axes l = l.axes
