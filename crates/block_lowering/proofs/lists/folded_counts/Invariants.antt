use Rattle.std.proofs.Common.{◌≡◌, ◌++◌, drop}
use Rattle.nd_grid.specs.Grid.{folded_shape}
use Rattle.block_lowering.proofs.lists.folded_counts.Given as goal

abbrev pub invariant-loop-axis : goal.invariant-loop-axis
invariant-loop-axis l = l.folded.items ++ folded_shape l.axis (drop l.axis l.counts) l.axes ≡ folded_shape 0 l.counts l.axes
