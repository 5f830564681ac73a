use Rattle.std.proofs.Common.{◌≡◌, ◌≤◌, ◌<◌, ◌++◌, take, drop, length}
use Rattle.nd_shape.specs.Index.{index_at}
use Rattle.chunk_layout.specs.Layouts.{counts, blocks}
use Rattle.chunk_layout.proofs.layout.numbers_at.Given as goal

abbrev pub invariant-loop-axis : goal.invariant-loop-axis
invariant-loop-axis l = record {
  there : l.axis ≤ length l.axes;
  inside : l.left < blocks (take l.axis l.axes);
  value : index_at (counts (take l.axis l.axes)) l.left ++ drop l.axis l.numbers ≡ index_at (counts l.axes) l.block;
}

abbrev pub decreases-loop-axis : goal.decreases-loop-axis
decreases-loop-axis l = l.axis
