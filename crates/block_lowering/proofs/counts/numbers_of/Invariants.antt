use Rattle.std.proofs.Common.{◌≡◌, ◌≤◌, ◌<◌, ◌++◌, take, drop, length}
use Rattle.nd_shape.specs.Shape.{elements}
use Rattle.nd_shape.specs.Index.{index_at}
use Rattle.block_lowering.proofs.counts.numbers_of.Given as goal

abbrev pub invariant-loop-axis : goal.invariant-loop-axis
invariant-loop-axis l = record {
  there : l.axis ≤ length l.counts;
  inside : l.left < elements (take l.axis l.counts);
  value : index_at (take l.axis l.counts) l.left ++ drop l.axis l.numbers ≡ index_at l.counts l.place;
}

abbrev pub decreases-loop-axis : goal.decreases-loop-axis
decreases-loop-axis l = l.axis
