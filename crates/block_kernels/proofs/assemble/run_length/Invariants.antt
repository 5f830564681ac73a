use Rattle.std.proofs.Common.{◌≤◌, length, drop}
use Rattle.block_kernels.specs.Assembling.{Lies}
use Rattle.block_kernels.proofs.assemble.run_length.Given as goal

abbrev pub invariant-loop-axis : goal.invariant-loop-axis
invariant-loop-axis l = record {
  inside : l.axis ≤ length l.lengths;
  here : Lies (drop l.axis l.shape) (drop l.axis l.starts) (drop l.axis l.lengths) l.run l.whole;
  there : Lies (drop l.axis l.source) (drop l.axis l.origins) (drop l.axis l.lengths) l.run l.whole;
}

abbrev pub decreases-loop-axis : goal.decreases-loop-axis
decreases-loop-axis l = l.axis
