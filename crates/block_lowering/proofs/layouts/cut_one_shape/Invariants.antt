use Rattle.std.proofs.Common.{◌≡◌, drop}
use Rattle.chunk_layout.specs.Layouts.{lengths}
use Rattle.block_lowering.proofs.layouts.cut_one_shape.Given as goal

abbrev pub invariant-loop-axis : goal.invariant-loop-axis
invariant-loop-axis l = lengths (drop l.axis l.left) ≡ lengths (drop l.axis l.right) → lengths l.left ≡ lengths l.right
