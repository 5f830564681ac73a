use Rattle.std.proofs.Common.{◌≡◌, drop}
use Rattle.lowering_laws.specs.Sources.{same_layout}
use Rattle.block_lowering.proofs.layouts.are_same.Given as goal

abbrev pub invariant-loop-axis : goal.invariant-loop-axis
invariant-loop-axis l = same_layout (drop l.axis l.left) (drop l.axis l.right) ≡ same_layout l.left l.right
