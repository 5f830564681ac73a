use Rattle.std.proofs.Common.{◌≡◌, ◌++◌, drop}
use Rattle.chunk_layout.specs.Layouts.{lengths_at}
use Rattle.block_lowering.proofs.parts.lengths_of.Given as goal

abbrev pub invariant-loop-axis : goal.invariant-loop-axis
invariant-loop-axis l = l.dims.items ++ lengths_at (drop l.axis l.axes) (drop l.axis l.numbers) ≡ lengths_at l.axes l.numbers
