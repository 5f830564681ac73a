use Rattle.std.proofs.Common.{ℕ, ◌<◌, get_or}
use Rattle.chunk_layout.specs.Layouts.{counts}
use Rattle.block_lowering.proofs.sources.are_inside.Given as goal

abbrev pub invariant-loop-axis : goal.invariant-loop-axis
invariant-loop-axis l = (k : ℕ) → k < l.axis → get_or l.numbers k 0 < get_or (counts l.axes) k 0
