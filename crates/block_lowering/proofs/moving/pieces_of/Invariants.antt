use Rattle.std.proofs.Common.{◌≡◌, ◌++◌, drop}
use Rattle.chunk_layout.specs.Slices.{pieces_of}
use Rattle.block_lowering.proofs.moving.pieces_of.Given as goal

abbrev pub invariant-loop-axis : goal.invariant-loop-axis
invariant-loop-axis l = l.pieces.items ++ pieces_of (drop l.axis l.axes) (drop l.axis l.steps) ≡ pieces_of l.axes l.steps
