use Rattle.std.proofs.Common.{◌≡◌, ◌≤◌, ◌++◌, drop}
use Rattle.lowering_laws.specs.Stages.{pieces_at, chunks_taken, steps_taken}
use Rattle.block_lowering.proofs.moving.pieces_of_block.Given as goal

abbrev pub invariant-loop-axis : goal.invariant-loop-axis
invariant-loop-axis l = record {
  used : l.used ≤ l.axis;
  numbers_are : l.numbers.items ++ chunks_taken (pieces_at l.axis (drop l.axis l.pieces) l.dropped (drop l.used l.block)) ≡ chunks_taken (pieces_at 0 l.pieces l.dropped l.block);
  steps_are : l.steps.items ++ steps_taken (pieces_at l.axis (drop l.axis l.pieces) l.dropped (drop l.used l.block)) ≡ steps_taken (pieces_at 0 l.pieces l.dropped l.block);
}
