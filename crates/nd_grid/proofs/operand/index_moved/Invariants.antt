use Rattle.std.proofs.Common.{◌≡◌, length}
use Rattle.nd_shape.specs.Region.{moved}
use Rattle.nd_grid.proofs.Written.{IsWritten}
use Rattle.nd_grid.proofs.operand.index_moved.Given as goal

abbrev pub invariant-loop-axis : goal.invariant-loop-axis
invariant-loop-axis l = record { room : length l.own ≡ length l.starts; written : IsWritten l.own (moved l.starts l.index) l.axis }
