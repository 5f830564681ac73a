use Rattle.std.proofs.Common.{◌≡◌, length}
use Rattle.nd_grid.specs.Grid.{turned}
use Rattle.nd_grid.proofs.Written.{IsWritten}
use Rattle.nd_grid.proofs.operand.index_transposed.Given as goal

abbrev pub invariant-loop-axis : goal.invariant-loop-axis
invariant-loop-axis l = record { room : length l.own ≡ length l.axes; written : IsWritten l.own (turned l.axes l.index) l.axis }
