use Rattle.std.proofs.Common.{◌≡◌, length}
use Rattle.nd_grid.specs.Grid.{under}
use Rattle.nd_grid.proofs.Written.{IsWritten}
use Rattle.nd_grid.proofs.element.index_under.Given as goal

abbrev pub invariant-loop-axis : goal.invariant-loop-axis
invariant-loop-axis l = record { room : length l.own ≡ length l.dims; written : IsWritten l.own (under l.dims l.index) l.axis }
