use Rattle.std.proofs.Common.{◌≡◌, ◌≤◌, length, take}
use Rattle.nd_grid.specs.Grid.{sliced_from}
use Rattle.nd_grid.proofs.Slicing.{Slicing}
use Rattle.nd_grid.proofs.operand.index_sliced.Given as goal

abbrev pub invariant-loop-axis : goal.invariant-loop-axis
invariant-loop-axis l = record {
  used : l.used ≤ l.axis;
  room : length l.own ≡ length l.dims;
  slicing : Slicing l.steps l.dims l.dropped l.index (take l.axis l.own) (sliced_from 0 l.steps l.dropped l.index) l.axis l.used;
}
