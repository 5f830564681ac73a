use Rattle.std.proofs.Common.{◌≡◌, ◌≤◌, length, take}
use Rattle.nd_grid.specs.Grid.{woven}
use Rattle.nd_grid.proofs.Woven.{Weaving}
use Rattle.nd_grid.proofs.operand.index_woven.Given as goal

abbrev pub invariant-loop-axis : goal.invariant-loop-axis
invariant-loop-axis l = record {
  used : l.used ≤ l.axis;
  room : length l.own ≡ length l.dims;
  weaving : Weaving l.dims l.axes l.kept l.rest (take l.axis l.own) (woven 0 l.dims l.axes l.kept l.rest) l.axis l.used;
}
