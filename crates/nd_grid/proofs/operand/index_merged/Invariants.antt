use Rattle.std.proofs.Common.{◌≡◌, ◌≤◌, length, take}
use Rattle.nd_grid.specs.Grid.{merged}
use Rattle.nd_grid.proofs.Merging.{Merging}
use Rattle.nd_grid.proofs.operand.index_merged.Given as goal

abbrev pub invariant-loop-axis : goal.invariant-loop-axis
invariant-loop-axis l = record {
  used : l.used ≤ l.axis;
  spent : l.spent ≤ l.axis;
  room : length l.own ≡ length l.dims;
  merging : Merging l.dims l.axes l.kept l.folded (take l.axis l.own) (merged 0 l.dims l.axes l.kept l.folded) l.axis l.used l.spent;
}
