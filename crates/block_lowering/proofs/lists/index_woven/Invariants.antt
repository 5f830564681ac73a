use Rattle.std.proofs.Common.{◌≡◌, ◌≤◌, ◌++◌, drop}
use Rattle.nd_grid.specs.Grid.{woven}
use Rattle.block_lowering.proofs.lists.index_woven.Given as goal

abbrev pub invariant-loop-axis : goal.invariant-loop-axis
invariant-loop-axis l = record {
  used : l.used ≤ l.axis;
  value : l.own.items ++ woven l.axis (drop l.axis l.counts) l.axes (drop l.used l.kept) l.rest ≡ woven 0 l.counts l.axes l.kept l.rest;
}
