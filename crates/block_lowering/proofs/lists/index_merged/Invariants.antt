use Rattle.std.proofs.Common.{◌≡◌, ◌≤◌, ◌++◌, drop}
use Rattle.nd_grid.specs.Grid.{merged}
use Rattle.block_lowering.proofs.lists.index_merged.Given as goal

abbrev pub invariant-loop-axis : goal.invariant-loop-axis
invariant-loop-axis l = record {
  used : l.used ≤ l.axis;
  spent : l.spent ≤ l.axis;
  value : l.own.items ++ merged l.axis (drop l.axis l.counts) l.axes (drop l.used l.kept) (drop l.spent l.folded) ≡ merged 0 l.counts l.axes l.kept l.folded;
}
