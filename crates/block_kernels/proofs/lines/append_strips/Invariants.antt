use Rattle.std.proofs.Common.{◌≡◌, ◌≤◌, ◌-◌, ◌*◌, length}
use Rattle.block_kernels.specs.Rows.{FillsAll}
use Rattle.block_kernels.proofs.lines.append_strips.Given as goal

abbrev pub invariant-loop-row : goal.invariant-loop-row
invariant-loop-row g l = record {
  within : l.row ≤ l.rows;
  size : length l.cells.items ≡ l.row * l.run;
  filled : FillsAll (g.F.Lines.grid l.formula) (l.row * l.run) l.cells.items;
}

abbrev pub decreases-loop-row : goal.decreases-loop-row
decreases-loop-row g l = l.rows - l.row
