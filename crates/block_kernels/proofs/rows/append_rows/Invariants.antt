use Rattle.std.proofs.Common.{◌≡◌, ◌*◌, length}
use Rattle.block_kernels.specs.Rows.{FillsAll}
use Rattle.block_kernels.proofs.rows.append_rows.Given as goal

abbrev pub invariant-loop-row : goal.invariant-loop-row
invariant-loop-row g l = record {
  size : length l.cells.items ≡ l.row * l.run;
  filled : FillsAll (g.F.Rows.grid l.formula) (l.row * l.run) l.cells.items;
}
