use Rattle.std.proofs.Common.{◌≡◌, length}
use Rattle.block_kernels.specs.Reducing.{TakesRows}
use Rattle.block_kernels.proofs.reduce.fold_rows.Given as goal

abbrev pub invariant-loop-row : goal.invariant-loop-row
invariant-loop-row g l = record {
  room : length l.totals ≡ length l.initial.totals;
  taken : TakesRows (g.F.Folding.fold l.folding) l.place l.cells l.from l.row l.count l.initial.totals l.totals;
}
