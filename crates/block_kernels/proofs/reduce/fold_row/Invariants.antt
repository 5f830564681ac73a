use Rattle.std.proofs.Common.{◌≡◌, length}
use Rattle.block_kernels.specs.Reducing.{TakesRow}
use Rattle.block_kernels.proofs.reduce.fold_row.Given as goal

abbrev pub invariant-loop-i : goal.invariant-loop-i
invariant-loop-i g l = record {
  room : length l.totals ≡ length l.initial.totals;
  taken : TakesRow (g.F.Folding.fold l.folding) l.place l.cells l.from l.i l.initial.totals l.totals;
}
