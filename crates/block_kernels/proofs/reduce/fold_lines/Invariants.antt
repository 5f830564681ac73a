use Rattle.std.proofs.Common.{◌≡◌, length}
use Rattle.block_kernels.proofs.Totals.{Parts}
use Rattle.block_kernels.proofs.reduce.fold_lines.Given as goal

abbrev pub invariant-loop-part : goal.invariant-loop-part
invariant-loop-part g l = record {
  room : length l.totals ≡ length l.initial.totals;
  parts : Parts (g.F.Folding.fold l.folding) l.cells l.part l.view.rows l.view.inner l.initial.totals l.totals;
}
