use Rattle.std.proofs.Common.{◌≡◌, length}
use Rattle.block_kernels.specs.Contracting.{AddsRow}
use Rattle.block_kernels.proofs.contract.add_row.Given as goal

abbrev pub invariant-loop-j : goal.invariant-loop-j
invariant-loop-j l = record {
  room : length l.sums ≡ length l.initial.sums;
  added : AddsRow l.place l.factor l.cells l.from l.j l.initial.sums l.sums;
}
