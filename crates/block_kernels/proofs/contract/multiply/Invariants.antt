use Rattle.std.proofs.Common.{◌≡◌, length}
use Rattle.block_kernels.proofs.Contracting.{Multiplied}
use Rattle.block_kernels.proofs.contract.multiply.Given as goal

abbrev pub invariant-loop-i : goal.invariant-loop-i
invariant-loop-i l = record {
  room : length l.cells ≡ length l.initial.cells;
  rows : Multiplied l.left l.right l.i l.depth l.count l.cells;
}
