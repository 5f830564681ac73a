use Rattle.std.proofs.Common.{◌≡◌, length}
use Rattle.block_kernels.specs.Contracting.{AddsProducts}
use Rattle.block_kernels.proofs.contract.add_products.Given as goal

abbrev pub invariant-loop-p : goal.invariant-loop-p
invariant-loop-p l = record {
  room : length l.sums ≡ length l.initial.sums;
  added : AddsProducts l.place l.left l.first l.right l.p l.count l.initial.sums l.sums;
}
