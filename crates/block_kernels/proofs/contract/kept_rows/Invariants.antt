use Rattle.std.proofs.Common.{◌≡◌, ℕ, ◌<◌, ◌/◌, ◌%◌, length, get_or, pos, Some}
use Rattle.nd_shape.specs.Shape.{elements}
use Rattle.block_kernels.specs.Contracting.{woven_at}
use Rattle.block_kernels.proofs.contract.kept_rows.Given as goal

abbrev pub invariant-loop-x : goal.invariant-loop-x
invariant-loop-x l = record {
  size : length l.cells.items ≡ l.x;
  at : (y : ℕ) → y < l.x → Some (get_or l.cells.items y (pos 0)) ≡ woven_at l.axes l.block l.kept l.paired (y / elements l.paired) (y % elements l.paired);
}
