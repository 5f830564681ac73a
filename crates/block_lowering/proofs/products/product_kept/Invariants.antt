use Rattle.std.proofs.Common.{◌≡◌, ◌≤◌, ◌+◌, drop, length}
use Rattle.lowering_laws.specs.Stages.{kept_axes}
use Rattle.block_lowering.proofs.products.product_kept.Given as goal

abbrev pub invariant-loop-axis : goal.invariant-loop-axis
invariant-loop-axis l = record {
  small : l.count ≤ l.axis;
  counted : l.count + length (kept_axes l.axis (drop l.axis l.axes) l.listed) ≡ length (kept_axes 0 l.axes l.listed);
}
