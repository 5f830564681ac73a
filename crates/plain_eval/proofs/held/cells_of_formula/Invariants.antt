use Rattle.std.proofs.Common.{◌≡◌, length, map}
use Rattle.std.specs.List.{range_with_len}
use Rattle.nd_shape.specs.Index.{index_at}
use Rattle.plain_eval.proofs.held.cells_of_formula.Given as goal

abbrev pub invariant-loop-position : goal.invariant-loop-position
invariant-loop-position g l = record {
  axes : length l.index ≡ length l.shape;
  cells : l.cells.items ≡ map (λ p. (g.F.Formula.grid l.formula).at (index_at l.shape p)) (range_with_len 0 l.position);
}
