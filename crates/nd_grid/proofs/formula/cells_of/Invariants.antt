use Rattle.std.proofs.Common.{◌≡◌, length, Ok}
use Rattle.nd_shape.specs.Index.{index_at}
use Rattle.nd_grid.specs.Grid.{cells_up_to}
use Rattle.nd_grid.proofs.formula.cells_of.Given as goal

abbrev pub invariant-loop-position : goal.invariant-loop-position
invariant-loop-position g l = record {
  axes : length l.index ≡ length l.shape;
  cells : cells_up_to (λ p. (g.F.Formula.grid l.formula).at (index_at l.shape p)) l.position ≡ Ok l.cells.items;
}
