use Rattle.std.proofs.Common.{◌≡◌, map}
use Rattle.std.specs.List.{range_with_len}
use Rattle.nd_shape.specs.Index.{index_at}
use Rattle.nd_grid.specs.Operation.{folded}
use Rattle.nd_grid.specs.Grid.{merged, folded_shape}
use Rattle.array_expr.specs.Elem.{array_at}
use Rattle.plain_eval.proofs.picking.reduced_element.Given as goal

abbrev pub invariant-loop-place : goal.invariant-loop-place
invariant-loop-place l = folded l.fold (map (λ p. (array_at l.known l.of).at (merged 0 (array_at l.known l.of).shape l.axes l.index (index_at (folded_shape 0 (array_at l.known l.of).shape l.axes) p))) (range_with_len 0 l.place)) ≡ l.total
