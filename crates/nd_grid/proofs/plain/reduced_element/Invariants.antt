use Rattle.std.proofs.Common.{◌≡◌, map, Some}
use Rattle.std.specs.List.{range_with_len}
use Rattle.nd_shape.specs.Index.{index_at}
use Rattle.nd_grid.specs.Operation.{folded}
use Rattle.nd_grid.specs.Grid.{grid_of, merged, folded_shape}
use Rattle.nd_grid.proofs.plain.reduced_element.Given as goal

abbrev pub invariant-loop-place : goal.invariant-loop-place
invariant-loop-place l = folded l.fold (map (λ p. (grid_of l.of).at (merged 0 l.of.shape l.axes l.index (index_at (folded_shape 0 l.of.shape l.axes) p))) (range_with_len 0 l.place)) ≡ Some l.total
