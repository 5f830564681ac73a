use Rattle.std.proofs.Common.{◌≡◌, map, get_or}
use Rattle.std.specs.List.{range_with_len}
use Rattle.nd_shape.specs.Index.{index_at}
use Rattle.nd_grid.specs.declared.operation.Fold.TheVariants.{Sum}
use Rattle.nd_grid.specs.Operation.{folded}
use Rattle.array_expr.specs.Elem.{array_at}
use Rattle.plain_eval.specs.Fits.{product_at}
use Rattle.plain_eval.proofs.contraction.contracted_element.Given as goal

abbrev pub invariant-loop-place : goal.invariant-loop-place
invariant-loop-place l = folded Sum (map (λ p. product_at l.left_axes l.right_axes (array_at l.known l.left) (array_at l.known l.right) l.index (index_at (map (λ a. get_or (array_at l.known l.left).shape a 0) l.left_axes) p)) (range_with_len 0 l.place)) ≡ l.total
