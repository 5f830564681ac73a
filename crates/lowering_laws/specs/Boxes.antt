-- Folds over all indexes of a box, in row-major order.
use Rattle.std.specs.Prelude.{ℕ, ℤ, List, map, Option}
use Rattle.std.specs.List.{range_with_len}
use Rattle.nd_shape.specs.Shape.{elements}
use Rattle.nd_shape.specs.Index.{index_at}
use Rattle.nd_grid.specs.declared.operation.Fold.{Fold}
use Rattle.nd_grid.specs.Operation.{folded}

abbrev pub fold_below : Fold → ℕ → (ℕ → Option ℤ) → Option ℤ
fold_below fold n f = folded fold (map f (range_with_len 0 n))

abbrev pub fold_box : Fold → List ℕ → (List ℕ → Option ℤ) → Option ℤ
fold_box fold ns f = fold_below fold (elements ns) (λ p. f (index_at ns p))
