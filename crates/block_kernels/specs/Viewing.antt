-- A block seen as `outer` parts of `folded` rows of `inner` elements, where the axes that are folded lie side by side.
use Rattle.std.specs.Prelude.{◌≡◌, ℕ, ◌+◌, ◌*◌, ◌<◌, Bool, true, false, List, map, slice_index_or, ℤ, pos, Some}
use Rattle.std.specs.List.{range_with_len}
use Rattle.nd_shape.specs.Shape.{elements}
use Rattle.nd_shape.specs.Index.{place, index_at}
use Rattle.nd_grid.specs.declared.operation.Fold.{Fold}
use Rattle.nd_grid.specs.Operation.{folded_from}
use Rattle.nd_grid.specs.Grid.{kept_shape, folded_shape, merged}

-- from axis k on: where the element lies that a place of the result and a place of the folded axes name
pub record IsView (k : ℕ) (ns axes : List ℕ) (outer folded inner : ℕ) : Type 0 where
  pub kept : elements (kept_shape k ns axes) ≡ outer * inner
  pub folded_is : elements (folded_shape k ns axes) ≡ folded
  pub place_is : (o i q : ℕ) → o < outer → i < inner → q < folded → place ns (merged k ns axes (index_at (kept_shape k ns axes) (o * inner + i)) (index_at (folded_shape k ns axes) q)) ≡ (o * folded + q) * inner + i

-- each total has gone on by its cells, row after row
pub record TakesView (fold : Fold) (cells : List ℤ) (outer rows inner : ℕ) (old new : List ℤ) : Type 0 where
  pub at : (o i : ℕ) → o < outer → i < inner
      → folded_from fold (Some (slice_index_or old (o * inner + i) (pos 0))) (map (λ q. Some (slice_index_or cells ((o * rows + q) * inner + i) (pos 0))) (range_with_len 0 rows)) ≡ Some (slice_index_or new (o * inner + i) (pos 0))

-- one axis more before the axes of a view: it is folded, or it lengthens the rows, or it is one of the outer axes
pub data Extends (gone : Bool) (len outer rows inner outer_now rows_now inner_now : ℕ) : Type 0 where
  folds : gone ≡ true → outer ≡ 1 → outer_now ≡ 1 → rows_now ≡ len * rows → inner_now ≡ inner → Extends gone len outer rows inner outer_now rows_now inner_now
  lengthens : gone ≡ false → outer ≡ 1 → rows ≡ 1 → outer_now ≡ 1 → rows_now ≡ 1 → inner_now ≡ len * inner → Extends gone len outer rows inner outer_now rows_now inner_now
  surrounds : gone ≡ false → outer_now ≡ len * outer → rows_now ≡ rows → inner_now ≡ inner → Extends gone len outer rows inner outer_now rows_now inner_now
