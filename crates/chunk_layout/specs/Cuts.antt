-- What the sizes of the chunks along an axis are known to be, and their running sums.
use Rattle.std.specs.Prelude.{◌≡◌, ℕ, suc, ◌<◌, ◌≤◌, ◌^◌, ◌⊎◌, List, [], ◌∷◌, length, take, get_or}
use Rattle.nd_shape.specs.Shape.{IsShape}
use Rattle.nd_shape.specs.Chunk.{total}
use Rattle.chunk_layout.specs.Layouts.{lengths}

-- where each chunk begins, and behind the last one the length
pub record AreStarts (sizes starts : List ℕ) : Type 0 where
  pub count : length starts ≡ suc (length sizes)
  pub at : (k : ℕ) → k ≤ length sizes → get_or starts k 0 ≡ total (take k sizes)

-- no chunk is empty
abbrev pub AllSome : List ℕ → Type 0
AllSome [] = Unit {0}
AllSome (s ∷ ss) = (0 < s) × AllSome ss

-- the one chunk 0 of an axis of length 0, or chunks with an element each
pub record IsCut (sizes : List ℕ) : Type 0 where
  pub some : 0 < length sizes
  pub each : (sizes ≡ 0 ∷ []) ⊎ AllSome sizes
  pub small : total sizes ≤ 2 ^ 31

abbrev pub AllCut : List (List ℕ) → Type 0
AllCut [] = Unit {0}
AllCut (sizes ∷ layout) = IsCut sizes × AllCut layout

-- a cut axis with its running sums
pub record IsSummed (sizes starts : List ℕ) : Type 0 where
  pub cut : IsCut sizes
  pub sums : AreStarts sizes starts

-- a layout of an array: it cuts each axis of a shape
pub record IsLayout (layout : List (List ℕ)) : Type 0 where
  pub cuts : AllCut layout
  pub shape : IsShape (lengths layout)
