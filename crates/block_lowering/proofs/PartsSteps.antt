-- Steps of the loops over a block's axes, and over blocks' bytes.
use Rattle.std.proofs.Common.{◌≡◌, ℕ, ◌+◌, ◌<◌, ◌≤◌, min, List, [], ◌∷◌, length, map, get_or, take, drop, refl, ap, ◌∙◌, arith, inl, inr}
use Rattle.std.proofs.lemmas.Bool.{cases_lt}
use Rattle.std.proofs.lemmas.List.{drop_all, map_more}
use Rattle.nd_shape.specs.Chunk.{total}
use Rattle.nd_shape.proofs.Totals.{total-push}
use Rattle.chunk_layout.specs.Layouts.{lengths_at}
use Rattle.task_graph.specs.Graphs.{bytes}

lengths-none : (layout : List (List ℕ)) → lengths_at layout [] ≡ []
lengths-none [] = refl
lengths-none (sizes ∷ layout) = refl

-- behind the shorter list there are none
pub lengths-end : (layout : List (List ℕ)) (bs : List ℕ) (k : ℕ) → min (length layout) (length bs) ≤ k → lengths_at (drop k layout) (drop k bs) ≡ []
lengths-end layout bs k h = elim (cases_lt k (length layout)) [
  | inl l ↦ ap (lengths_at (drop k layout)) (drop_all k bs (omega arith)) ∙ lengths-none (drop k layout)
  | inr g ↦ ap (λ xs. lengths_at xs (drop k bs)) (drop_all k layout g)
]

pub bytes-more : (shapes : List (List ℕ)) (k : ℕ) → k < length shapes → total (map bytes (take (k + 1) shapes)) ≡ total (map bytes (take k shapes)) + bytes (get_or shapes k [])
bytes-more shapes k h = ap total (map_more bytes shapes k [] h) ∙ total-push (map bytes (take k shapes)) (bytes (get_or shapes k []))
