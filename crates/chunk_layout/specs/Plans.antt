-- What a block of one layout is made of: the parts that the blocks of another layout have of it, in row-major order.
use Rattle.std.specs.Prelude.{ℕ, suc, ◌+◌, ◌-◌, cond, nat_lt, min, max, List, [], ◌∷◌, map, take, get_or}
use Rattle.std.specs.List.{flat_map}
use Rattle.nd_shape.specs.declared.region.Piece.{Piece}
use Rattle.nd_shape.specs.Region.{Box}
use Rattle.nd_shape.specs.Index.{place, index_at}
use Rattle.nd_shape.specs.Chunk.{total}
use Rattle.chunk_layout.specs.Layouts.{counts}

-- the part of a chunk that lies in a chunk of another cut of the axis: where it begins in the one and in the other
pub record Overlap : Type 0 where
  pub chunk : ℕ
  pub from : ℕ
  pub to : ℕ
  pub len : ℕ

-- from the later to the earlier end, where that leaves something
abbrev pub with_overlap : ℕ → ℕ → ℕ → ℕ → ℕ → List Overlap → List Overlap
with_overlap k at low a b more = cond (nat_lt a b) (record { chunk = k; from = a - at; to = a - low; len = b - a } ∷ more) more

-- the parts of the chunks from number k on, which begins at `at`, in the range from `low` to `high`
abbrev pub overlaps_from : ℕ → ℕ → ℕ → ℕ → List ℕ → List Overlap
overlaps_from k at low high [] = []
overlaps_from k at low high (s ∷ ss) = with_overlap k at low (max low at) (min high (at + s)) (overlaps_from (suc k) (at + s) low high ss)

abbrev pub overlaps : List ℕ → List ℕ → ℕ → List Overlap
overlaps from to b = overlaps_from 0 0 (total (take b to)) (total (take b to) + get_or to b 0) from

abbrev pub overlaps_at : List (List ℕ) → List (List ℕ) → List ℕ → List (List Overlap)
overlaps_at [] to bs = []
overlaps_at (xs ∷ from) [] bs = []
overlaps_at (xs ∷ from) (ys ∷ to) [] = []
overlaps_at (xs ∷ from) (ys ∷ to) (b ∷ bs) = overlaps xs ys b ∷ overlaps_at from to bs

-- one member of each list, in row-major order
abbrev pub tuples : {A : Type 0} → List (List A) → List (List A)
tuples [] = [] ∷ []
tuples (xs ∷ xss) = flat_map (λ x. map (λ t. x ∷ t) (tuples xss)) xs

abbrev pub chunks_in : List Overlap → List ℕ
chunks_in os = map (λ (o : Overlap). o.chunk) os

abbrev pub from_box : List Overlap → Box
from_box os = record { start = map (λ (o : Overlap). o.from) os; lengths = map (λ (o : Overlap). o.len) os }

abbrev pub to_box : List Overlap → Box
to_box os = record { start = map (λ (o : Overlap). o.to) os; lengths = map (λ (o : Overlap). o.len) os }

abbrev pub piece : ℕ → List Overlap → Piece
piece source os = record { source = source; from = from_box os; to = to_box os }

-- the parts of the block of `to` with these numbers of chunks, each by its place on each axis
abbrev pub parts : List (List ℕ) → List (List ℕ) → List ℕ → List (List Overlap)
parts from to bs = tuples (overlaps_at from to bs)

-- the pieces of block c of `to`; each source is a block's number in `from`
abbrev pub plan : List (List ℕ) → List (List ℕ) → ℕ → List Piece
plan from to c = map (λ os. piece (place (counts from) (chunks_in os)) os) (parts from to (index_at (counts to) c))
