-- A piece of a plan that is made axis by axis.
use Rattle.std.specs.Prelude.{◌≢◌, ℕ, ◌+◌, ◌*◌, ◌<◌, ◌≤◌, ◌^◌, List, [], ◌∷◌, ◌++◌, length, get_or, map}
use Rattle.nd_shape.specs.declared.region.Piece.{Piece}
use Rattle.nd_shape.specs.Index.{place}
use Rattle.chunk_layout.specs.Layouts.{counts}
use Rattle.chunk_layout.specs.Plans.{Overlap, parts, piece, chunks_in}

-- a piece with its part on one more axis, of which the source has so many chunks
abbrev pub extended : ℕ → Piece → Overlap → Piece
extended n p o = record {
  source = p.source * n + o.chunk;
  from = record { start = p.from.start ++ o.from ∷ []; lengths = p.from.lengths ++ o.len ∷ [] };
  to = record { start = p.to.start ++ o.to ∷ []; lengths = p.to.lengths ++ o.len ∷ [] };
}

-- there is room for so many axes more, and for so many blocks of the source
pub record IsOpen (axes blocks : ℕ) (p : Piece) : Type 0 where
  pub from_room : length p.from.lengths + axes ≤ 8
  pub to_room : length p.to.lengths + axes ≤ 8
  pub numbers : (p.source + 1) * blocks ≤ 2 ^ 31

abbrev pub AllOpen : ℕ → ℕ → List Piece → Type 0
AllOpen axes blocks [] = Unit {0}
AllOpen axes blocks (p ∷ ps) = IsOpen axes blocks p × AllOpen axes blocks ps

-- the block with these numbers of chunks has an element on each axis
abbrev pub HasElements : List (List ℕ) → List ℕ → Type 0
HasElements layout bs = (k : ℕ) → k < length layout → get_or (get_or layout k []) (get_or bs k 0) 0 ≢ 0

-- the pieces of the block of `to` with these numbers of chunks
abbrev pub pieces_at : List (List ℕ) → List (List ℕ) → List ℕ → List Piece
pieces_at from to bs = map (λ os. piece (place (counts from) (chunks_in os)) os) (parts from to bs)
