-- Indexes and places. An index is the list of its coordinates, the first axis first, and its place is its number in
-- row-major order: the last coordinate goes fastest.
use Rattle.std.specs.Prelude.{ℕ, ◌+◌, ◌*◌, ◌/◌, ◌%◌, ◌<◌, List, [], ◌∷◌}
use Rattle.nd_shape.specs.Shape.{elements}

-- the index lies in the shape
abbrev pub IsIn : List ℕ → List ℕ → Type 0
IsIn [] [] = Unit {0}
IsIn [] (i ∷ is) = ⊥
IsIn (n ∷ ns) [] = ⊥
IsIn (n ∷ ns) (i ∷ is) = (i < n) × IsIn ns is

-- the place of an index
abbrev pub place : List ℕ → List ℕ → ℕ
place [] is = 0
place (n ∷ ns) [] = 0
place (n ∷ ns) (i ∷ is) = i * elements ns + place ns is

-- the index at a place
abbrev pub index_at : List ℕ → ℕ → List ℕ
index_at [] p = []
index_at (n ∷ ns) p = p / elements ns ∷ index_at ns (p % elements ns)
