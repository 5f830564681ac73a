-- Layouts: for each axis the sizes of its chunks, in the words of Dask's page on chunks. Blocks are numbered in row-major
-- order.
use Rattle.std.specs.Prelude.{ℕ, ◌+◌, ◌-◌, cond, nat_lt, List, [], ◌∷◌, length, map, take, get_or}
use Rattle.nd_shape.specs.declared.chunk.ChunkSpec.{ChunkSpec}
use Rattle.nd_shape.specs.Shape.{elements}
use Rattle.nd_shape.specs.Index.{place, index_at}
use Rattle.nd_shape.specs.Region.{Box}
use Rattle.nd_shape.specs.Chunk.{total, chunks_of}

-- the layout of a shape whose axes are cut by these specifications
abbrev pub normalized : List ℕ → List ChunkSpec → List (List ℕ)
normalized [] specs = []
normalized (n ∷ ns) [] = []
normalized (n ∷ ns) (s ∷ specs) = chunks_of n s ∷ normalized ns specs

-- the number of chunks on each axis, and the lengths of the axes
abbrev pub counts : List (List ℕ) → List ℕ
counts layout = map (λ (sizes : List ℕ). length sizes) layout

abbrev pub lengths : List (List ℕ) → List ℕ
lengths layout = map (λ (sizes : List ℕ). total sizes) layout

-- the number of blocks
abbrev pub blocks : List (List ℕ) → ℕ
blocks layout = elements (counts layout)

-- the first index and the lengths of the block with these numbers of chunks
abbrev pub starts_at : List (List ℕ) → List ℕ → List ℕ
starts_at [] bs = []
starts_at (sizes ∷ layout) [] = []
starts_at (sizes ∷ layout) (b ∷ bs) = total (take b sizes) ∷ starts_at layout bs

abbrev pub lengths_at : List (List ℕ) → List ℕ → List ℕ
lengths_at [] bs = []
lengths_at (sizes ∷ layout) [] = []
lengths_at (sizes ∷ layout) (b ∷ bs) = get_or sizes b 0 ∷ lengths_at layout bs

abbrev pub box_at : List (List ℕ) → List ℕ → Box
box_at layout bs = record { start = starts_at layout bs; lengths = lengths_at layout bs }

-- the box of block c
abbrev pub region : List (List ℕ) → ℕ → Box
region layout c = box_at layout (index_at (counts layout) c)

-- the chunk in which an index of an axis lies
abbrev pub chunk_of : List ℕ → ℕ → ℕ
chunk_of [] i = 0
chunk_of (s ∷ ss) i = cond (nat_lt i s) 0 (1 + chunk_of ss (i - s))

abbrev pub chunks_at : List (List ℕ) → List ℕ → List ℕ
chunks_at [] is = []
chunks_at (ss ∷ layout) [] = []
chunks_at (ss ∷ layout) (i ∷ is) = chunk_of ss i ∷ chunks_at layout is

-- the block in which an index lies
abbrev pub block_of : List (List ℕ) → List ℕ → ℕ
block_of layout is = place (counts layout) (chunks_at layout is)
