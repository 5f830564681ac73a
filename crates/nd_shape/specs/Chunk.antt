-- How an axis is cut into chunks, in the words of Dask's page on chunks.
use Rattle.std.specs.Prelude.{◌≡◌, ◌≢◌, ℕ, zero, suc, ◌+◌, ◌/◌, ◌%◌, ◌⊎◌, cond, nat_eq, List, [], ◌∷◌, ◌++◌, replicate, All, Contains}
use Rattle.nd_shape.specs.declared.chunk.ChunkSpec.{ChunkSpec}
use Rattle.nd_shape.specs.declared.chunk.ChunkSpec.TheVariants.{Even, List as Listed}
use Rattle.nd_shape.specs.declared.error.ChunkError.{ChunkError}
use Rattle.nd_shape.specs.declared.error.ChunkError.TheVariants.{AxisCount, SumDiffers, ZeroChunk, OutOfMemory}

-- the sum of the sizes
abbrev pub total : List ℕ → ℕ
total [] = 0
total (n ∷ ns) = n + total ns

-- chunks of a size, and a smaller last one
abbrev pub even_chunks : ℕ → ℕ → List ℕ
even_chunks len size = replicate (len / size) size ++ cond (nat_eq (len % size) 0) [] (len % size ∷ [])

-- the sizes along an axis; an axis of length 0 has the one chunk 0
abbrev pub chunks_of : ℕ → ChunkSpec → List ℕ
chunks_of zero spec = 0 ∷ []
chunks_of (suc n) (Even size) = even_chunks (suc n) size
chunks_of (suc n) (Listed sizes) = sizes

-- there is a chunk of 0 that is refused: for an axis of length 0 any number is taken, and the list (0)
abbrev pub HasZeroChunk : ℕ → ChunkSpec → Type 0
HasZeroChunk zero (Even size) = ⊥
HasZeroChunk (suc n) (Even size) = size ≡ 0
HasZeroChunk zero (Listed sizes) = (sizes ≢ 0 ∷ []) × ((sizes ≡ []) ⊎ Contains sizes 0)
HasZeroChunk (suc n) (Listed sizes) = Contains sizes 0

-- the axis can be cut so
abbrev pub CanCut : ℕ → ChunkSpec → Type 0
CanCut zero (Even size) = Unit {0}
CanCut (suc n) (Even size) = size ≢ 0
CanCut zero (Listed sizes) = sizes ≡ 0 ∷ []
CanCut (suc n) (Listed sizes) = All (λ size. size ≢ 0) sizes × (total sizes ≡ suc n)

-- why an axis isn't cut so: a chunk of 0 comes before a wrong sum
abbrev pub RefusesChunks : ℕ → ℕ → ChunkSpec → ChunkError → Type 0
RefusesChunks axis len spec (ZeroChunk a) = (a ≡ axis) × HasZeroChunk len spec
RefusesChunks axis len (Listed sizes) (SumDiffers a sum n) = (a ≡ axis) × (sum ≡ total sizes) × (n ≡ len) × (total sizes ≢ len) × All (λ size. size ≢ 0) sizes
RefusesChunks axis len (Even size) (SumDiffers a sum n) = ⊥
RefusesChunks axis len spec (AxisCount given axes) = ⊥
RefusesChunks axis len spec OutOfMemory = Unit {0}
