-- The chunks of an axis, or the first of very many and one chunk of the rest.
use Rattle.std.specs.Prelude.{◌≡◌, ℕ, ◌-◌, ◌*◌, ◌<◌, ◌⊎◌, List, [], ◌∷◌, ◌++◌, replicate}
use Rattle.nd_shape.specs.declared.chunk.ChunkSpec.{ChunkSpec}
use Rattle.nd_shape.specs.declared.chunk.ChunkSpec.TheVariants.{Even}
use Rattle.nd_shape.specs.Chunk.{chunks_of}

-- 32,768 chunks of a size, and the rest: a number of its own, since `replicate` of a numeral would be computed
pub record IsShortened (len size : ℕ) (sizes : List ℕ) : Type 0 where
  pub count : ℕ
  pub count_is : count ≡ 32768
  pub more : count * size < len
  pub sizes_are : sizes ≡ replicate count size ++ (len - count * size) ∷ []

-- a cut that was cut short, of an axis of many equal chunks
pub record IsCutShort (len : ℕ) (spec : ChunkSpec) (sizes : List ℕ) : Type 0 where
  pub size : ℕ
  pub even : spec ≡ Even size
  pub some : 0 < size
  pub short : IsShortened len size sizes

abbrev pub IsShort : ℕ → ChunkSpec → List ℕ → Type 0
IsShort len spec sizes = (sizes ≡ chunks_of len spec) ⊎ IsCutShort len spec sizes
