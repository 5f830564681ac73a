-- Lists of axes, and chunks of each axis.
use Rattle.std.specs.Prelude.{◌≡◌, ◌≢◌, ℕ, ◌<◌, ◌≤◌, ◌⊎◌, List, length, take, slice_index, slice_get, Some, Contains}
use Rattle.nd_shape.specs.declared.chunk.ChunkSpec.{ChunkSpec}
use Rattle.nd_shape.specs.declared.error.ChunkError.{ChunkError}
use Rattle.nd_shape.specs.declared.error.ChunkError.TheVariants.{AxisCount, SumDiffers, ZeroChunk, OutOfMemory}
use Rattle.nd_shape.specs.Chunk.{CanCut, RefusesChunks}

-- each is an axis of n, and none is repeated
pub record AreAxes (n : ℕ) (axes : List ℕ) : Type 0 where
  pub inside : (k : ℕ) → k < length axes → slice_index axes k < n
  pub distinct : (j k : ℕ) → j < k → k < length axes → slice_index axes j ≢ slice_index axes k

-- the first of a list of axes that isn't one of n, or is there before it
pub record IsFirstBadAxis (n : ℕ) (axes : List ℕ) (axis : ℕ) : Type 0 where
  pub at : ℕ
  pub inside : at < length axes
  pub axis_is : slice_index axes at ≡ axis
  pub before : AreAxes n (take at axes)
  pub here : (n ≤ axis) ⊎ Contains (take at axes) axis

-- ---- chunks

-- each axis is cut by its own specification
pub record AreCut (dims : List ℕ) (chunks : List ChunkSpec) : Type 0 where
  pub axes : length chunks ≡ length dims
  pub each : (k : ℕ) (spec : ChunkSpec) → slice_get chunks k ≡ Some spec → CanCut (slice_index dims k) spec

-- the first axis whose specification doesn't fit, and why
pub record IsFirstUncut (dims : List ℕ) (chunks : List ChunkSpec) (axis : ℕ) (e : ChunkError) : Type 0 where
  pub axes : length chunks ≡ length dims
  pub here : ChunkSpec
  pub is : slice_get chunks axis ≡ Some here
  pub before : (k : ℕ) (spec : ChunkSpec) → k < axis → slice_get chunks k ≡ Some spec → CanCut (slice_index dims k) spec
  pub refused : RefusesChunks axis (slice_index dims axis) here e

-- why an array isn't cut: another number of axes, then axis by axis
abbrev pub RefusesCut : List ℕ → List ChunkSpec → ChunkError → Type 0
RefusesCut dims chunks (AxisCount given axes) = (given ≡ length chunks) × (axes ≡ length dims) × (given ≢ axes)
RefusesCut dims chunks (SumDiffers axis sum len) = IsFirstUncut dims chunks axis (SumDiffers axis sum len)
RefusesCut dims chunks (ZeroChunk axis) = IsFirstUncut dims chunks axis (ZeroChunk axis)
RefusesCut dims chunks OutOfMemory = ⊥

-- ---- axes without elements

-- the least of the listed axes that has no element
pub record IsLeastIn (dims axes : List ℕ) (axis : ℕ) : Type 0 where
  pub folded : Contains axes axis
  pub empty : slice_index dims axis ≡ 0
  pub least : (k : ℕ) → k < axis → Contains axes k → slice_index dims k ≢ 0
