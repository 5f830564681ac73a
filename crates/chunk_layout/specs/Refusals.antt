-- Which specifications cut the axes of an array, and why others don't.
use Rattle.std.specs.Prelude.{◌≡◌, ◌≢◌, ℕ, ◌<◌, List, length, slice_index, slice_get, Some}
use Rattle.nd_shape.specs.declared.chunk.ChunkSpec.{ChunkSpec}
use Rattle.nd_shape.specs.declared.error.ChunkError.{ChunkError}
use Rattle.nd_shape.specs.declared.error.ChunkError.TheVariants.{AxisCount, SumDiffers, ZeroChunk, OutOfMemory}
use Rattle.nd_shape.specs.Chunk.{CanCut, RefusesChunks}

-- each axis is cut by its own specification
pub record AreCut (dims : List ℕ) (specs : List ChunkSpec) : Type 0 where
  pub axes : length specs ≡ length dims
  pub each : (k : ℕ) (spec : ChunkSpec) → slice_get specs k ≡ Some spec → CanCut (slice_index dims k) spec

-- the first axis whose specification doesn't fit, and why
pub record IsFirstUncut (dims : List ℕ) (specs : List ChunkSpec) (axis : ℕ) (e : ChunkError) : Type 0 where
  pub axes : length specs ≡ length dims
  pub here : ChunkSpec
  pub is : slice_get specs axis ≡ Some here
  pub before : (k : ℕ) (spec : ChunkSpec) → k < axis → slice_get specs k ≡ Some spec → CanCut (slice_index dims k) spec
  pub refused : RefusesChunks axis (slice_index dims axis) here e

-- why an array isn't cut: another number of axes, then axis by axis
abbrev pub RefusesCut : List ℕ → List ChunkSpec → ChunkError → Type 0
RefusesCut dims specs (AxisCount given axes) = (given ≡ length specs) × (axes ≡ length dims) × (given ≢ axes)
RefusesCut dims specs (SumDiffers axis sum len) = IsFirstUncut dims specs axis (SumDiffers axis sum len)
RefusesCut dims specs (ZeroChunk axis) = IsFirstUncut dims specs axis (ZeroChunk axis)
RefusesCut dims specs OutOfMemory = Unit {0}
