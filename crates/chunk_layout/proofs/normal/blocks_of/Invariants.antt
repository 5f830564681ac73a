use Rattle.std.proofs.Common.{◌≡◌, ℕ, ◌<◌, ◌-◌, ◌^◌, min, take, Some, get_or}
use Rattle.std.specs.Prelude.{slice_get}
use Rattle.nd_shape.specs.declared.chunk.ChunkSpec.{ChunkSpec}
use Rattle.nd_shape.specs.Chunk.{CanCut}
use Rattle.chunk_layout.specs.Layouts.{blocks, normalized}
use Rattle.chunk_layout.proofs.normal.blocks_of.Given as goal

abbrev pub invariant-loop-axis : goal.invariant-loop-axis
invariant-loop-axis l = record {
  cut : (k : ℕ) (spec : ChunkSpec) → k < l.axis → slice_get l.specs k ≡ Some spec → CanCut (get_or l.dims k 0) spec;
  count_is : l.count ≡ min (blocks (normalized (take l.axis l.dims) (take l.axis l.specs))) (2 ^ 64 - 1);
}
