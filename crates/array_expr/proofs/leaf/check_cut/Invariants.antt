use Rattle.std.proofs.Common.{◌≡◌, ℕ, ◌<◌, Some, get_or}
use Rattle.std.specs.Prelude.{slice_get}
use Rattle.nd_shape.specs.declared.chunk.ChunkSpec.{ChunkSpec}
use Rattle.nd_shape.specs.Chunk.{CanCut}
use Rattle.array_expr.proofs.leaf.check_cut.Given as goal

abbrev pub invariant-loop-axis : goal.invariant-loop-axis
invariant-loop-axis l = (k : ℕ) (spec : ChunkSpec) → k < l.axis → slice_get l.chunks k ≡ Some spec → CanCut (get_or l.dims k 0) spec
