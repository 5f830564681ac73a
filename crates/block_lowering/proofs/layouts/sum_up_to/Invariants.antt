use Rattle.std.proofs.Common.{◌≡◌, ◌+◌, ◌<◌, ◌≤◌, ◌^◌, drop}
use Rattle.nd_shape.specs.Chunk.{total}
use Rattle.block_lowering.proofs.layouts.sum_up_to.Given as goal

abbrev pub invariant-loop-size : goal.invariant-loop-size
invariant-loop-size l = record {
  small : l.sum ≤ 2 ^ 32;
  same : l.sum < 2 ^ 32 → l.sum + total (drop l.size-index l.sizes) ≡ total l.sizes;
}
