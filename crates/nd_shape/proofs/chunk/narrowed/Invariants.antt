use Rattle.std.proofs.Common.{◌≡◌, take}
use Rattle.nd_shape.proofs.chunk.narrowed.Given as goal

abbrev pub invariant-loop-size : goal.invariant-loop-size
invariant-loop-size l = l.narrow.items ≡ take l.size-index l.sizes
