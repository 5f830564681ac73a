use Rattle.std.proofs.Common.{◌≡◌, ◌≤◌, ◌*◌, take}
use Rattle.nd_shape.specs.Chunk.{total}
use Rattle.nd_shape.proofs.chunk.sum_of.Given as goal

abbrev pub invariant-loop-size : goal.invariant-loop-size
invariant-loop-size l = record { sum : l.sum ≡ total (take l.size-index l.sizes); bound : l.sum ≤ l.size-index * 18446744073709551615 }
