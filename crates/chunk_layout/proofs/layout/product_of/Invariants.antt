use Rattle.std.proofs.Common.{◌≡◌, ◌-◌, ◌^◌, min, take}
use Rattle.chunk_layout.specs.Layouts.{blocks}
use Rattle.chunk_layout.proofs.layout.product_of.Given as goal

abbrev pub invariant-loop-cuts : goal.invariant-loop-cuts
invariant-loop-cuts l = l.count ≡ min (blocks (take l.cuts-index l.axes)) (2 ^ 64 - 1)
