use Rattle.std.proofs.Common.{◌≡◌, ◌-◌, ◌^◌, min, take}
use Rattle.nd_shape.specs.Shape.{elements}
use Rattle.block_lowering.proofs.counts.product_of.Given as goal

abbrev pub invariant-loop-count : goal.invariant-loop-count
invariant-loop-count l = l.product ≡ min (elements (take l.count-index l.counts)) (2 ^ 64 - 1)
