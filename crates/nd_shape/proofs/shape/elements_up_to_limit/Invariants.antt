use Rattle.std.proofs.Common.{◌≡◌, ◌+◌, ◌^◌, min, take}
use Rattle.nd_shape.specs.Shape.{elements}
use Rattle.nd_shape.proofs.shape.elements_up_to_limit.Given as goal

abbrev pub invariant-loop-len : goal.invariant-loop-len
invariant-loop-len l = l.count ≡ min (elements (take l.len-index l.lengths)) (2 ^ 31 + 1)
