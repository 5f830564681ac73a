use Rattle.std.proofs.Common.{◌≡◌, map, take, get_or}
use Rattle.block_lowering.proofs.reading.lengths_on.Given as goal

abbrev pub invariant-loop-axis : goal.invariant-loop-axis
invariant-loop-axis l = l.lengths.items ≡ map (λ a. get_or l.dims a 0) (take l.axis-index l.axes)
