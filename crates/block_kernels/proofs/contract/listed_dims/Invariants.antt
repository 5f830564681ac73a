use Rattle.std.proofs.Common.{◌≡◌, map, get_or, take}
use Rattle.block_kernels.proofs.contract.listed_dims.Given as goal

abbrev pub invariant-loop-axis : goal.invariant-loop-axis
invariant-loop-axis l = l.lengths.items ≡ map (λ a. get_or l.dims a 0) (take l.axis-index l.axes)
