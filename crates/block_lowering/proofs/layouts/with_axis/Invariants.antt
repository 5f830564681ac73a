use Rattle.std.proofs.Common.{◌≡◌, take, slice_set}
use Rattle.block_lowering.proofs.layouts.with_axis.Given as goal

abbrev pub invariant-loop-k : goal.invariant-loop-k
invariant-loop-k l = l.list.items ≡ take l.k (slice_set l.axes l.axis l.cuts)
