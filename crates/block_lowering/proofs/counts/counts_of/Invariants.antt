use Rattle.std.proofs.Common.{◌≡◌, take}
use Rattle.chunk_layout.specs.Layouts.{counts}
use Rattle.block_lowering.proofs.counts.counts_of.Given as goal

abbrev pub invariant-loop-cuts : goal.invariant-loop-cuts
invariant-loop-cuts l = l.list.items ≡ counts (take l.cuts-index l.axes)
