use Rattle.std.proofs.Common.{◌≡◌, take}
use Rattle.block_lowering.proofs.layouts.copied_layout.Given as goal

abbrev pub invariant-loop-cuts : goal.invariant-loop-cuts
invariant-loop-cuts l = l.copies.items ≡ take l.cuts-index l.axes
