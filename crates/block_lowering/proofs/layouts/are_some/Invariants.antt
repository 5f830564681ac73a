use Rattle.std.proofs.Common.{drop}
use Rattle.chunk_layout.specs.Cuts.{AllSome}
use Rattle.block_lowering.proofs.layouts.are_some.Given as goal

abbrev pub invariant-loop-size : goal.invariant-loop-size
invariant-loop-size l = AllSome (drop l.size-index l.sizes) → AllSome l.sizes
