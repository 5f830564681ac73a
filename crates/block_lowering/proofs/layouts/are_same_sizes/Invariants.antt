use Rattle.std.proofs.Common.{◌≡◌, drop}
use Rattle.lowering_laws.specs.Sources.{same_sizes}
use Rattle.block_lowering.proofs.layouts.are_same_sizes.Given as goal

abbrev pub invariant-loop-chunk : goal.invariant-loop-chunk
invariant-loop-chunk l = same_sizes (drop l.chunk l.a) (drop l.chunk l.b) ≡ same_sizes l.a l.b
