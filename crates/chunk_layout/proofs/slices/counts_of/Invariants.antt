use Rattle.std.proofs.Common.{◌≡◌, take}
use Rattle.chunk_layout.specs.Slices.{counts_taken}
use Rattle.chunk_layout.proofs.slices.counts_of.Given as goal

abbrev pub invariant-loop-piece : goal.invariant-loop-piece
invariant-loop-piece l = l.sizes.items ≡ counts_taken (take l.piece-index l.pieces)
