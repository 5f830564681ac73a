use Rattle.std.proofs.Common.{◌≡◌, take}
use Rattle.chunk_layout.specs.Slices.{counts_taken}
use Rattle.block_lowering.proofs.moving.sizes_taken.Given as goal

abbrev pub invariant-loop-piece : goal.invariant-loop-piece
invariant-loop-piece l = l.sizes.items ≡ counts_taken (take l.piece-index l.pieces)
