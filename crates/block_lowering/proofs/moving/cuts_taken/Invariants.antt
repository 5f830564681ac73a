use Rattle.std.proofs.Common.{◌≡◌, map, take}
use Rattle.chunk_layout.specs.Slices.{counts_taken}
use Rattle.block_lowering.proofs.moving.cuts_taken.Given as goal

abbrev pub invariant-loop-list : goal.invariant-loop-list
invariant-loop-list l = l.axes.items ≡ map counts_taken (take l.list-index l.pieces)
