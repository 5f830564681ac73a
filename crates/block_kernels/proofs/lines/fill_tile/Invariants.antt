use Rattle.block_kernels.proofs.Tiles.{Tiled}
use Rattle.block_kernels.proofs.lines.fill_tile.Given as goal

abbrev pub invariant-loop-k : goal.invariant-loop-k
invariant-loop-k l = Tiled l.cells l.firsts l.seconds l.run l.from l.to l.k l.initial.out l.out
