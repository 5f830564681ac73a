use Rattle.plain_block.specs.Placing.{ArePlaced}
use Rattle.plain_block.proofs.placing.put_cells.Given as goal

abbrev pub invariant-loop-p : goal.invariant-loop-p
invariant-loop-p l = ArePlaced l.shape l.region l.part.cells l.cells l.p
