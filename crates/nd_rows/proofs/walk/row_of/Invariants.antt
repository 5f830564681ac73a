use Rattle.nd_rows.specs.Storage.{IsRow}
use Rattle.nd_rows.proofs.Spots.{walk_to}
use Rattle.nd_rows.proofs.walk.row_of.Given as goal

abbrev pub invariant-loop-axis : goal.invariant-loop-axis
invariant-loop-axis l = IsRow (walk_to l.axis l.dims l.region.start l.region.lengths) l.row
