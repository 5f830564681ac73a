use Rattle.std.proofs.Common.{vec_len}
use Rattle.turn_cell.proofs.row.+close_all.Given as goal

abbrev pub decreases-close_all : goal.decreases-close_all
decreases-close_all g a = vec_len a.cells
