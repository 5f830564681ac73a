use Rattle.std.proofs.Common.{map}
use Rattle.turn_cell.specs.Rows.{berth_of}
use Rattle.cell_table.proofs.turns.turns.Given as goal

abbrev pub ghosts-turns_at : goal.ghosts-turns_at
ghosts-turns_at g a = record { berths = map (λ p. berth_of p.seat) a.made.passes.items; total = a.made.parts }
