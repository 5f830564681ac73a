use Rattle.std.proofs.Common.{map}
use Rattle.turn_cell.specs.Rows.{berth_of}
use Rattle.turn_cell.proofs.made.Made.close.Given as goal

abbrev pub ghosts-close_at : goal.ghosts-close_at
ghosts-close_at g a = record { berths = map (λ p. berth_of p.seat) a.self.passes.items; total = a.self.parts }
