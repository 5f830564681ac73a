use Rattle.std.proofs.Common.{map}
use Rattle.turn_cell.specs.Rows.{berth_of}
use Rattle.driver_rows.proofs.run.run_cells.Given as goal

abbrev pub ghosts-run_at-KS-Places : goal.ghosts-run_at-KS-Places
ghosts-run_at-KS-Places g a = record { berths = map (λ p. berth_of p.seat) a.scheduler.passes.items; total = a.scheduler.parts }

abbrev pub ghosts-run_at-KW-Places : goal.ghosts-run_at-KW-Places
ghosts-run_at-KW-Places g a = record { berths = map (λ p. berth_of p.seat) a.workers.passes.items; total = a.workers.parts }

abbrev pub ghosts-run_at-KC-Places : goal.ghosts-run_at-KC-Places
ghosts-run_at-KC-Places g a = record { berths = map (λ p. berth_of p.seat) a.clients.passes.items; total = a.clients.parts }
