use Rattle.std.proofs.Common.{◌≡◌}
use Rattle.cell_table.proofs.drawn.play.Given as goal

abbrev pub invariant-loop : goal.invariant-loop
invariant-loop g l =
    (l.seat.seat.table_id ≡ l.ticker.table.shared.table_id) × (l.other.seat.table_id ≡ l.ticker.table.shared.table_id)
