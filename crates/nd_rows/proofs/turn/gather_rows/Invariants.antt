use Rattle.std.proofs.Common.{◌≡◌, ◌<◌, ◌*◌, ℕ, get_or, pos}
use Rattle.nd_rows.specs.Storage.{from_column}
use Rattle.nd_rows.proofs.turn.gather_rows.Given as goal

abbrev pub invariant-loop-row : goal.invariant-loop-row
invariant-loop-row l = (p : ℕ) → p < l.row * l.row_len → get_or l.block p (pos 0) ≡ from_column l.shape l.cells p
