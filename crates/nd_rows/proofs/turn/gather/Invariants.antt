use Rattle.std.proofs.Common.{◌≡◌, ◌<◌, ◌+◌, ◌*◌, ℕ, get_or, pos}
use Rattle.nd_rows.proofs.turn.gather.Given as goal

abbrev pub invariant-loop-k : goal.invariant-loop-k
invariant-loop-k l = (j : ℕ) → j < l.k → get_or l.row j (pos 0) ≡ get_or l.cells (l.at + j * l.stride) (pos 0)
