use Rattle.std.proofs.Common.{◌<◌, ◌+◌, ℕ}
use Rattle.saved_files.specs.Rows.{Follows, runs_at}
use Rattle.saved_files.proofs.rows.are_side_by_side.Given as goal

abbrev pub invariant-loop-next : goal.invariant-loop-next
invariant-loop-next l = (k : ℕ) → k + 1 < l.next → Follows (runs_at l.all k) (runs_at l.all (k + 1))
