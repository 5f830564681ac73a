use Rattle.std.proofs.Common.{◌≡◌, ◌<◌, ◌+◌, ℕ, get_or}
use Rattle.npy_region.specs.Runs.{no_run}
use Rattle.saved_files.proofs.rows.follows.Given as goal

abbrev pub invariant-loop-row : goal.invariant-loop-row
invariant-loop-row l = (r : ℕ) → r < l.row → (get_or l.right r no_run).offset ≡ (get_or l.left r no_run).offset + (get_or l.left r no_run).length
