use Rattle.std.proofs.Common.{◌≡◌, ◌<◌, ℕ, get_or}
use Rattle.array_expr.proofs.result.unequal_pair.Given as goal

abbrev pub invariant-loop-place : goal.invariant-loop-place
invariant-loop-place l = (k : ℕ) → k < l.place → get_or l.left (get_or l.left_axes k 0) 0 ≡ get_or l.right (get_or l.right_axes k 0) 0
