use Rattle.std.proofs.Common.{ℕ, ◌+◌, ◌<◌, ◌≤◌, get_or}
use Rattle.nd_shape.proofs.region.Region.is_part.Given as goal

abbrev pub invariant-loop-axis : goal.invariant-loop-axis
invariant-loop-axis l = (k : ℕ) → k < l.axis → get_or l.starts k 0 + get_or l.lengths k 0 ≤ get_or l.dims k 0
