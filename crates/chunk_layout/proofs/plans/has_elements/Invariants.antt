use Rattle.std.proofs.Common.{◌≢◌, ℕ, ◌<◌, [], get_or}
use Rattle.chunk_layout.proofs.plans.has_elements.Given as goal

abbrev pub invariant-loop-axis : goal.invariant-loop-axis
invariant-loop-axis l = (k : ℕ) → k < l.axis → get_or (get_or l.axes k []) (get_or l.numbers k 0) 0 ≢ 0
