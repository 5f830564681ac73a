use Rattle.std.proofs.Common.{◌≢◌, ℕ, ◌<◌, get_or, pos}
use Rattle.block_kernels.proofs.binary.zero_in.Given as goal

abbrev pub invariant-loop-i : goal.invariant-loop-i
invariant-loop-i l = (k : ℕ) → k < l.i → get_or l.cells k (pos 0) ≢ pos 0
