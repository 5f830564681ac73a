use Rattle.std.proofs.Common.{◌≡◌, ℕ, ◌<◌, ◌-◌, ◌*◌, get_or, pos}
use Rattle.block_kernels.proofs.gather.gather_down.Given as goal

abbrev pub invariant-loop-i : goal.invariant-loop-i
invariant-loop-i l = (k : ℕ) → k < l.i → get_or l.out k (pos 0) ≡ get_or l.cells (l.first - k * l.jump) (pos 0)
