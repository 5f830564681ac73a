use Rattle.std.proofs.Common.{◌≡◌, ℕ, ◌<◌, get_or, pos, ◌+ℤ◌, ◌*ℤ◌}
use Rattle.nd_grid.specs.Int64.{wrap}
use Rattle.block_kernels.proofs.slope.fill_slope.Given as goal

abbrev pub invariant-loop-i : goal.invariant-loop-i
invariant-loop-i l = (k : ℕ) → k < l.i → get_or l.out k (pos 0) ≡ wrap (l.first +ℤ (l.step *ℤ pos k))
