use Rattle.std.proofs.Common.{◌≡◌, ℕ, ◌<◌, get_or, pos, Some}
use Rattle.nd_grid.specs.Operation.{apply}
use Rattle.block_kernels.proofs.binary.fill_pairs.Given as goal

abbrev pub invariant-loop-i : goal.invariant-loop-i
invariant-loop-i g l = (k : ℕ) → k < l.i → apply (g.O.Operation.binary l.op) (g.L.Source.value l.left k) (g.R.Source.value l.right k) ≡ Some (get_or l.out k (pos 0))
