use Rattle.std.proofs.Common.{◌≡◌, ℕ, ◌<◌, get_or, pos}
use Rattle.nd_grid.specs.Operation.{pick}
use Rattle.block_kernels.proofs.choice.fill_choices.Given as goal

abbrev pub invariant-loop-i : goal.invariant-loop-i
invariant-loop-i g l = (k : ℕ) → k < l.i → pick (g.C.Source.value l.condition k) (g.A.Source.value l.first k) (g.B.Source.value l.second k) ≡ get_or l.out k (pos 0)
