use Rattle.std.proofs.Common.{◌≡◌, ◌+◌, map, get_or, pos, Some}
use Rattle.std.specs.List.{range_with_len}
use Rattle.nd_grid.specs.Operation.{folded_from}
use Rattle.block_kernels.proofs.reduce.fold_line.Given as goal

abbrev pub invariant-loop-q : goal.invariant-loop-q
invariant-loop-q g l = folded_from (g.F.Folding.fold l.folding) (Some l.total) (map (λ q. Some (get_or l.cells (l.from + q) (pos 0))) (range_with_len 0 l.q)) ≡ Some l.all
