use Rattle.std.proofs.Common.{◌≡◌, ◌++◌, ◌-◌}
use Rattle.job_text.specs.Nodes.{axes_down}
use Rattle.job_text.proofs.operands.axes_down.Given as goal

abbrev pub invariant-loop-k : goal.invariant-loop-k
invariant-loop-k l = l.axes ++ axes_down (l.n - l.k) ≡ axes_down l.n
