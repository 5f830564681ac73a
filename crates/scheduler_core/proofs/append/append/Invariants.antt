use Rattle.std.proofs.Common.{◌≡◌, ◌++◌}
use Rattle.scheduler_core.proofs.append.append.Given as goal

abbrev pub invariant-loop-item : goal.invariant-loop-item
invariant-loop-item g l = l.out ≡ l.fn.out ++ l.yielded
