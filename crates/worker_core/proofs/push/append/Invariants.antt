use Rattle.std.proofs.Common.{◌≡◌, ◌++◌}
use Rattle.worker_core.proofs.push.append.Given as goal

abbrev pub invariant-loop-instruction : goal.invariant-loop-instruction
invariant-loop-instruction l = l.out ≡ l.fn.out ++ l.yielded
