use Rattle.std.proofs.Common.{take}
use Rattle.node_runner.specs.Runs.{NoneForMemory}
use Rattle.node_runner.proofs.ends.none_starved.Given as goal

abbrev pub invariant-loop-cause : goal.invariant-loop-cause
invariant-loop-cause l = NoneForMemory (take l.cause-index l.left)
