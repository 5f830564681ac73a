use Rattle.std.proofs.Common.{◌≡◌, take, fold}
use Rattle.cluster_msgs.specs.Jobs.{blocks_of}
use Rattle.runner_table.specs.Sums.{mixed_in}
use Rattle.runner_table.proofs.sums.mixed.Given as goal

abbrev pub invariant-loop-input : goal.invariant-loop-input
invariant-loop-input l = l.value ≡ fold mixed_in 0 (blocks_of (take l.input-index l.inputs))
