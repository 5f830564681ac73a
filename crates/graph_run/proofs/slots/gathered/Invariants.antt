use Rattle.std.proofs.Common.{◌≡◌, take, map}
use Rattle.std.specs.Prelude.{Some}
use Rattle.cluster_msgs.specs.Jobs.{blocks_of}
use Rattle.graph_run.specs.Slots.{block_at}
use Rattle.graph_run.proofs.slots.gathered.Given as goal

abbrev pub invariant-loop-key : goal.invariant-loop-key
invariant-loop-key g l = map (λ b. Some b) (blocks_of l.blocks.items) ≡ map (block_at l.slots) (take l.key-index l.keys)
