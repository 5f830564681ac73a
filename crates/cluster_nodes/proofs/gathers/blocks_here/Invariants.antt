use Rattle.std.proofs.Common.{◌≡◌, None, take}
use Rattle.std.specs.List.{filter_map}
use Rattle.cluster_msgs.specs.Jobs.{blocks_of}
use Rattle.fact_rows.specs.Rows.{cell}
use Rattle.cluster_nodes.specs.Nodes.{block_at}
use Rattle.cluster_nodes.proofs.gathers.blocks_here.Given as goal

abbrev pub invariant-loop-key : goal.invariant-loop-key
invariant-loop-key g l = blocks_of l.blocks ≡ filter_map (λ k. block_at (cell l.shelf None l.node k)) (take l.key-index l.keys)
