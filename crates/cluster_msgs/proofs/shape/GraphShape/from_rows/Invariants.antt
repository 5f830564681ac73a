use Rattle.std.proofs.Common.{take}
use Rattle.cluster_msgs.proofs.StoredLemmas.{AreSummed}
use Rattle.cluster_msgs.proofs.shape.GraphShape.from_rows.Given as goal

abbrev pub invariant-loop-key : goal.invariant-loop-key
invariant-loop-key l = AreSummed (take l.key l.row-items) l.edge_total
