use Rattle.std.proofs.Common.{◌≡◌, ◌+◌, None}
use Rattle.fact_rows.specs.Rows.{cell, height, width}
use Rattle.cluster_nodes.proofs.opening.add_nodes.Given as goal

abbrev pub invariant-loop-node : goal.invariant-loop-node
invariant-loop-node g l = record {
  high : height l.shelf ≡ height l.fn.shelf + l._node;
  wide : width l.shelf ≡ width l.fn.shelf;
  same : cell l.shelf None ≡ cell l.fn.shelf None;
}
