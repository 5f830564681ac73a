use Rattle.std.proofs.Common.{◌≡◌, ◌≤◌, length, drop}
use Rattle.task_graph.specs.Orders.{ascending}
use Rattle.block_lowering.proofs.lists.in_order.Given as goal

abbrev pub invariant-loop-place : goal.invariant-loop-place
invariant-loop-place l = record {
  there : l.place ≤ length l.keys;
  list : l.list.items ≡ ascending (drop l.place l.keys);
}

abbrev pub decreases-loop-place : goal.decreases-loop-place
decreases-loop-place l = l.place
