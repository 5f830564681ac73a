use Rattle.std.proofs.Common.{◌≡◌, length, drop}
use Rattle.cluster_msgs.specs.Shape.{deps_of}
use Rattle.task_graph.specs.Graphs.{shape_of}
use Rattle.task_graph.specs.Orders.{visit_all}
use Rattle.task_graph.specs.Walks.{visit}
use Rattle.task_graph.proofs.orders.visit_each.Given as goal

abbrev pub invariant-loop-key : goal.invariant-loop-key
invariant-loop-key l = record {
  whole : l.numbers.keys ≡ length l.tasks;
  same : visit_all (visit (deps_of (shape_of l.tasks))) (drop l.key-index l.keys) l.numbers.order ≡ visit_all (visit (deps_of (shape_of l.tasks))) l.keys l.fn.numbers.order;
}
