use Rattle.std.proofs.Common.{◌≡◌, take}
use Rattle.cluster_msgs.specs.Shape.{edge_count}
use Rattle.task_graph.specs.Graphs.{shape_of}
use Rattle.task_graph.proofs.moves.edges_of.Given as goal

abbrev pub invariant-loop-task : goal.invariant-loop-task
invariant-loop-task l = l.total ≡ edge_count (shape_of (take l.task-index l.tasks))
