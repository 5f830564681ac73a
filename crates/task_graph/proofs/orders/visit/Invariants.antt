use Rattle.std.proofs.Common.{length}
use Rattle.cluster_msgs.specs.Shape.{deps_of}
use Rattle.task_graph.specs.Graphs.{shape_of}
use Rattle.task_graph.specs.Walks.{frames_weight}
use Rattle.task_graph.proofs.Walked.{IsVisiting}
use Rattle.task_graph.proofs.orders.visit.Given as goal

abbrev pub invariant-loop-frame : goal.invariant-loop-frame
invariant-loop-frame l = IsVisiting (deps_of (shape_of l.tasks)) (length l.tasks) l.key l.fn.numbers.order l.begun l.numbers

abbrev pub decreases-loop-frame : goal.decreases-loop-frame
decreases-loop-frame l = frames_weight (deps_of (shape_of l.tasks)) l.begun
