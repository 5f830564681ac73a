use Rattle.std.proofs.Common.{length}
use Rattle.cluster_msgs.specs.Shape.{deps_of}
use Rattle.task_graph.specs.Graphs.{shape_of}
use Rattle.task_graph.proofs.Culled.{IsPass}
use Rattle.task_graph.proofs.culls.mark_needed.Given as goal

abbrev pub invariant-loop-key : goal.invariant-loop-key
invariant-loop-key l = IsPass (deps_of (shape_of l.tasks)) l.wanted (length l.tasks) l.key l.marks

abbrev pub decreases-loop-key : goal.decreases-loop-key
decreases-loop-key l = l.key
