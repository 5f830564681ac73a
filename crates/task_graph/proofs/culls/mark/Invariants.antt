use Rattle.std.proofs.Common.{take}
use Rattle.task_graph.specs.Culls.{AreMarked}
use Rattle.task_graph.proofs.culls.mark.Given as goal

abbrev pub invariant-loop-key : goal.invariant-loop-key
invariant-loop-key l = AreMarked l.fn.marks (take l.key-index l.keys) l.marks
