use Rattle.std.proofs.Common.{◌≡◌, map, take}
use Rattle.task_graph.specs.Pushes.{row_of}
use Rattle.task_graph.proofs.graph.rows.Given as goal

abbrev pub invariant-loop-task : goal.invariant-loop-task
invariant-loop-task l = l.rows.items ≡ map row_of (take l.task-index l.tasks)
