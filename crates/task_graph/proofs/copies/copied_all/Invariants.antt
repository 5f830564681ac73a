use Rattle.std.proofs.Common.{◌≡◌, take}
use Rattle.task_graph.proofs.copies.copied_all.Given as goal

abbrev pub invariant-loop-task : goal.invariant-loop-task
invariant-loop-task l = l.copies.items ≡ take l.task-index l.tasks
