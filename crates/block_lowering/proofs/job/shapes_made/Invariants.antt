use Rattle.std.proofs.Common.{◌≡◌, map, take}
use Rattle.task_graph.specs.declared.graph.Task.{Task}
use Rattle.block_kernels.specs.Kernels.{result_shape}
use Rattle.block_lowering.proofs.job.shapes_made.Given as goal

abbrev pub invariant-loop-task : goal.invariant-loop-task
invariant-loop-task l = l.shapes.items ≡ map (λ (t : Task). result_shape t.spec) (take l.task-index l.tasks)
