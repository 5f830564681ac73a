use Rattle.std.proofs.Common.{◌≡◌, take}
use Rattle.job_run.specs.Plan.{input_shapes}
use Rattle.job_run.proofs.inputs.declared_shapes.Given as goal

abbrev pub invariant-loop-node : goal.invariant-loop-node
invariant-loop-node l = l.shapes.items ≡ input_shapes (take l.node-index l.nodes)
