use Rattle.std.proofs.Common.{◌≡◌, ◌≤◌, length, take}
use Rattle.job_run.specs.Plan.{input_shapes}
use Rattle.job_run.proofs.check.input_count.Given as goal

abbrev pub invariant-loop-node : goal.invariant-loop-node
invariant-loop-node l = record {
  count : l.count ≡ length (input_shapes (take l.node-index l.nodes));
  few : l.count ≤ l.node-index;
}
