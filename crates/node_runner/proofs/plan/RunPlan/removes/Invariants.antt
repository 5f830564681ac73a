use Rattle.std.proofs.Common.{◌≤◌, ◌+◌, map, drop}
use Rattle.std.specs.Prelude.{sum}
use Rattle.cluster_msgs.specs.Scripts.{removes_of}
use Rattle.node_runner.specs.Runs.{removals}
use Rattle.node_runner.proofs.plan.RunPlan.removes.Given as goal

-- what is left is made up for by what the rest of the script doesn't have
abbrev pub invariant-loop-item : goal.invariant-loop-item
invariant-loop-item l = l.often + sum (map removes_of (drop l.item-index l.self.script)) ≤ l.left + removals l.self
