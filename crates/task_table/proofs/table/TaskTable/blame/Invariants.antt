use Rattle.std.proofs.Common.{◌≡◌}
use Rattle.cluster_rules.specs.Sched.{blame}
use Rattle.task_table.specs.Tasks.{facts}
use Rattle.task_table.proofs.table.TaskTable.blame.Given as goal

abbrev pub invariant-loop-next : goal.invariant-loop-next
invariant-loop-next l = blame (facts l.self) l.at ≡ blame (facts l.self) l.key

abbrev pub decreases-loop-next : goal.decreases-loop-next
decreases-loop-next l = l.at
