use Rattle.std.proofs.Common.{◌≡◌, ◌&&◌, ◌||◌, ℕ, leb}
use Rattle.std.proofs.Math.Dec.{eqb}
use Rattle.cluster_rules.specs.Sched.{holds}
use Rattle.task_table.specs.Tasks.{facts}
use Rattle.sched_changes.specs.Follows.{Follows}
use Rattle.sched_changes.specs.Pairs.{has_pair}
use Rattle.scheduler_core.specs.Dropped.{copies_up_to}
use Rattle.scheduler_core.proofs.settling.drop_everywhere.Given as goal

abbrev pub invariant-loop-before : goal.invariant-loop-before
invariant-loop-before l = let f = facts l.fn.table in record {
  facts : facts l.table ≡ copies_up_to l.key f l.before;
  follows : Follows l.fn.table l.table;
  lost : (w j : ℕ) → has_pair l.lost w j ≡ (has_pair l.fn.lost w j || (holds f w j && (eqb j l.key && (leb 1 w && leb w l.before))));
}
