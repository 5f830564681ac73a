use Rattle.std.proofs.Common.{◌≡◌, ℕ, ◌-◌, ◌≤◌, ◌&&◌, nat_lt, cond}
use Rattle.key_sets.specs.Sets.{has}
use Rattle.cluster_rules.specs.Sched.{keys}
use Rattle.sched_facts.specs.Stored.{facts_of}
use Rattle.task_table.specs.Standing.{root_by, other_by}
use Rattle.task_table.specs.Parts.{SameRooms}
use Rattle.task_table.proofs.queues.requeue_all.Given as goal

abbrev pub invariant-loop-key : goal.invariant-loop-key
invariant-loop-key l = record {
  roots : (k : ℕ) → has l.queues.roots k ≡ cond (nat_lt k l.from && has l.marks k) (root_by (facts_of l.table) l.levels k) (has l.fn.queues.roots k);
  others : (k : ℕ) → has l.queues.others k ≡ cond (nat_lt k l.from && has l.marks k) (other_by (facts_of l.table) l.levels k) (has l.fn.queues.others k);
  rooms : SameRooms l.fn.queues l.queues;
  within : l.from ≤ keys (facts_of l.table);
}

abbrev pub decreases-loop-key : goal.decreases-loop-key
decreases-loop-key l = keys (facts_of l.table) - l.from
