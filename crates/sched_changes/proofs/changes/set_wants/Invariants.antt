use Rattle.std.proofs.Common.{◌≡◌, ◌&&◌, cond, take}
use Rattle.std.proofs.Math.Dec.{eqb}
use Rattle.cluster_rules.specs.Derived.{is_in}
use Rattle.task_table.specs.Tasks.{facts}
use Rattle.sched_changes.specs.Follows.{Follows, AreTouched}
use Rattle.sched_changes.proofs.changes.set_wants.Given as goal

abbrev pub invariant-loop-key : goal.invariant-loop-key
invariant-loop-key l = let f = facts l.fn.table in record {
  facts : facts l.table ≡ record f { want = λ d k. cond (eqb d l.client && is_in k (take l.key-index l.named)) l.to (f.want d k) };
  follows : Follows l.fn.table l.table;
  named : AreTouched l.table (take l.key-index l.named);
}
