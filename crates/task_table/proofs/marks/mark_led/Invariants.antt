use Rattle.std.proofs.Common.{◌≡◌, ℕ, ◌-◌, ◌<◌, ◌≤◌, true}
use Rattle.cluster_rules.specs.Derived.{is_in}
use Rattle.key_sets.specs.Sets.{has, room}
use Rattle.spread_flags.specs.Spread.{size, targets}
use Rattle.task_table.proofs.marks.mark_led.Given as goal

abbrev pub invariant-loop-key : goal.invariant-loop-key
invariant-loop-key l = record {
  led : (j k : ℕ) → j < l.from → has l.flags.changed j ≡ true → is_in k (targets l.flags j) ≡ true → has l.marks k ≡ true;
  grows : (k : ℕ) → has l.fn.marks k ≡ true → has l.marks k ≡ true;
  past : (k : ℕ) → size l.flags ≤ k → has l.marks k ≡ has l.fn.marks k;
  room : room l.marks ≡ room l.fn.marks;
  within : l.from ≤ size l.flags;
}

abbrev pub decreases-loop-key : goal.decreases-loop-key
decreases-loop-key l = size l.flags - l.from
