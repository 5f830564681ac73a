use Rattle.std.proofs.Common.{◌≡◌, ℕ, ◌-◌, ◌≤◌, ◌&&◌, ◌||◌, nat_lt}
use Rattle.key_sets.specs.Sets.{has, room}
use Rattle.spread_flags.specs.Spread.{size}
use Rattle.task_table.proofs.marks.mark_changed.Given as goal

abbrev pub invariant-loop-key : goal.invariant-loop-key
invariant-loop-key l = record {
  marked : (k : ℕ) → has l.marks k ≡ (has l.fn.marks k || (nat_lt k l.from && has l.flags.changed k));
  room : room l.marks ≡ room l.fn.marks;
  within : l.from ≤ size l.flags;
}

abbrev pub decreases-loop-key : goal.decreases-loop-key
decreases-loop-key l = size l.flags - l.from
