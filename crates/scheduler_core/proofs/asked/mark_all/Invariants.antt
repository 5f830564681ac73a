use Rattle.std.proofs.Common.{◌≡◌, ℕ, take, ◌||◌}
use Rattle.cluster_rules.specs.Derived.{is_in}
use Rattle.key_sets.specs.Sets.{has, room}
use Rattle.scheduler_core.proofs.asked.mark_all.Given as goal

abbrev pub invariant-loop-key : goal.invariant-loop-key
invariant-loop-key l = record {
  marked : (k : ℕ) → has l.marks k ≡ (has l.fn.marks k || is_in k (take l.key-index l.named));
  room : room l.marks ≡ room l.fn.marks;
}
